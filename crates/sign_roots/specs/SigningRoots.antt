-- The root that is signed for an object (consensus-specs, `compute_signing_root`).
use Rattle.std.specs.Prelude.{ℕ, ◌/◌, List}
use Rattle.phase0_types.specs.Roots.{root_of}
use Rattle.phase0_types.specs.Containers.{attestation_data, beacon_block_header, signing_data}
use Rattle.phase0_types.specs.Attestations.{attestation_data_value}
use Rattle.phase0_types.specs.Forks.{signing_data_value}
use Rattle.phase0_types.specs.Headers.{beacon_block_header_value}
use Rattle.phase0_types.specs.declared.attestation.AttestationData.{AttestationData}
use Rattle.phase0_types.specs.declared.header.BeaconBlockHeader.{BeaconBlockHeader}
use Rattle.sign_roots.specs.Domains.{domain_of}
use Rattle.sign_roots.specs.declared.domains.Domains.{Domains}
use Rattle.sign_roots.specs.declared.kind.DomainKind.TheVariants as kind

-- the root of `SigningData`, from the object's root and the domain
unfoldable pub signing_root_of : List ℕ → List ℕ → List ℕ
signing_root_of object_root domain = root_of signing_data (signing_data_value (record { object_root = record { 0 = object_root }; domain = domain }))

-- how many slots an epoch has (`SLOTS_PER_EPOCH`)
abbrev pub slots_per_epoch : ℕ
slots_per_epoch = 32

-- what a proposer signs for a block with this header (`get_block_signature`)
unfoldable pub block_root_of : Domains → BeaconBlockHeader → List ℕ
block_root_of domains header = signing_root_of (root_of beacon_block_header (beacon_block_header_value header)) (domain_of domains kind.BeaconProposer (header.slot / slots_per_epoch))

-- what an attester signs for a vote (`get_attestation_signature`)
unfoldable pub attestation_root_of : Domains → AttestationData → List ℕ
attestation_root_of domains details = signing_root_of (root_of attestation_data (attestation_data_value details)) (domain_of domains kind.BeaconAttester details.target.epoch)
