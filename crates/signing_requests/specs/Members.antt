-- The names of what a request for a signature is made of (Web3Signer API, `eth2/sign`).
use Rattle.std.specs.Prelude.{ℕ, List, codes}
use Rattle.phase0_types.specs.Members.{member_name as shape_name}
use Rattle.phase0_types.specs.declared.fault.ReadFault.{ReadFault}
use Rattle.phase0_types.specs.declared.fault.ReadFault.TheVariants as fault
use Rattle.signing_requests.specs.declared.member.SigningMember.{SigningMember}
use Rattle.signing_requests.specs.declared.member.SigningMember.TheVariants as member

abbrev pub member_name : SigningMember → List ℕ
member_name member.Identifier = codes "identifier"
member_name member.Body = codes "body"
member_name member.Type = codes "type"
member_name member.ForkInfo = codes "fork_info"
member_name member.Fork = codes "fork"
member_name member.GenesisValidatorsRoot = codes "genesis_validators_root"
member_name member.Attestation = codes "attestation"
member_name member.BeaconBlock = codes "beacon_block"
member_name member.Version = codes "version"
member_name member.Block = codes "block"
member_name member.BlockHeader = codes "block_header"
member_name member.RandaoReveal = codes "randao_reveal"
member_name member.AggregationSlot = codes "aggregation_slot"
member_name member.VoluntaryExit = codes "voluntary_exit"
member_name member.SyncCommitteeMessage = codes "sync_committee_message"
member_name member.SyncAggregatorSelectionData = codes "sync_aggregator_selection_data"
member_name member.ContributionAndProof = codes "contribution_and_proof"
member_name member.AggregateAndProof = codes "aggregate_and_proof"
member_name member.ValidatorRegistration = codes "validator_registration"
member_name (member.Inside m) = shape_name m
member_name member.SigningRoot = codes "signingRoot"
member_name member.SigningRootInSnakeCase = codes "signing_root"

-- the member that a container's fault names; the whole where the value itself is no object
abbrev pub inside : SigningMember → ReadFault → SigningMember
inside whole fault.Json = whole
inside whole (fault.Missing m) = member.Inside m
inside whole (fault.BadNumber m) = member.Inside m
inside whole (fault.BadHex m) = member.Inside m
inside whole (fault.TooLong m) = member.Inside m
