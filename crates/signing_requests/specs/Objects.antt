-- What is to be signed, and the root of it that is signed (consensus-specs, `compute_signing_root`).
use Rattle.std.specs.Prelude.{ℕ, ◌/◌, List, Some}
use Rattle.slash_defs.specs.declared.message.Message.TheVariants as message
use Rattle.phase0_types.specs.Values.{ValueOf}
use Rattle.phase0_types.specs.Roots.{root_of}
use Rattle.phase0_types.specs.Shapes.{uint64}
use Rattle.phase0_types.specs.Containers.{fork, checkpoint, attestation, attestation_data, beacon_block, beacon_block_header, voluntary_exit}
use Rattle.phase0_types.specs.Attestations.{attestation_data_value}
use Rattle.phase0_types.specs.Headers.{beacon_block_header_value}
use Rattle.phase0_types.specs.declared.fork.Fork.{Fork}
use Rattle.phase0_blocks.specs.Operations.{voluntary_exit_value}
use Rattle.altair_blocks.specs.Containers.{altair_block}
use Rattle.altair_blocks.specs.AnyBlocks.{BlockValue, block_value, root_of_block, slot_of}
use Rattle.altair_blocks.specs.declared.version.ConsensusVersion.TheVariants as consensus
use Rattle.altair_types.specs.Containers.{sync_aggregator_selection_data, sync_committee_contribution, contribution_and_proof}
use Rattle.altair_types.specs.SyncCommittees.{sync_aggregator_selection_data_value, contribution_and_proof_value}
use Rattle.duty_types.specs.Containers.{aggregate_and_proof, electra_attestation, electra_aggregate_and_proof, validator_registration}
use Rattle.duty_types.specs.Values.{aggregate_and_proof_value, electra_aggregate_and_proof_value, validator_registration_value}
use Rattle.edge_kit.specs.declared.bytes.Root.{Root}
use Rattle.sign_roots.specs.Domains.{domain_of}
use Rattle.sign_roots.specs.SigningRoots.{signing_root_of, slots_per_epoch}
use Rattle.sign_roots.specs.declared.domains.Domains.{Domains}
use Rattle.sign_roots.specs.declared.kind.DomainKind.{DomainKind}
use Rattle.sign_roots.specs.declared.kind.DomainKind.TheVariants as kind
use Rattle.signer_link.specs.Objects.{root, block_message, vote_message}
use Rattle.signer_link.specs.declared.aggregate.Aggregate.{Aggregate}
use Rattle.signer_link.specs.declared.aggregate.Aggregate.TheVariants as aggregate
use Rattle.signer_link.specs.declared.version.BlockVersion.{BlockVersion}
use Rattle.signer_link.specs.declared.request.SignObject.{SignObject}
use Rattle.signer_link.specs.declared.request.SignObject.TheVariants as made_of
use Rattle.signer_link.specs.declared.request.SignRequest.{SignRequest}
use Rattle.signer_link.specs.declared.request.PlainObject.{PlainObject}
use Rattle.signer_link.specs.declared.request.PlainObject.TheVariants as plain
use Rattle.signing_requests.specs.declared.request.SigningObject.{SigningObject}
use Rattle.signing_requests.specs.declared.request.SigningObject.TheVariants as object
use Rattle.signing_requests.specs.declared.request.Wanted.{Wanted}
use Rattle.signing_requests.specs.declared.request.Wanted.TheVariants as wanted

-- what is to be signed, by its value
pub data ObjectValue : Type 0 where
  block_is : BlockValue → ObjectValue
  header_is : BlockVersion → ValueOf beacon_block_header → ObjectValue
  vote_is : ValueOf attestation_data → ObjectValue
  reveal_is : ℕ → ObjectValue
  slot_is : ℕ → ObjectValue
  exit_is : ValueOf voluntary_exit → ObjectValue
  sync_message_is : Root → ℕ → ObjectValue
  sync_choice_is : ValueOf sync_aggregator_selection_data → ObjectValue
  contribution_is : ValueOf contribution_and_proof → ObjectValue
  aggregate_is : ValueOf aggregate_and_proof → ObjectValue
  versioned_aggregate_is : BlockVersion → ValueOf aggregate_and_proof → ObjectValue
  electra_aggregate_is : BlockVersion → ValueOf electra_aggregate_and_proof → ObjectValue
  registration_is : ValueOf validator_registration → ObjectValue

abbrev pub said_aggregate : Aggregate → ObjectValue
said_aggregate (aggregate.Unnamed given) = aggregate_is (aggregate_and_proof_value given)
said_aggregate (aggregate.UpToDeneb version given) = versioned_aggregate_is version (aggregate_and_proof_value given)
said_aggregate (aggregate.FromElectra version given) = electra_aggregate_is version (electra_aggregate_and_proof_value given)

abbrev pub said_plain : PlainObject → ObjectValue
said_plain (plain.RandaoReveal epoch) = reveal_is epoch
said_plain (plain.AggregationSlot slot) = slot_is slot
said_plain (plain.VoluntaryExit exit) = exit_is (voluntary_exit_value exit)
said_plain (plain.SyncCommitteeMessage slot block) = sync_message_is block slot
said_plain (plain.SyncCommitteeSelectionProof choice) = sync_choice_is (sync_aggregator_selection_data_value choice)
said_plain (plain.SyncCommitteeContributionAndProof given) = contribution_is (contribution_and_proof_value given)
said_plain (plain.Aggregate given) = said_aggregate given
said_plain (plain.ValidatorRegistration given) = registration_is (validator_registration_value given)

abbrev pub said : SigningObject → ObjectValue
said (object.Block block) = block_is (block_value block)
said (object.Header version header) = header_is version (beacon_block_header_value header)
said (object.Vote details) = vote_is (attestation_data_value details)
said (object.Plain p) = said_plain p

-- the fork of a value of its shape
unfoldable pub fork_from : ValueOf fork → Fork
unfolding fork
fork_from v = record { previous_version = v.0; current_version = v.1.0; epoch = v.1.1.0 }

-- the slot of a whole block, by its version, and of a header
unfoldable pub block_slot : BlockValue → ℕ
unfolding beacon_block altair_block
block_slot (consensus.Phase0, v) = v.0
block_slot (consensus.Altair, v) = v.0

unfoldable pub header_slot : ValueOf beacon_block_header → ℕ
unfolding beacon_block_header
header_slot v = v.0

-- the epoch of a vote's target
unfoldable pub target_epoch : ValueOf attestation_data → ℕ
unfolding attestation_data checkpoint
target_epoch v = v.1.1.1.1.0.0

-- the epoch of an exit
unfoldable pub exit_epoch : ValueOf voluntary_exit → ℕ
unfolding voluntary_exit
exit_epoch v = v.0

-- the slot that an aggregator of a sync committee is chosen for, and the slot of a contribution
unfoldable pub choice_slot : ValueOf sync_aggregator_selection_data → ℕ
unfolding sync_aggregator_selection_data
choice_slot v = v.0

unfoldable pub contribution_slot : ValueOf contribution_and_proof → ℕ
unfolding contribution_and_proof sync_committee_contribution
contribution_slot v = v.1.0.0

-- the slot that the votes in an aggregate are of
unfoldable pub aggregate_slot : ValueOf aggregate_and_proof → ℕ
unfolding aggregate_and_proof attestation attestation_data
aggregate_slot v = v.1.0.1.0.0

unfoldable pub electra_aggregate_slot : ValueOf electra_aggregate_and_proof → ℕ
unfolding electra_aggregate_and_proof electra_attestation attestation_data
electra_aggregate_slot v = v.1.0.1.0.0

-- the object's own root; of a sync committee's vote for a block, the block's
abbrev pub object_root : ObjectValue → List ℕ
object_root (block_is v) = root_of_block v
object_root (header_is version v) = root_of beacon_block_header v
object_root (vote_is v) = root_of attestation_data v
object_root (reveal_is epoch) = root_of uint64 epoch
object_root (slot_is slot) = root_of uint64 slot
object_root (exit_is v) = root_of voluntary_exit v
object_root (sync_message_is block slot) = block.0
object_root (sync_choice_is v) = root_of sync_aggregator_selection_data v
object_root (contribution_is v) = root_of contribution_and_proof v
object_root (aggregate_is v) = root_of aggregate_and_proof v
object_root (versioned_aggregate_is version v) = root_of aggregate_and_proof v
object_root (electra_aggregate_is version v) = root_of electra_aggregate_and_proof v
object_root (registration_is v) = root_of validator_registration v

-- the kind of its domain (consensus-specs, "Domain types")
abbrev pub kind_of : ObjectValue → DomainKind
kind_of (block_is v) = kind.BeaconProposer
kind_of (header_is version v) = kind.BeaconProposer
kind_of (vote_is v) = kind.BeaconAttester
kind_of (reveal_is epoch) = kind.Randao
kind_of (slot_is slot) = kind.SelectionProof
kind_of (exit_is v) = kind.VoluntaryExit
kind_of (sync_message_is block slot) = kind.SyncCommittee
kind_of (sync_choice_is v) = kind.SyncCommitteeSelectionProof
kind_of (contribution_is v) = kind.ContributionAndProof
kind_of (aggregate_is v) = kind.AggregateAndProof
kind_of (versioned_aggregate_is version v) = kind.AggregateAndProof
kind_of (electra_aggregate_is version v) = kind.AggregateAndProof
kind_of (registration_is v) = kind.ApplicationBuilder

-- the epoch of its domain; of a registration, which is signed under the version at genesis, that of genesis
abbrev pub epoch_of : ObjectValue → ℕ
epoch_of (block_is v) = block_slot v / slots_per_epoch
epoch_of (header_is version v) = header_slot v / slots_per_epoch
epoch_of (vote_is v) = target_epoch v
epoch_of (reveal_is epoch) = epoch
epoch_of (slot_is slot) = slot / slots_per_epoch
epoch_of (exit_is v) = exit_epoch v
epoch_of (sync_message_is block slot) = slot / slots_per_epoch
epoch_of (sync_choice_is v) = choice_slot v / slots_per_epoch
epoch_of (contribution_is v) = contribution_slot v / slots_per_epoch
epoch_of (aggregate_is v) = aggregate_slot v / slots_per_epoch
epoch_of (versioned_aggregate_is version v) = aggregate_slot v / slots_per_epoch
epoch_of (electra_aggregate_is version v) = electra_aggregate_slot v / slots_per_epoch
epoch_of (registration_is v) = 0

-- the root that is signed: the object's, under the domain of its kind and epoch
abbrev pub signed_root : Domains → ObjectValue → List ℕ
signed_root domains s = signing_root_of (object_root s) (domain_of domains (kind_of s) (epoch_of s))

-- ---- what the desk and the signing service are asked

-- the chain, and the object that a message was made of
abbrev pub with_object : Domains → SignObject → SignRequest
with_object domains o = record { fork = domains.fork; genesis = domains.genesis; object = Some o }

-- a block and a vote go by a proposal of their message, whose root is the one that is signed; anything else by leave alone
abbrev pub wanted_of : Domains → SigningObject → Wanted
wanted_of domains (object.Block block) =
    wanted.Propose (message.Block (slot_of block) (root (signed_root domains (said (object.Block block))))) (with_object domains (made_of.Block block))
wanted_of domains (object.Header version header) =
    wanted.Propose (block_message domains header) (with_object domains (made_of.Header version header))
wanted_of domains (object.Vote details) =
    wanted.Propose (vote_message domains details) (with_object domains (made_of.Attestation details))
wanted_of domains (object.Plain p) = wanted.Allow (record { fork = domains.fork; genesis = domains.genesis; object = p })
