-- What is signed that is no block and no vote, and the root that is asked for.
use Rattle.std.specs.Prelude.{◌≢◌, ℕ, ◌/◌, List, Bool, true, false}
use Rattle.phase0_types.specs.Roots.{root_of}
use Rattle.phase0_types.specs.Shapes.{uint64}
use Rattle.phase0_types.specs.Containers.{voluntary_exit}
use Rattle.phase0_blocks.specs.Operations.{voluntary_exit_value}
use Rattle.altair_types.specs.Containers.{sync_aggregator_selection_data, contribution_and_proof}
use Rattle.altair_types.specs.SyncCommittees.{sync_aggregator_selection_data_value, contribution_and_proof_value}
use Rattle.duty_types.specs.Containers.{validator_registration}
use Rattle.duty_types.specs.Values.{validator_registration_value}
use Rattle.sign_roots.specs.Domains.{domain_of}
use Rattle.sign_roots.specs.SigningRoots.{signing_root_of, slots_per_epoch}
use Rattle.sign_roots.specs.declared.kind.DomainKind.{DomainKind}
use Rattle.sign_roots.specs.declared.kind.DomainKind.TheVariants as kind
use Rattle.signer_link.specs.Aggregates.{aggregate_slot, aggregate_root}
use Rattle.signer_link.specs.declared.request.PlainObject.{PlainObject}
use Rattle.signer_link.specs.declared.request.PlainObject.TheVariants as object
use Rattle.signer_link.specs.declared.request.PlainRequest.{PlainRequest}

-- an aggregate: the one object whose copy takes memory
abbrev pub is_aggregate : PlainObject → Bool
is_aggregate (object.Aggregate given) = true
is_aggregate _ = false

-- the kind of the domain (consensus-specs, "Domain types")
abbrev pub plain_kind : PlainObject → DomainKind
plain_kind (object.RandaoReveal epoch) = kind.Randao
plain_kind (object.AggregationSlot slot) = kind.SelectionProof
plain_kind (object.VoluntaryExit exit) = kind.VoluntaryExit
plain_kind (object.SyncCommitteeMessage slot block) = kind.SyncCommittee
plain_kind (object.SyncCommitteeSelectionProof choice) = kind.SyncCommitteeSelectionProof
plain_kind (object.SyncCommitteeContributionAndProof given) = kind.ContributionAndProof
plain_kind (object.Aggregate given) = kind.AggregateAndProof
plain_kind (object.ValidatorRegistration given) = kind.ApplicationBuilder

-- the epoch of the domain; of a registration, which is signed under the version at genesis, that of genesis
abbrev pub plain_epoch : PlainObject → ℕ
plain_epoch (object.RandaoReveal epoch) = epoch
plain_epoch (object.AggregationSlot slot) = slot / slots_per_epoch
plain_epoch (object.VoluntaryExit exit) = exit.epoch
plain_epoch (object.SyncCommitteeMessage slot block) = slot / slots_per_epoch
plain_epoch (object.SyncCommitteeSelectionProof choice) = choice.slot / slots_per_epoch
plain_epoch (object.SyncCommitteeContributionAndProof given) = given.contribution.slot / slots_per_epoch
plain_epoch (object.Aggregate given) = aggregate_slot given / slots_per_epoch
plain_epoch (object.ValidatorRegistration given) = 0

-- the object's own root; of a sync committee's vote for a block, the block's
abbrev pub plain_object_root : PlainObject → List ℕ
plain_object_root (object.RandaoReveal epoch) = root_of uint64 epoch
plain_object_root (object.AggregationSlot slot) = root_of uint64 slot
plain_object_root (object.VoluntaryExit exit) = root_of voluntary_exit (voluntary_exit_value exit)
plain_object_root (object.SyncCommitteeMessage slot block) = block.0
plain_object_root (object.SyncCommitteeSelectionProof choice) = root_of sync_aggregator_selection_data (sync_aggregator_selection_data_value choice)
plain_object_root (object.SyncCommitteeContributionAndProof given) = root_of contribution_and_proof (contribution_and_proof_value given)
plain_object_root (object.Aggregate given) = aggregate_root given
plain_object_root (object.ValidatorRegistration given) = root_of validator_registration (validator_registration_value given)

-- the domain (consensus-specs, `get_domain`)
abbrev pub plain_domain : PlainRequest → List ℕ
plain_domain q = domain_of (record { fork = q.fork; genesis = q.genesis }) (plain_kind q.object) (plain_epoch q.object)

-- the root that is asked for (consensus-specs, `compute_signing_root`)
abbrev pub plain_root : PlainRequest → List ℕ
plain_root q = signing_root_of (plain_object_root q.object) (plain_domain q)

-- it is under no proposer's and no attester's domain
pub record IsPlain (q : PlainRequest) : Type 0 where
  pub no_proposer : plain_kind q.object ≢ kind.BeaconProposer
  pub no_attester : plain_kind q.object ≢ kind.BeaconAttester
