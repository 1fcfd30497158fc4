-- Objects by their values, and the roots that are signed for them.
use Rattle.std.proofs.Common.{◌≡◌, ◌/◌, ℕ, List, Result, Ok, Err, refl, sym, ap}
use Rattle.phase0_types.specs.Containers.{fork, attestation, attestation_data, beacon_block, voluntary_exit}
use Rattle.phase0_types.specs.Attestations.{attestation_data_value}
use Rattle.phase0_types.specs.Forks.{fork_value}
use Rattle.phase0_types.specs.declared.fault.ReadFault.{ReadFault as ShapeFault}
use Rattle.phase0_types.specs.declared.fork.Fork.{Fork}
use Rattle.phase0_blocks.specs.Blocks.{beacon_block_value}
use Rattle.phase0_blocks.specs.Operations.{voluntary_exit_value}
use Rattle.phase0_blocks.specs.declared.operation.VoluntaryExit.{VoluntaryExit}
use Rattle.altair_blocks.specs.Containers.{altair_block}
use Rattle.altair_blocks.specs.Blocks.{altair_block_value}
use Rattle.altair_blocks.specs.AnyBlocks.{block_value, slot_of}
use Rattle.altair_blocks.specs.declared.any_block.AnyBlock.{AnyBlock}
use Rattle.altair_blocks.specs.declared.any_block.AnyBlock.TheVariants as any
use Rattle.altair_types.specs.Containers.{sync_aggregator_selection_data, sync_committee_contribution, contribution_and_proof}
use Rattle.altair_types.specs.SyncCommittees.{sync_aggregator_selection_data_value, sync_committee_contribution_value, contribution_and_proof_value}
use Rattle.altair_types.specs.declared.sync_committee.SyncAggregatorSelectionData.{SyncAggregatorSelectionData}
use Rattle.altair_types.specs.declared.sync_committee.ContributionAndProof.{ContributionAndProof}
use Rattle.duty_types.specs.Containers.{aggregate_and_proof, electra_attestation, electra_aggregate_and_proof}
use Rattle.duty_types.specs.Values.{aggregate_and_proof_value, electra_attestation_value, electra_aggregate_and_proof_value}
use Rattle.duty_types.specs.declared.aggregate.AggregateAndProof.{AggregateAndProof}
use Rattle.duty_types.specs.declared.aggregate.ElectraAggregateAndProof.{ElectraAggregateAndProof}
use Rattle.phase0_blocks.specs.Votes.{attestation_value}
use Rattle.sign_roots.specs.Domains.{domain_of}
use Rattle.sign_roots.specs.SigningRoots.{signing_root_of, slots_per_epoch}
use Rattle.sign_roots.specs.declared.domains.Domains.{Domains}
use Rattle.sign_roots.specs.declared.kind.DomainKind.TheVariants as kind
use Rattle.signer_link.specs.Plain.{plain_root, plain_object_root}
use Rattle.signer_link.specs.declared.aggregate.Aggregate.{Aggregate}
use Rattle.signer_link.specs.declared.aggregate.Aggregate.TheVariants as aggregate
use Rattle.signer_link.specs.declared.request.PlainObject.{PlainObject}
use Rattle.signer_link.specs.declared.request.PlainObject.TheVariants as plain
use Rattle.signing_requests.specs.Members.{inside}
use Rattle.signing_requests.specs.Objects.{aggregate_slot, block_slot, choice_slot, contribution_slot, electra_aggregate_slot, exit_epoch, fork_from, said_aggregate, said_plain, signed_root}
use Rattle.signing_requests.specs.Requests.{shaped}
use Rattle.signing_requests.specs.declared.member.SigningMember.{SigningMember}
use Rattle.signing_requests.specs.declared.refusal.SigningRefusal.TheVariants as refusal

pub fork_from-value : (f : Fork) → fork_from (fork_value f) ≡ f
unfolding fork_from fork_value fork
fork_from-value f = refl

pub block_slot_value : (block : AnyBlock) → block_slot (block_value block) ≡ slot_of block
unfolding block_slot beacon_block_value beacon_block altair_block_value altair_block
block_slot_value (any.Phase0 block) = refl
block_slot_value (any.Altair block) = refl

pub exit_epoch-value : (e : VoluntaryExit) → exit_epoch (voluntary_exit_value e) ≡ e.epoch
unfolding exit_epoch voluntary_exit_value voluntary_exit
exit_epoch-value e = refl

pub choice_slot-value : (c : SyncAggregatorSelectionData) → choice_slot (sync_aggregator_selection_data_value c) ≡ c.slot
unfolding choice_slot sync_aggregator_selection_data_value sync_aggregator_selection_data
choice_slot-value c = refl

pub contribution_slot-value : (c : ContributionAndProof) → contribution_slot (contribution_and_proof_value c) ≡ c.contribution.slot
unfolding contribution_slot contribution_and_proof_value sync_committee_contribution_value contribution_and_proof sync_committee_contribution
contribution_slot-value c = refl

pub aggregate_slot-value : (a : AggregateAndProof) → aggregate_slot (aggregate_and_proof_value a) ≡ a.aggregate.details.slot
unfolding aggregate_slot aggregate_and_proof_value attestation_value attestation_data_value aggregate_and_proof attestation attestation_data
aggregate_slot-value a = refl

pub electra_aggregate_slot-value : (a : ElectraAggregateAndProof) → electra_aggregate_slot (electra_aggregate_and_proof_value a) ≡ a.aggregate.details.slot
unfolding electra_aggregate_slot electra_aggregate_and_proof_value electra_attestation_value attestation_data_value electra_aggregate_and_proof electra_attestation attestation_data
electra_aggregate_slot-value a = refl

-- the root of an aggregate that is signed, at the slot that its votes are of
abbrev aggregate_root_at : Domains → Aggregate → ℕ → List ℕ
aggregate_root_at domains a slot = signing_root_of (plain_object_root (plain.Aggregate a)) (domain_of domains kind.AggregateAndProof (slot / slots_per_epoch))

aggregate_root-said : (domains : Domains) (a : Aggregate) → plain_root (record { fork = domains.fork; genesis = domains.genesis; object = plain.Aggregate a }) ≡ signed_root domains (said_aggregate a)
aggregate_root-said domains (aggregate.Unnamed a) = ap (aggregate_root_at domains (aggregate.Unnamed a)) (sym (aggregate_slot-value a))
aggregate_root-said domains (aggregate.UpToDeneb v a) = ap (aggregate_root_at domains (aggregate.UpToDeneb v a)) (sym (aggregate_slot-value a))
aggregate_root-said domains (aggregate.FromElectra v a) = ap (aggregate_root_at domains (aggregate.FromElectra v a)) (sym (electra_aggregate_slot-value a))

-- what is no block and no vote has one root, by its value and by the request for it
pub plain_root-said : (domains : Domains) (p : PlainObject) → plain_root (record { fork = domains.fork; genesis = domains.genesis; object = p }) ≡ signed_root domains (said_plain p)
plain_root-said domains (plain.RandaoReveal epoch) = refl
plain_root-said domains (plain.AggregationSlot slot) = refl
plain_root-said domains (plain.VoluntaryExit e) =
    ap (λ n. signing_root_of (plain_object_root (plain.VoluntaryExit e)) (domain_of domains kind.VoluntaryExit n)) (sym (exit_epoch-value e))
plain_root-said domains (plain.SyncCommitteeMessage slot block) = refl
plain_root-said domains (plain.SyncCommitteeSelectionProof c) =
    ap (λ n. signing_root_of (plain_object_root (plain.SyncCommitteeSelectionProof c)) (domain_of domains kind.SyncCommitteeSelectionProof (n / slots_per_epoch))) (sym (choice_slot-value c))
plain_root-said domains (plain.SyncCommitteeContributionAndProof c) =
    ap (λ n. signing_root_of (plain_object_root (plain.SyncCommitteeContributionAndProof c)) (domain_of domains kind.ContributionAndProof (n / slots_per_epoch))) (sym (contribution_slot-value c))
plain_root-said domains (plain.Aggregate a) = aggregate_root-said domains a
plain_root-said domains (plain.ValidatorRegistration r) = refl

-- what was read of a container is its value, and what of it cannot be read the member that is named
pub shaped-read : {A B : Type 0} (whole : SigningMember) (value : A → B) (v : A) (read : Result A ShapeFault) → Ok v ≡ read → shaped whole value read ≡ Ok (value v)
shaped-read whole value v read is = ap (shaped whole value) (sym is)

pub shaped-unread : {A B : Type 0} (whole : SigningMember) (value : A → B) (f : ShapeFault) (read : Result A ShapeFault) → Err f ≡ read → shaped whole value read ≡ Err (refusal.BadMember (inside whole f))
shaped-unread whole value f read is = ap (shaped whole value) (sym is)
