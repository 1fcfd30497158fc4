-- The slot and the root of an aggregate.
use Rattle.std.specs.Prelude.{ℕ, List}
use Rattle.phase0_types.specs.Roots.{root_of}
use Rattle.duty_types.specs.Containers.{aggregate_and_proof, electra_aggregate_and_proof}
use Rattle.duty_types.specs.Values.{aggregate_and_proof_value, electra_aggregate_and_proof_value}
use Rattle.signer_link.specs.declared.aggregate.Aggregate.{Aggregate}
use Rattle.signer_link.specs.declared.aggregate.Aggregate.TheVariants as aggregate

-- the slot that the votes in it are of
abbrev pub aggregate_slot : Aggregate → ℕ
aggregate_slot (aggregate.Unnamed given) = given.aggregate.details.slot
aggregate_slot (aggregate.UpToDeneb version given) = given.aggregate.details.slot
aggregate_slot (aggregate.FromElectra version given) = given.aggregate.details.slot

-- its own root, by the container of its fork
abbrev pub aggregate_root : Aggregate → List ℕ
aggregate_root (aggregate.Unnamed given) = root_of aggregate_and_proof (aggregate_and_proof_value given)
aggregate_root (aggregate.UpToDeneb version given) = root_of aggregate_and_proof (aggregate_and_proof_value given)
aggregate_root (aggregate.FromElectra version given) = root_of electra_aggregate_and_proof (electra_aggregate_and_proof_value given)
