-- No body holds a float.
use Rattle.std.proofs.Common.{◌≡◌, false, codes, refl, Option, Some, None}
use Rattle.serde_json.specs.Written.{has_float}
use Rattle.phase0_types.specs.Writing.{write}
use Rattle.phase0_types.specs.Containers.{fork, attestation_data, beacon_block_header, voluntary_exit, checkpoint}
use Rattle.phase0_types.specs.Attestations.{attestation_data_value}
use Rattle.phase0_types.specs.Forks.{fork_value}
use Rattle.phase0_types.specs.Headers.{beacon_block_header_value}
use Rattle.altair_blocks.specs.AnyBlocks.{block_shape, block_value, write_block}
use Rattle.phase0_blocks.specs.Operations.{voluntary_exit_value}
use Rattle.altair_blocks.specs.declared.any_block.AnyBlock.{AnyBlock}
use Rattle.block_copies.proofs.PlainLemmas.{neither, write_plain}
use Rattle.slash_defs.specs.declared.message.Message.{Message}
use Rattle.web3_signer.specs.Web3.{aggregate_data, block_data, sign_data, plain_data}
use Rattle.altair_types.specs.Containers.{sync_aggregator_selection_data, sync_committee_contribution, contribution_and_proof}
use Rattle.altair_types.specs.SyncCommittees.{sync_aggregator_selection_data_value, sync_committee_contribution_value, contribution_and_proof_value}
use Rattle.duty_types.specs.Containers.{aggregate_and_proof, electra_aggregate_and_proof, validator_registration}
use Rattle.duty_types.specs.Values.{aggregate_and_proof_value, electra_aggregate_and_proof_value, validator_registration_value}
use Rattle.signer_link.specs.declared.aggregate.Aggregate.{Aggregate}
use Rattle.signer_link.specs.declared.aggregate.Aggregate.TheVariants as aggregate
use Rattle.signer_link.specs.declared.request.SignObject.TheVariants as made_of
use Rattle.signer_link.specs.declared.request.SignObject.{SignObject}
use Rattle.signer_link.specs.declared.request.SignRequest.{SignRequest}
use Rattle.signer_link.specs.declared.request.PlainObject.{PlainObject}
use Rattle.signer_link.specs.declared.request.PlainObject.TheVariants as plain
use Rattle.signer_link.specs.declared.request.PlainRequest.{PlainRequest}

-- nor does a whole block
block_plain : (block : AnyBlock) → has_float (block_data block) ≡ false
block_plain block = neither (has_float (write_block (block_value block))) false (write_plain (block_shape (block_value block).0) (block_value block).1) refl

pub sign_plain_numbers : (request : SignRequest) (m : Message) → has_float (sign_data request m) ≡ false
unfolding write fork fork_value attestation_data attestation_data_value checkpoint beacon_block_header beacon_block_header_value
sign_plain_numbers request m = at request.object where
  at : (object : Option SignObject) → has_float (sign_data (record request { object = object }) m) ≡ false
  at None = refl
  at (Some (made_of.Header v header)) = refl
  at (Some (made_of.Block block)) = neither (has_float (block_data block)) false (block_plain block) refl
  at (Some (made_of.Attestation details)) = refl

-- nor does an aggregate
aggregate_plain : (given : Aggregate) → has_float (aggregate_data given) ≡ false
aggregate_plain (aggregate.Unnamed given) = write_plain aggregate_and_proof (aggregate_and_proof_value given)
aggregate_plain (aggregate.UpToDeneb version given) = neither (has_float (write aggregate_and_proof (aggregate_and_proof_value given))) false (write_plain aggregate_and_proof (aggregate_and_proof_value given)) refl
aggregate_plain (aggregate.FromElectra version given) = neither (has_float (write electra_aggregate_and_proof (electra_aggregate_and_proof_value given))) false (write_plain electra_aggregate_and_proof (electra_aggregate_and_proof_value given)) refl

pub plain_plain_numbers : (request : PlainRequest) → has_float (plain_data request) ≡ false
unfolding write fork fork_value voluntary_exit voluntary_exit_value sync_aggregator_selection_data sync_aggregator_selection_data_value sync_committee_contribution sync_committee_contribution_value contribution_and_proof contribution_and_proof_value validator_registration validator_registration_value
plain_plain_numbers request = at request.object where
  at : (object : PlainObject) → has_float (plain_data (record request { object = object })) ≡ false
  at (plain.RandaoReveal epoch) = refl
  at (plain.AggregationSlot slot) = refl
  at (plain.VoluntaryExit exit) = refl
  at (plain.SyncCommitteeMessage slot block) = refl
  at (plain.SyncCommitteeSelectionProof choice) = refl
  at (plain.SyncCommitteeContributionAndProof given) = refl
  at (plain.Aggregate given) = neither (has_float (aggregate_data given)) false (aggregate_plain given) refl
  at (plain.ValidatorRegistration given) = refl
