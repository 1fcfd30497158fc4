-- Aggregates and registrations as values of their shapes.
use Rattle.phase0_types.specs.Attestations.{attestation_data_value}
use Rattle.phase0_types.specs.Values.{ValueOf}
use Rattle.phase0_blocks.specs.Votes.{attestation_value}
use Rattle.duty_types.specs.Containers.{aggregate_and_proof, electra_attestation, electra_aggregate_and_proof, validator_registration}
use Rattle.duty_types.specs.declared.aggregate.AggregateAndProof.{AggregateAndProof}
use Rattle.duty_types.specs.declared.aggregate.ElectraAttestation.{ElectraAttestation}
use Rattle.duty_types.specs.declared.aggregate.ElectraAggregateAndProof.{ElectraAggregateAndProof}
use Rattle.duty_types.specs.declared.registration.ValidatorRegistration.{ValidatorRegistration}

unfoldable pub aggregate_and_proof_value : AggregateAndProof → ValueOf aggregate_and_proof
unfolding aggregate_and_proof
aggregate_and_proof_value it = (it.aggregator_index, (attestation_value it.aggregate, (it.selection_proof.0, tt)))

unfoldable pub electra_attestation_value : ElectraAttestation → ValueOf electra_attestation
unfolding electra_attestation
electra_attestation_value it = (it.aggregation_bits, (attestation_data_value it.details, (it.signature.0, (it.committee_bits, tt))))

unfoldable pub electra_aggregate_and_proof_value : ElectraAggregateAndProof → ValueOf electra_aggregate_and_proof
unfolding electra_aggregate_and_proof
electra_aggregate_and_proof_value it = (it.aggregator_index, (electra_attestation_value it.aggregate, (it.selection_proof.0, tt)))

unfoldable pub validator_registration_value : ValidatorRegistration → ValueOf validator_registration
unfolding validator_registration
validator_registration_value it = (it.fee_recipient, (it.gas_limit, (it.timestamp, (it.pubkey.0, tt))))
