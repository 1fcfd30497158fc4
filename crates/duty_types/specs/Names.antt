-- The members of a container have names of their own.
use Rattle.std.specs.Prelude.{◌≡◌, true, refl}
use Rattle.phase0_types.specs.Containers.{attestation, attestation_data, checkpoint}
use Rattle.phase0_types.specs.Names.{has_names}
use Rattle.duty_types.specs.Containers.{aggregate_and_proof, electra_attestation, electra_aggregate_and_proof, validator_registration}

pub aggregate_and_proof_names : has_names aggregate_and_proof ≡ true
unfolding has_names aggregate_and_proof attestation attestation_data checkpoint
aggregate_and_proof_names = refl

pub electra_attestation_names : has_names electra_attestation ≡ true
unfolding has_names electra_attestation attestation_data checkpoint
electra_attestation_names = refl

pub electra_aggregate_and_proof_names : has_names electra_aggregate_and_proof ≡ true
unfolding has_names electra_aggregate_and_proof electra_attestation attestation_data checkpoint
electra_aggregate_and_proof_names = refl

pub validator_registration_names : has_names validator_registration ≡ true
unfolding has_names validator_registration
validator_registration_names = refl
