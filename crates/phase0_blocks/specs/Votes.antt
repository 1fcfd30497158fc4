-- Attestations as values of their shapes.
use Rattle.phase0_types.specs.Values.{ValueOf}
use Rattle.phase0_types.specs.Containers.{indexed_attestation, attestation}
use Rattle.phase0_types.specs.Attestations.{attestation_data_value}
use Rattle.phase0_blocks.specs.declared.vote.IndexedAttestation.{IndexedAttestation}
use Rattle.phase0_blocks.specs.declared.vote.Attestation.{Attestation}

unfoldable pub indexed_attestation_value : IndexedAttestation → ValueOf indexed_attestation
unfolding indexed_attestation
indexed_attestation_value it = (it.attesting_indices, (attestation_data_value it.details, (it.signature.0, tt)))

unfoldable pub attestation_value : Attestation → ValueOf attestation
unfolding attestation
attestation_value it = (it.aggregation_bits, (attestation_data_value it.details, (it.signature.0, tt)))
