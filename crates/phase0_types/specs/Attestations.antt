-- Checkpoints and what is attested, as values of their shapes.
use Rattle.phase0_types.specs.Values.{ValueOf}
use Rattle.phase0_types.specs.Containers.{checkpoint, attestation_data}
use Rattle.phase0_types.specs.declared.attestation.Checkpoint.{Checkpoint}
use Rattle.phase0_types.specs.declared.attestation.AttestationData.{AttestationData}

unfoldable pub checkpoint_value : Checkpoint → ValueOf checkpoint
unfolding checkpoint
checkpoint_value it = (it.epoch, (it.root.0, tt))

unfoldable pub attestation_data_value : AttestationData → ValueOf attestation_data
unfolding attestation_data
attestation_data_value it = (it.slot, (it.index, (it.beacon_block_root.0, (checkpoint_value it.source, (checkpoint_value it.target, tt)))))
