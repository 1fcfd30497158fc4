-- Blocks as values of their shapes.
use Rattle.std.specs.Prelude.{map}
use Rattle.phase0_types.specs.Values.{ValueOf}
use Rattle.phase0_types.specs.Headers.{eth1_data_value}
use Rattle.phase0_types.specs.Containers.{voluntary_exit, beacon_block_body, beacon_block}
use Rattle.phase0_blocks.specs.Signed.{signed_value}
use Rattle.phase0_blocks.specs.Votes.{attestation_value}
use Rattle.phase0_blocks.specs.Operations.{attester_slashing_value, deposit_value, proposer_slashing_value, voluntary_exit_value}
use Rattle.phase0_blocks.specs.declared.block.BeaconBlockBody.{BeaconBlockBody}
use Rattle.phase0_blocks.specs.declared.block.BeaconBlock.{BeaconBlock}

unfoldable pub beacon_block_body_value : BeaconBlockBody → ValueOf beacon_block_body
unfolding beacon_block_body
beacon_block_body_value it = (it.randao_reveal.0, (eth1_data_value it.eth1_data, (it.graffiti, (map proposer_slashing_value it.proposer_slashings, (map attester_slashing_value it.attester_slashings, (map attestation_value it.attestations, (map deposit_value it.deposits, (map (signed_value voluntary_exit voluntary_exit_value) it.voluntary_exits, tt))))))))

unfoldable pub beacon_block_value : BeaconBlock → ValueOf beacon_block
unfolding beacon_block
beacon_block_value it = (it.slot, (it.proposer_index, (it.parent_root.0, (it.state_root.0, (beacon_block_body_value it.body, tt)))))
