-- Block headers and deposit data as values of their shapes.
use Rattle.phase0_types.specs.Values.{ValueOf}
use Rattle.phase0_types.specs.Containers.{beacon_block_header, eth1_data}
use Rattle.phase0_types.specs.declared.header.Eth1Data.{Eth1Data}
use Rattle.phase0_types.specs.declared.header.BeaconBlockHeader.{BeaconBlockHeader}

unfoldable pub beacon_block_header_value : BeaconBlockHeader → ValueOf beacon_block_header
unfolding beacon_block_header
beacon_block_header_value it = (it.slot, (it.proposer_index, (it.parent_root.0, (it.state_root.0, (it.body_root.0, tt)))))

unfoldable pub eth1_data_value : Eth1Data → ValueOf eth1_data
unfolding eth1_data
eth1_data_value it = (it.deposit_root.0, (it.deposit_count, (it.block_hash.0, tt)))
