-- Blocks of Altair as values of their shapes.
use Rattle.std.specs.Prelude.{map}
use Rattle.phase0_types.specs.Values.{ValueOf}
use Rattle.phase0_types.specs.Headers.{eth1_data_value}
use Rattle.phase0_types.specs.Containers.{voluntary_exit}
use Rattle.phase0_blocks.specs.Signed.{signed_value}
use Rattle.phase0_blocks.specs.Votes.{attestation_value}
use Rattle.phase0_blocks.specs.Operations.{attester_slashing_value, deposit_value, proposer_slashing_value, voluntary_exit_value}
use Rattle.altair_blocks.specs.Containers.{sync_aggregate, altair_block_body, altair_block}
use Rattle.altair_blocks.specs.declared.sync_aggregate.SyncAggregate.{SyncAggregate}
use Rattle.altair_blocks.specs.declared.block.AltairBlockBody.{AltairBlockBody}
use Rattle.altair_blocks.specs.declared.block.AltairBlock.{AltairBlock}

unfoldable pub sync_aggregate_value : SyncAggregate → ValueOf sync_aggregate
unfolding sync_aggregate
sync_aggregate_value it = (it.sync_committee_bits, (it.sync_committee_signature.0, tt))

unfoldable pub altair_block_body_value : AltairBlockBody → ValueOf altair_block_body
unfolding altair_block_body
altair_block_body_value it = (it.phase0.randao_reveal.0, (eth1_data_value it.phase0.eth1_data, (it.phase0.graffiti, (map proposer_slashing_value it.phase0.proposer_slashings, (map attester_slashing_value it.phase0.attester_slashings, (map attestation_value it.phase0.attestations, (map deposit_value it.phase0.deposits, (map (signed_value voluntary_exit voluntary_exit_value) it.phase0.voluntary_exits, (sync_aggregate_value it.sync_aggregate, tt)))))))))

unfoldable pub altair_block_value : AltairBlock → ValueOf altair_block
unfolding altair_block
altair_block_value it = (it.slot, (it.proposer_index, (it.parent_root.0, (it.state_root.0, (altair_block_body_value it.body, tt)))))
