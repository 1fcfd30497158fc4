-- The members of a container have names of their own.
use Rattle.std.specs.Prelude.{◌≡◌, true, refl}
use Rattle.phase0_types.specs.Containers.{signed, attestation, attestation_data, attester_slashing, beacon_block_header, checkpoint, deposit, deposit_data, eth1_data, indexed_attestation, proposer_slashing, voluntary_exit}
use Rattle.phase0_types.specs.Names.{has_names}
use Rattle.altair_blocks.specs.Containers.{sync_aggregate, altair_block_body, altair_block}

pub sync_aggregate_names : has_names sync_aggregate ≡ true
unfolding has_names sync_aggregate
sync_aggregate_names = refl

pub altair_block_body_names : has_names altair_block_body ≡ true
unfolding has_names altair_block_body sync_aggregate eth1_data proposer_slashing signed beacon_block_header attester_slashing indexed_attestation attestation_data checkpoint attestation deposit deposit_data voluntary_exit
altair_block_body_names = refl

pub altair_block_names : has_names altair_block ≡ true
unfolding has_names altair_block altair_block_body sync_aggregate eth1_data proposer_slashing signed beacon_block_header attester_slashing indexed_attestation attestation_data checkpoint attestation deposit deposit_data voluntary_exit
altair_block_names = refl
