-- The shape of each container (consensus-specs, "Altair -- The Beacon Chain", "Containers").
use Rattle.phase0_types.specs.Containers.{signed, attestation, attester_slashing, deposit, eth1_data, proposer_slashing, voluntary_exit}
use Rattle.phase0_types.specs.Shapes.{Shape, byte_vector, uint64, list, container, no_fields, field}
use Rattle.phase0_types.specs.declared.member.Member.TheVariants as member

-- `SyncAggregate`; a vector of 512 bits has the root and the JSON of its 64 bytes, and no length is mixed into it
unfoldable pub sync_aggregate : Shape
sync_aggregate = container (
    field member.SyncCommitteeBits (byte_vector 64) (
    field member.SyncCommitteeSignature (byte_vector 96) no_fields))

-- `BeaconBlockBody`
unfoldable pub altair_block_body : Shape
altair_block_body = container (
    field member.RandaoReveal (byte_vector 96) (
    field member.Eth1Data eth1_data (
    field member.Graffiti (byte_vector 32) (
    field member.ProposerSlashings (list proposer_slashing 16) (
    field member.AttesterSlashings (list attester_slashing 2) (
    field member.Attestations (list attestation 128) (
    field member.Deposits (list deposit 16) (
    field member.VoluntaryExits (list (signed voluntary_exit) 16) (
    field member.SyncAggregate sync_aggregate no_fields)))))))))

-- `BeaconBlock`
unfoldable pub altair_block : Shape
altair_block = container (
    field member.Slot uint64 (
    field member.ProposerIndex uint64 (
    field member.ParentRoot (byte_vector 32) (
    field member.StateRoot (byte_vector 32) (
    field member.Body altair_block_body no_fields)))))
