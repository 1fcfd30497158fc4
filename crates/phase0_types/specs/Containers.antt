-- The shape of each container (consensus-specs, "Phase 0 -- The Beacon Chain", "Containers").
use Rattle.phase0_types.specs.Shapes.{Shape, byte_vector, uint64, bit_list, uint64_list, list, vector, container, no_fields, field}
use Rattle.phase0_types.specs.declared.member.Member.TheVariants as member

-- a message with its signature: `SignedBeaconBlock`, `SignedBeaconBlockHeader`, `SignedVoluntaryExit`
unfoldable pub signed : Shape → Shape
signed message = container (
    field member.Message message (
    field member.Signature (byte_vector 96) no_fields))

-- `Fork`
unfoldable pub fork : Shape
fork = container (
    field member.PreviousVersion (byte_vector 4) (
    field member.CurrentVersion (byte_vector 4) (
    field member.Epoch uint64 no_fields)))

-- `ForkData`
unfoldable pub fork_data : Shape
fork_data = container (
    field member.CurrentVersion (byte_vector 4) (
    field member.GenesisValidatorsRoot (byte_vector 32) no_fields))

-- `SigningData`
unfoldable pub signing_data : Shape
signing_data = container (
    field member.ObjectRoot (byte_vector 32) (
    field member.Domain (byte_vector 32) no_fields))

-- `Checkpoint`
unfoldable pub checkpoint : Shape
checkpoint = container (
    field member.Epoch uint64 (
    field member.Root (byte_vector 32) no_fields))

-- `AttestationData`
unfoldable pub attestation_data : Shape
attestation_data = container (
    field member.Slot uint64 (
    field member.Index uint64 (
    field member.BeaconBlockRoot (byte_vector 32) (
    field member.Source checkpoint (
    field member.Target checkpoint no_fields)))))

-- `IndexedAttestation`
unfoldable pub indexed_attestation : Shape
indexed_attestation = container (
    field member.AttestingIndices (uint64_list 2048) (
    field member.Details attestation_data (
    field member.Signature (byte_vector 96) no_fields)))

-- `Attestation`
unfoldable pub attestation : Shape
attestation = container (
    field member.AggregationBits (bit_list 2048) (
    field member.Details attestation_data (
    field member.Signature (byte_vector 96) no_fields)))

-- `BeaconBlockHeader`
unfoldable pub beacon_block_header : Shape
beacon_block_header = container (
    field member.Slot uint64 (
    field member.ProposerIndex uint64 (
    field member.ParentRoot (byte_vector 32) (
    field member.StateRoot (byte_vector 32) (
    field member.BodyRoot (byte_vector 32) no_fields)))))

-- `ProposerSlashing`
unfoldable pub proposer_slashing : Shape
proposer_slashing = container (
    field member.SignedHeader1 (signed beacon_block_header) (
    field member.SignedHeader2 (signed beacon_block_header) no_fields))

-- `AttesterSlashing`
unfoldable pub attester_slashing : Shape
attester_slashing = container (
    field member.Attestation1 indexed_attestation (
    field member.Attestation2 indexed_attestation no_fields))

-- `DepositData`
unfoldable pub deposit_data : Shape
deposit_data = container (
    field member.Pubkey (byte_vector 48) (
    field member.WithdrawalCredentials (byte_vector 32) (
    field member.Amount uint64 (
    field member.Signature (byte_vector 96) no_fields))))

-- `Deposit`
unfoldable pub deposit : Shape
deposit = container (
    field member.Proof (vector (byte_vector 32) 33) (
    field member.Details deposit_data no_fields))

-- `VoluntaryExit`
unfoldable pub voluntary_exit : Shape
voluntary_exit = container (
    field member.Epoch uint64 (
    field member.ValidatorIndex uint64 no_fields))

-- `Eth1Data`
unfoldable pub eth1_data : Shape
eth1_data = container (
    field member.DepositRoot (byte_vector 32) (
    field member.DepositCount uint64 (
    field member.BlockHash (byte_vector 32) no_fields)))

-- `BeaconBlockBody`
unfoldable pub beacon_block_body : Shape
beacon_block_body = container (
    field member.RandaoReveal (byte_vector 96) (
    field member.Eth1Data eth1_data (
    field member.Graffiti (byte_vector 32) (
    field member.ProposerSlashings (list proposer_slashing 16) (
    field member.AttesterSlashings (list attester_slashing 2) (
    field member.Attestations (list attestation 128) (
    field member.Deposits (list deposit 16) (
    field member.VoluntaryExits (list (signed voluntary_exit) 16) no_fields))))))))

-- `BeaconBlock`
unfoldable pub beacon_block : Shape
beacon_block = container (
    field member.Slot uint64 (
    field member.ProposerIndex uint64 (
    field member.ParentRoot (byte_vector 32) (
    field member.StateRoot (byte_vector 32) (
    field member.Body beacon_block_body no_fields)))))
