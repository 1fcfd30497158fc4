-- The name of each member in JSON (Beacon API, the schemas of its containers).
use Rattle.std.specs.Prelude.{ℕ, List, Bool, true, false, codes}
use Rattle.phase0_types.specs.declared.member.Member.{Member}
use Rattle.phase0_types.specs.declared.member.Member.TheVariants as member

abbrev pub member_name : Member → List ℕ
member_name member.PreviousVersion = codes "previous_version"
member_name member.CurrentVersion = codes "current_version"
member_name member.Epoch = codes "epoch"
member_name member.GenesisValidatorsRoot = codes "genesis_validators_root"
member_name member.ObjectRoot = codes "object_root"
member_name member.Domain = codes "domain"
member_name member.Root = codes "root"
member_name member.Slot = codes "slot"
member_name member.Index = codes "index"
member_name member.BeaconBlockRoot = codes "beacon_block_root"
member_name member.Source = codes "source"
member_name member.Target = codes "target"
member_name member.ProposerIndex = codes "proposer_index"
member_name member.ParentRoot = codes "parent_root"
member_name member.StateRoot = codes "state_root"
member_name member.BodyRoot = codes "body_root"
member_name member.Body = codes "body"
member_name member.RandaoReveal = codes "randao_reveal"
member_name member.Eth1Data = codes "eth1_data"
member_name member.Graffiti = codes "graffiti"
member_name member.ProposerSlashings = codes "proposer_slashings"
member_name member.AttesterSlashings = codes "attester_slashings"
member_name member.Attestations = codes "attestations"
member_name member.Deposits = codes "deposits"
member_name member.VoluntaryExits = codes "voluntary_exits"
member_name member.DepositRoot = codes "deposit_root"
member_name member.DepositCount = codes "deposit_count"
member_name member.BlockHash = codes "block_hash"
member_name member.SignedHeader1 = codes "signed_header_1"
member_name member.SignedHeader2 = codes "signed_header_2"
member_name member.Attestation1 = codes "attestation_1"
member_name member.Attestation2 = codes "attestation_2"
member_name member.AttestingIndices = codes "attesting_indices"
member_name member.Details = codes "data"
member_name member.Signature = codes "signature"
member_name member.AggregationBits = codes "aggregation_bits"
member_name member.Proof = codes "proof"
member_name member.Pubkey = codes "pubkey"
member_name member.WithdrawalCredentials = codes "withdrawal_credentials"
member_name member.Amount = codes "amount"
member_name member.ValidatorIndex = codes "validator_index"
member_name member.Message = codes "message"
member_name member.SubcommitteeIndex = codes "subcommittee_index"
member_name member.AggregatorIndex = codes "aggregator_index"
member_name member.Contribution = codes "contribution"
member_name member.SelectionProof = codes "selection_proof"
member_name member.Aggregate = codes "aggregate"
member_name member.CommitteeBits = codes "committee_bits"
member_name member.FeeRecipient = codes "fee_recipient"
member_name member.GasLimit = codes "gas_limit"
member_name member.Timestamp = codes "timestamp"
member_name member.SyncAggregate = codes "sync_aggregate"
member_name member.SyncCommitteeBits = codes "sync_committee_bits"
member_name member.SyncCommitteeSignature = codes "sync_committee_signature"

-- no fork, signing data, header, attestation data or registration has it
abbrev pub is_in_bodies : Member → Bool
is_in_bodies member.PreviousVersion = false
is_in_bodies member.CurrentVersion = false
is_in_bodies member.Epoch = false
is_in_bodies member.GenesisValidatorsRoot = false
is_in_bodies member.ObjectRoot = false
is_in_bodies member.Domain = false
is_in_bodies member.Root = false
is_in_bodies member.Slot = false
is_in_bodies member.Index = false
is_in_bodies member.BeaconBlockRoot = false
is_in_bodies member.Source = false
is_in_bodies member.Target = false
is_in_bodies member.ProposerIndex = false
is_in_bodies member.ParentRoot = false
is_in_bodies member.StateRoot = false
is_in_bodies member.BodyRoot = false
is_in_bodies member.FeeRecipient = false
is_in_bodies member.GasLimit = false
is_in_bodies member.Timestamp = false
is_in_bodies _ = true
