-- Whole blocks by their values, container by container.
use Rattle.std.specs.Prelude.{ℕ, List, map}
use Rattle.edge_kit.specs.declared.bytes.Sig.{Sig}
use Rattle.phase0_types.specs.Shapes.{Shape}
use Rattle.phase0_types.specs.Values.{ValueOf}
use Rattle.phase0_types.specs.Containers.{signed, attestation, attester_slashing, beacon_block, beacon_block_body, beacon_block_header, deposit, deposit_data, eth1_data, indexed_attestation, proposer_slashing, voluntary_exit}
use Rattle.phase0_types.specs.declared.header.Eth1Data.{Eth1Data}
use Rattle.phase0_blocks.specs.declared.signed.Signed.{Signed}
use Rattle.phase0_blocks.specs.declared.vote.IndexedAttestation.{IndexedAttestation}
use Rattle.phase0_blocks.specs.declared.vote.Attestation.{Attestation}
use Rattle.phase0_blocks.specs.declared.operation.ProposerSlashing.{ProposerSlashing}
use Rattle.phase0_blocks.specs.declared.operation.AttesterSlashing.{AttesterSlashing}
use Rattle.phase0_blocks.specs.declared.operation.DepositData.{DepositData}
use Rattle.phase0_blocks.specs.declared.operation.Deposit.{Deposit}
use Rattle.phase0_blocks.specs.declared.operation.VoluntaryExit.{VoluntaryExit}
use Rattle.phase0_blocks.specs.declared.block.BeaconBlockBody.{BeaconBlockBody}
use Rattle.phase0_blocks.specs.declared.block.BeaconBlock.{BeaconBlock}
use Rattle.altair_blocks.specs.Containers.{sync_aggregate, altair_block_body, altair_block}
use Rattle.altair_blocks.specs.AnyBlocks.{BlockValue, block_shape}
use Rattle.altair_blocks.specs.declared.version.ConsensusVersion.{ConsensusVersion}
use Rattle.altair_blocks.specs.declared.version.ConsensusVersion.TheVariants as version
use Rattle.altair_blocks.specs.declared.sync_aggregate.SyncAggregate.{SyncAggregate}
use Rattle.altair_blocks.specs.declared.block.AltairBlockBody.{AltairBlockBody}
use Rattle.altair_blocks.specs.declared.block.AltairBlock.{AltairBlock}
use Rattle.altair_blocks.specs.declared.any_block.AnyBlock.{AnyBlock}
use Rattle.altair_blocks.specs.declared.any_block.AnyBlock.TheVariants as any
use Rattle.signer_link.specs.Objects.{root, header_from, details_from}

abbrev pub signature : List ℕ → Sig
signature bytes = record { 0 = bytes }

unfoldable pub signed_from : {X : Type 0} (shape : Shape) → (ValueOf shape → X) → ValueOf (signed shape) → Signed X
unfolding signed
signed_from shape from v = record { message = from v.0; signature = signature v.1.0 }

unfoldable pub eth1_data_from : ValueOf eth1_data → Eth1Data
unfolding eth1_data
eth1_data_from v = record { deposit_root = root v.0; deposit_count = v.1.0; block_hash = root v.1.1.0 }

unfoldable pub indexed_attestation_from : ValueOf indexed_attestation → IndexedAttestation
unfolding indexed_attestation
indexed_attestation_from v = record { attesting_indices = v.0; details = details_from v.1.0; signature = signature v.1.1.0 }

unfoldable pub attestation_from : ValueOf attestation → Attestation
unfolding attestation
attestation_from v = record { aggregation_bits = v.0; details = details_from v.1.0; signature = signature v.1.1.0 }

unfoldable pub proposer_slashing_from : ValueOf proposer_slashing → ProposerSlashing
unfolding proposer_slashing
proposer_slashing_from v = record {
  signed_header_1 = signed_from beacon_block_header header_from v.0;
  signed_header_2 = signed_from beacon_block_header header_from v.1.0;
}

unfoldable pub attester_slashing_from : ValueOf attester_slashing → AttesterSlashing
unfolding attester_slashing
attester_slashing_from v = record { attestation_1 = indexed_attestation_from v.0; attestation_2 = indexed_attestation_from v.1.0 }

unfoldable pub deposit_data_from : ValueOf deposit_data → DepositData
unfolding deposit_data
deposit_data_from v = record { pubkey = record { 0 = v.0 }; withdrawal_credentials = v.1.0; amount = v.1.1.0; signature = signature v.1.1.1.0 }

unfoldable pub deposit_from : ValueOf deposit → Deposit
unfolding deposit
deposit_from v = record { proof = map root v.0; details = deposit_data_from v.1.0 }

unfoldable pub voluntary_exit_from : ValueOf voluntary_exit → VoluntaryExit
unfolding voluntary_exit
voluntary_exit_from v = record { epoch = v.0; validator_index = v.1.0 }

unfoldable pub beacon_block_body_from : ValueOf beacon_block_body → BeaconBlockBody
unfolding beacon_block_body
beacon_block_body_from v = record {
  randao_reveal = signature v.0;
  eth1_data = eth1_data_from v.1.0;
  graffiti = v.1.1.0;
  proposer_slashings = map proposer_slashing_from v.1.1.1.0;
  attester_slashings = map attester_slashing_from v.1.1.1.1.0;
  attestations = map attestation_from v.1.1.1.1.1.0;
  deposits = map deposit_from v.1.1.1.1.1.1.0;
  voluntary_exits = map (signed_from voluntary_exit voluntary_exit_from) v.1.1.1.1.1.1.1.0;
}

unfoldable pub beacon_block_from : ValueOf beacon_block → BeaconBlock
unfolding beacon_block
beacon_block_from v = record {
  slot = v.0;
  proposer_index = v.1.0;
  parent_root = root v.1.1.0;
  state_root = root v.1.1.1.0;
  body = beacon_block_body_from v.1.1.1.1.0;
}

unfoldable pub sync_aggregate_from : ValueOf sync_aggregate → SyncAggregate
unfolding sync_aggregate
sync_aggregate_from v = record { sync_committee_bits = v.0; sync_committee_signature = signature v.1.0 }

unfoldable pub altair_block_body_from : ValueOf altair_block_body → AltairBlockBody
unfolding altair_block_body
altair_block_body_from v = record {
  phase0 = record {
    randao_reveal = signature v.0;
    eth1_data = eth1_data_from v.1.0;
    graffiti = v.1.1.0;
    proposer_slashings = map proposer_slashing_from v.1.1.1.0;
    attester_slashings = map attester_slashing_from v.1.1.1.1.0;
    attestations = map attestation_from v.1.1.1.1.1.0;
    deposits = map deposit_from v.1.1.1.1.1.1.0;
    voluntary_exits = map (signed_from voluntary_exit voluntary_exit_from) v.1.1.1.1.1.1.1.0;
  };
  sync_aggregate = sync_aggregate_from v.1.1.1.1.1.1.1.1.0;
}

unfoldable pub altair_block_from : ValueOf altair_block → AltairBlock
unfolding altair_block
altair_block_from v = record {
  slot = v.0;
  proposer_index = v.1.0;
  parent_root = root v.1.1.0;
  state_root = root v.1.1.1.0;
  body = altair_block_body_from v.1.1.1.1.0;
}

abbrev pub any_from : (version : ConsensusVersion) → ValueOf (block_shape version) → AnyBlock
any_from version.Phase0 v = any.Phase0 (beacon_block_from v)
any_from version.Altair v = any.Altair (altair_block_from v)

-- the block of a version with a value of its shape
abbrev pub block_from : BlockValue → AnyBlock
block_from block = any_from block.0 block.1
