-- A whole block is the one of its value.
use Rattle.std.proofs.Common.{◌≡◌, List, [], ◌∷◌, map, Result, Ok, refl, sym, ap, ◌∙◌}
use Rattle.edge_kit.specs.declared.bytes.PubKey.{PubKey}
use Rattle.edge_kit.specs.declared.bytes.Root.{Root}
use Rattle.phase0_types.specs.Shapes.{Shape}
use Rattle.phase0_types.specs.Values.{ValueOf}
use Rattle.phase0_types.specs.Containers.{signed, attestation, attester_slashing, beacon_block, beacon_block_body, beacon_block_header, deposit, deposit_data, eth1_data, indexed_attestation, proposer_slashing, voluntary_exit}
use Rattle.phase0_types.specs.Attestations.{attestation_data_value}
use Rattle.phase0_types.specs.Headers.{beacon_block_header_value, eth1_data_value}
use Rattle.phase0_types.specs.declared.header.Eth1Data.{Eth1Data}
use Rattle.phase0_types.specs.declared.fault.ReadFault.{ReadFault}
use Rattle.phase0_blocks.specs.Signed.{signed_value}
use Rattle.phase0_blocks.specs.Votes.{attestation_value, indexed_attestation_value}
use Rattle.phase0_blocks.specs.Operations.{attester_slashing_value, deposit_data_value, deposit_value, proposer_slashing_value, voluntary_exit_value}
use Rattle.phase0_blocks.specs.Blocks.{beacon_block_body_value, beacon_block_value}
use Rattle.phase0_blocks.specs.declared.signed.Signed.{Signed}
use Rattle.phase0_blocks.specs.declared.vote.IndexedAttestation.{IndexedAttestation}
use Rattle.phase0_blocks.specs.declared.vote.Attestation.{Attestation}
use Rattle.phase0_blocks.specs.declared.operation.ProposerSlashing.{ProposerSlashing}
use Rattle.phase0_blocks.specs.declared.operation.AttesterSlashing.{AttesterSlashing}
use Rattle.phase0_blocks.specs.declared.operation.DepositData.{DepositData}
use Rattle.phase0_blocks.specs.declared.operation.Deposit.{Deposit}
use Rattle.phase0_blocks.specs.declared.operation.VoluntaryExit.{VoluntaryExit}
use Rattle.phase0_blocks.specs.declared.block.BeaconBlockBody.{BeaconBlockBody}
use Rattle.phase0_blocks.specs.declared.block.BeaconBlock.{BeaconBlock}
use Rattle.altair_blocks.specs.Containers.{sync_aggregate, altair_block_body, altair_block}
use Rattle.altair_blocks.specs.Blocks.{sync_aggregate_value, altair_block_body_value, altair_block_value}
use Rattle.altair_blocks.specs.AnyBlocks.{BlockValue, block_value}
use Rattle.altair_blocks.specs.declared.sync_aggregate.SyncAggregate.{SyncAggregate}
use Rattle.altair_blocks.specs.declared.block.AltairBlockBody.{AltairBlockBody}
use Rattle.altair_blocks.specs.declared.block.AltairBlock.{AltairBlock}
use Rattle.altair_blocks.specs.declared.any_block.AnyBlock.{AnyBlock}
use Rattle.altair_blocks.specs.declared.any_block.AnyBlock.TheVariants as any
use Rattle.signer_link.specs.Objects.{root, header_from, details_from}
use Rattle.session_format.specs.Blocks.{signed_from, eth1_data_from, indexed_attestation_from, attestation_from, proposer_slashing_from, attester_slashing_from, deposit_data_from, deposit_from, voluntary_exit_from, beacon_block_body_from, beacon_block_from, sync_aggregate_from, altair_block_body_from, altair_block_from, block_from}
use Rattle.session_format.specs.WholeBlocks.{fitting_block, read_whole}
use Rattle.session_format.specs.declared.chain.SessionChain.{SessionChain}
use Rattle.session_format.proofs.ObjectLemmas.{header_from-value, details_from-value}

map_back : {A B : Type 0} (value : A → B) (from : B → A) → ((x : A) → from (value x) ≡ x) → (xs : List A) → map from (map value xs) ≡ xs
map_back value from back [] = refl
map_back value from back (x ∷ xs) = rw (back x, map_back value from back xs)

signed_back : {X : Type 0} (shape : Shape) (value : X → ValueOf shape) (from : ValueOf shape → X) → ((x : X) → from (value x) ≡ x) → (it : Signed X) → signed_from shape from (signed_value shape value it) ≡ it
unfolding signed_from signed_value signed
signed_back shape value from back it = rw (back it.message)

eth1_data_back : (it : Eth1Data) → eth1_data_from (eth1_data_value it) ≡ it
unfolding eth1_data_from eth1_data_value eth1_data
eth1_data_back it = refl

indexed_attestation_back : (it : IndexedAttestation) → indexed_attestation_from (indexed_attestation_value it) ≡ it
unfolding indexed_attestation_from indexed_attestation_value indexed_attestation
indexed_attestation_back it = rw (details_from-value it.details)

attestation_back : (it : Attestation) → attestation_from (attestation_value it) ≡ it
unfolding attestation_from attestation_value attestation
attestation_back it = rw (details_from-value it.details)

proposer_slashing_back : (it : ProposerSlashing) → proposer_slashing_from (proposer_slashing_value it) ≡ it
unfolding proposer_slashing_from proposer_slashing_value proposer_slashing
proposer_slashing_back it =
    rw (signed_back beacon_block_header beacon_block_header_value header_from header_from-value it.signed_header_1, signed_back beacon_block_header beacon_block_header_value header_from header_from-value it.signed_header_2)

attester_slashing_back : (it : AttesterSlashing) → attester_slashing_from (attester_slashing_value it) ≡ it
unfolding attester_slashing_from attester_slashing_value attester_slashing
attester_slashing_back it = rw (indexed_attestation_back it.attestation_1, indexed_attestation_back it.attestation_2)

deposit_data_back : (it : DepositData) → deposit_data_from (deposit_data_value it) ≡ it
unfolding deposit_data_from deposit_data_value deposit_data
deposit_data_back it = refl

deposit_back : (it : Deposit) → deposit_from (deposit_value it) ≡ it
unfolding deposit_from deposit_value deposit
deposit_back it = rw (map_back (λ (r : Root). r.0) root (λ r. refl) it.proof, deposit_data_back it.details)

voluntary_exit_back : (it : VoluntaryExit) → voluntary_exit_from (voluntary_exit_value it) ≡ it
unfolding voluntary_exit_from voluntary_exit_value voluntary_exit
voluntary_exit_back it = refl

exits_back : (its : List (Signed VoluntaryExit)) → map (signed_from voluntary_exit voluntary_exit_from) (map (signed_value voluntary_exit voluntary_exit_value) its) ≡ its
exits_back = map_back (signed_value voluntary_exit voluntary_exit_value) (signed_from voluntary_exit voluntary_exit_from) (signed_back voluntary_exit voluntary_exit_value voluntary_exit_from voluntary_exit_back)

beacon_block_body_back : (it : BeaconBlockBody) → beacon_block_body_from (beacon_block_body_value it) ≡ it
unfolding beacon_block_body_from beacon_block_body_value beacon_block_body
beacon_block_body_back it = rw (
  eth1_data_back it.eth1_data,
  map_back proposer_slashing_value proposer_slashing_from proposer_slashing_back it.proposer_slashings,
  map_back attester_slashing_value attester_slashing_from attester_slashing_back it.attester_slashings,
  map_back attestation_value attestation_from attestation_back it.attestations,
  map_back deposit_value deposit_from deposit_back it.deposits,
  exits_back it.voluntary_exits,
)

beacon_block_back : (it : BeaconBlock) → beacon_block_from (beacon_block_value it) ≡ it
unfolding beacon_block_from beacon_block_value beacon_block
beacon_block_back it = rw (beacon_block_body_back it.body)

sync_aggregate_back : (it : SyncAggregate) → sync_aggregate_from (sync_aggregate_value it) ≡ it
unfolding sync_aggregate_from sync_aggregate_value sync_aggregate
sync_aggregate_back it = refl

altair_block_body_back : (it : AltairBlockBody) → altair_block_body_from (altair_block_body_value it) ≡ it
unfolding altair_block_body_from altair_block_body_value altair_block_body
altair_block_body_back it = rw (
  eth1_data_back it.phase0.eth1_data,
  map_back proposer_slashing_value proposer_slashing_from proposer_slashing_back it.phase0.proposer_slashings,
  map_back attester_slashing_value attester_slashing_from attester_slashing_back it.phase0.attester_slashings,
  map_back attestation_value attestation_from attestation_back it.phase0.attestations,
  map_back deposit_value deposit_from deposit_back it.phase0.deposits,
  exits_back it.phase0.voluntary_exits,
  sync_aggregate_back it.sync_aggregate,
)

altair_block_back : (it : AltairBlock) → altair_block_from (altair_block_value it) ≡ it
unfolding altair_block_from altair_block_value altair_block
altair_block_back it = rw (altair_block_body_back it.body)

pub block_from-value : (block : AnyBlock) → block_from (block_value block) ≡ block
block_from-value (any.Phase0 block) = ap any.Phase0 (beacon_block_back block)
block_from-value (any.Altair block) = ap any.Altair (altair_block_back block)

-- what is read of a whole block is that block
pub read_whole-read : (chain : SessionChain) (key : PubKey) (block : AnyBlock) (read : Result BlockValue ReadFault) → Ok (block_value block) ≡ read → read_whole chain key read ≡ fitting_block chain key block
read_whole-read chain key block read is = ap (read_whole chain key) (sym is) ∙ ap (fitting_block chain key) (block_from-value block)
