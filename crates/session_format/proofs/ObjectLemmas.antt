-- The objects of a line as values of their shapes.
use Rattle.std.proofs.Common.{◌≡◌, Result, Ok, Some, refl, sym, ap, ◌∙◌}
use Rattle.edge_kit.specs.declared.bytes.PubKey.{PubKey}
use Rattle.phase0_types.specs.Roots.{root_of}
use Rattle.phase0_types.specs.Values.{ValueOf}
use Rattle.phase0_types.specs.Containers.{checkpoint, attestation_data, beacon_block_header}
use Rattle.phase0_types.specs.Attestations.{checkpoint_value, attestation_data_value}
use Rattle.phase0_types.specs.Headers.{beacon_block_header_value}
use Rattle.phase0_types.specs.declared.header.BeaconBlockHeader.{BeaconBlockHeader}
use Rattle.phase0_types.specs.declared.attestation.AttestationData.{AttestationData}
use Rattle.phase0_types.specs.declared.fault.ReadFault.{ReadFault}
use Rattle.altair_blocks.specs.AnyBlocks.{block_value, root_of_block, slot_of}
use Rattle.altair_blocks.specs.declared.any_block.AnyBlock.{AnyBlock}
use Rattle.sign_roots.specs.SigningRoots.{block_root_of}
use Rattle.sign_roots.specs.declared.domains.Domains.{Domains}
use Rattle.signer_link.specs.declared.request.SignObject.TheVariants as object
use Rattle.signer_link.specs.declared.version.BlockVersion.TheVariants as version
use Rattle.session_format.specs.declared.request.Op.TheVariants as op
use Rattle.signer_link.specs.Objects.{header_from, checkpoint_from, details_from, block_message, vote_message}
use Rattle.session_format.specs.Requests.{header_block, details_vote}
use Rattle.session_format.specs.WholeBlocks.{whole_message}

pub header_from-value : (header : BeaconBlockHeader) → header_from (beacon_block_header_value header) ≡ header
unfolding header_from beacon_block_header_value beacon_block_header
header_from-value header = refl

pub details_from-value : (details : AttestationData) → details_from (attestation_data_value details) ≡ details
unfolding details_from checkpoint_from attestation_data_value checkpoint_value attestation_data checkpoint
details_from-value details = refl

-- what is read of a header is the block of that header
pub header_block-read : (domains : Domains) (key : PubKey) (header : BeaconBlockHeader) (read : Result (ValueOf beacon_block_header) ReadFault) → Ok (beacon_block_header_value header) ≡ read
    → header_block domains key read ≡ Ok (op.Propose key (block_message domains header) (Some (object.Header version.Phase0 header)))
header_block-read domains key header read is =
    ap (header_block domains key) (sym is) ∙ ap (λ h. Ok (op.Propose key (block_message domains h) (Some (object.Header version.Phase0 h)))) (header_from-value header)

-- what is read of attestation data is the vote of that data
pub details_vote-read : (domains : Domains) (key : PubKey) (details : AttestationData) (read : Result (ValueOf attestation_data) ReadFault) → Ok (attestation_data_value details) ≡ read
    → details_vote domains key read ≡ Ok (op.Propose key (vote_message domains details) (Some (object.Attestation details)))
details_vote-read domains key details read is =
    ap (details_vote domains key) (sym is) ∙ ap (λ d. Ok (op.Propose key (vote_message domains d) (Some (object.Attestation d)))) (details_from-value details)

-- a header with a block's slot and root is signed as the block is
pub block_message-whole : (domains : Domains) (block : AnyBlock) (header : BeaconBlockHeader) → header.slot ≡ slot_of block
    → root_of beacon_block_header (beacon_block_header_value header) ≡ root_of_block (block_value block) → block_message domains header ≡ whole_message domains block
unfolding block_root_of
block_message-whole domains block header slot same = rw (same, slot)
