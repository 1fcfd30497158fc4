-- What a whole block asks for, where its version is the one of its slot.
use Rattle.std.specs.Prelude.{ℕ, ◌/◌, List, Bool, true, false, if◌then◌else◌, Option, Some, Result, Ok, Err}
use Rattle.edge_kit.specs.declared.bytes.PubKey.{PubKey}
use Rattle.slash_defs.specs.declared.message.Message.{Message}
use Rattle.slash_defs.specs.declared.message.Message.TheVariants as message
use Rattle.phase0_types.specs.declared.fault.ReadFault.{ReadFault}
use Rattle.altair_blocks.specs.AnyBlocks.{BlockValue, block_value, root_of_block, slot_of, version_of}
use Rattle.altair_blocks.specs.Versions.{version_at}
use Rattle.altair_blocks.specs.declared.version.ConsensusVersion.{ConsensusVersion}
use Rattle.altair_blocks.specs.declared.version.ConsensusVersion.TheVariants as version
use Rattle.altair_blocks.specs.declared.any_block.AnyBlock.{AnyBlock}
use Rattle.sign_roots.specs.Domains.{domain_of}
use Rattle.sign_roots.specs.SigningRoots.{signing_root_of, slots_per_epoch}
use Rattle.sign_roots.specs.declared.domains.Domains.{Domains}
use Rattle.sign_roots.specs.declared.kind.DomainKind.TheVariants as kind
use Rattle.signer_link.specs.Objects.{root}
use Rattle.signer_link.specs.declared.request.SignObject.TheVariants as object
use Rattle.session_format.specs.Blocks.{block_from}
use Rattle.session_format.specs.Members.{inside}
use Rattle.session_format.specs.declared.chain.SessionChain.{SessionChain}
use Rattle.session_format.specs.declared.member.Member.{Member}
use Rattle.session_format.specs.declared.member.Member.TheVariants as member
use Rattle.session_format.specs.declared.request.Op.{Op}
use Rattle.session_format.specs.declared.request.Op.TheVariants as op

-- what a proposer signs for a whole block (consensus-specs, `get_block_signature`)
abbrev pub whole_root : Domains → AnyBlock → List ℕ
whole_root domains block = signing_root_of (root_of_block (block_value block)) (domain_of domains kind.BeaconProposer (slot_of block / slots_per_epoch))

-- its slot, and what its proposer signs
abbrev pub whole_message : Domains → AnyBlock → Message
whole_message domains block = message.Block (slot_of block) (root (whole_root domains block))

abbrev pub same_version : ConsensusVersion → ConsensusVersion → Bool
same_version version.Phase0 version.Phase0 = true
same_version version.Altair version.Altair = true
same_version _ _ = false

-- the block is of the version that its slot has, where blocks are Altair's from this epoch on, or never
abbrev pub is_of_slot : Option ℕ → AnyBlock → Bool
is_of_slot altair block = same_version (version_of block) (version_at altair (slot_of block))

-- to sign the block, where it is of its slot's version
abbrev pub fitting_block : SessionChain → PubKey → AnyBlock → Result Op Member
fitting_block chain key block =
    if is_of_slot chain.altair block then Ok (op.Propose key (whole_message chain.domains block) (Some (object.Block block))) else Err member.Version

-- what is read of a block
abbrev pub read_whole : SessionChain → PubKey → Result BlockValue ReadFault → Result Op Member
read_whole chain key (Ok value) = fitting_block chain key (block_from value)
read_whole chain key (Err fault) = Err (inside member.Block fault)
