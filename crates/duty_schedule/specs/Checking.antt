-- Which members of what a node gives for a duty are checked.
use Rattle.std.specs.Prelude.{ℕ, ◌/◌, ◌==◌, min, not, find, List, [], ◌∷◌, Option, codes}
use Rattle.altair_blocks.specs.AnyBlocks.{slot_of, version_of}
use Rattle.altair_blocks.specs.Versions.{version_at}
use Rattle.altair_blocks.specs.declared.any_block.AnyBlock.{AnyBlock}
use Rattle.altair_blocks.specs.declared.version.ConsensusVersion.{ConsensusVersion}
use Rattle.altair_blocks.specs.declared.version.ConsensusVersion.TheVariants as version
use Rattle.phase0_types.specs.declared.attestation.AttestationData.{AttestationData}
use Rattle.node_calls.specs.declared.answer.AttesterRow.{AttesterRow}
use Rattle.duty_schedule.specs.declared.checks.DataDiffers.{DataDiffers}
use Rattle.duty_schedule.specs.declared.checks.DataMember.{DataMember}
use Rattle.duty_schedule.specs.declared.checks.DataMember.TheVariants as member

-- as consensus-specs spells it
abbrev pub member_name : DataMember → List ℕ
member_name member.Slot = codes "slot"
member_name member.Index = codes "index"
member_name member.TargetEpoch = codes "target.epoch"
member_name member.SourceEpoch = codes "source.epoch"
member_name member.Version = codes "version"

abbrev pub in_member : DataMember → ℕ → ℕ → DataDiffers
in_member m wanted got = record { member = m; wanted = wanted; got = got }

-- the members that a duty determines, in order, each with what is wanted and what was got; a source is no later than its target
abbrev pub data_members : AttesterRow → AttestationData → List DataDiffers
data_members row details =
    in_member member.Slot row.slot details.slot
    ∷ in_member member.Index row.committee_index details.index
    ∷ in_member member.TargetEpoch (row.slot / 32) details.target.epoch
    ∷ in_member member.SourceEpoch (min details.source.epoch details.target.epoch) details.source.epoch
    ∷ []

-- the number that a version has where it differs
abbrev pub version_number : ConsensusVersion → ℕ
version_number version.Phase0 = 0
version_number version.Altair = 1

-- a block is of the slot, and of the slot's version, where blocks are Altair's from this epoch on, or never
abbrev pub block_members : ℕ → Option ℕ → AnyBlock → List DataDiffers
block_members slot altair block =
    in_member member.Slot slot (slot_of block)
    ∷ in_member member.Version (version_number (version_at altair slot)) (version_number (version_of block))
    ∷ []

abbrev pub first_that_differs : List DataDiffers → Option DataDiffers
first_that_differs members = find (λ m. not (m.wanted == m.got)) members
