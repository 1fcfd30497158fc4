-- The versions of a block, and which one a slot's block has (Beacon API, `ConsensusVersion`; consensus-specs,
-- `ALTAIR_FORK_EPOCH`, `compute_epoch_at_slot`).
use Rattle.std.specs.Prelude.{ℕ, ◌/◌, List, nat_le, if◌then◌else◌, Option, Some, None, codes}
use Rattle.std.specs.Str.{bytes_eq}
use Rattle.altair_blocks.specs.declared.version.ConsensusVersion.{ConsensusVersion}
use Rattle.altair_blocks.specs.declared.version.ConsensusVersion.TheVariants as version

abbrev pub version_name : ConsensusVersion → List ℕ
version_name version.Phase0 = codes "phase0"
version_name version.Altair = codes "altair"

abbrev pub version_named : List ℕ → Option ConsensusVersion
version_named name =
    if bytes_eq name (codes "phase0") then Some version.Phase0
    else if bytes_eq name (codes "altair") then Some version.Altair
    else None

-- blocks are Altair's from this epoch on, or never
abbrev pub version_at : Option ℕ → ℕ → ConsensusVersion
version_at None slot = version.Phase0
version_at (Some epoch) slot = if nat_le epoch (slot / 32) then version.Altair else version.Phase0
