-- The names of the versions of blocks and aggregates (Web3Signer API, `version` of a `beacon_block` and of an
-- `aggregate_and_proof`).
use Rattle.std.specs.Prelude.{ℕ, List, Bool, true, false, Option, Some, None, unwrap_or, codes, if◌then◌else◌}
use Rattle.std.specs.Str.{bytes_eq}
use Rattle.altair_blocks.specs.declared.version.ConsensusVersion.{ConsensusVersion}
use Rattle.altair_blocks.specs.declared.version.ConsensusVersion.TheVariants as consensus
use Rattle.signer_link.specs.declared.version.BlockVersion.{BlockVersion}
use Rattle.signer_link.specs.declared.version.BlockVersion.TheVariants as version

abbrev pub version_name : BlockVersion → List ℕ
version_name version.Phase0 = codes "PHASE0"
version_name version.Altair = codes "ALTAIR"
version_name version.Bellatrix = codes "BELLATRIX"
version_name version.Capella = codes "CAPELLA"
version_name version.Deneb = codes "DENEB"
version_name version.Electra = codes "ELECTRA"
version_name version.Fulu = codes "FULU"

abbrev pub version_named : List ℕ → Option BlockVersion
version_named name = if bytes_eq name (codes "PHASE0") then Some version.Phase0
    else if bytes_eq name (codes "ALTAIR") then Some version.Altair
    else if bytes_eq name (codes "BELLATRIX") then Some version.Bellatrix
    else if bytes_eq name (codes "CAPELLA") then Some version.Capella
    else if bytes_eq name (codes "DENEB") then Some version.Deneb
    else if bytes_eq name (codes "ELECTRA") then Some version.Electra
    else if bytes_eq name (codes "FULU") then Some version.Fulu
    else None

-- a name that is none of these counts as the newest one
abbrev pub version_of : List ℕ → BlockVersion
version_of name = unwrap_or (version_named name) version.Fulu

-- of a whole block
abbrev pub block_version : ConsensusVersion → BlockVersion
block_version consensus.Phase0 = version.Phase0
block_version consensus.Altair = version.Altair

-- an aggregate has the container of Electra
abbrev pub is_from_electra : BlockVersion → Bool
is_from_electra version.Electra = true
is_from_electra version.Fulu = true
is_from_electra _ = false
