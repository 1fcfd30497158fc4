-- Whole blocks of any version: as values of the shape of their version, by their roots and by their JSON.
use Rattle.std.specs.Prelude.{ℕ, List, None, Result, Ok}
use Rattle.edge_kit.specs.declared.bytes.Sig.{Sig}
use Rattle.serde_json.specs.Data.{Data}
use Rattle.phase0_types.specs.Shapes.{Shape}
use Rattle.phase0_types.specs.Values.{ValueOf}
use Rattle.phase0_types.specs.Roots.{root_of}
use Rattle.phase0_types.specs.Reading.{read_at}
use Rattle.phase0_types.specs.Writing.{write}
use Rattle.phase0_types.specs.Faults.{◌>>=◌}
use Rattle.phase0_types.specs.Containers.{beacon_block, beacon_block_body, signed}
use Rattle.phase0_types.specs.declared.fault.ReadFault.{ReadFault}
use Rattle.phase0_types.specs.declared.header.BeaconBlockHeader.{BeaconBlockHeader}
use Rattle.phase0_blocks.specs.Blocks.{beacon_block_body_value, beacon_block_value}
use Rattle.altair_blocks.specs.Containers.{altair_block, altair_block_body}
use Rattle.altair_blocks.specs.Blocks.{altair_block_body_value, altair_block_value}
use Rattle.altair_blocks.specs.declared.version.ConsensusVersion.{ConsensusVersion}
use Rattle.altair_blocks.specs.declared.version.ConsensusVersion.TheVariants as version
use Rattle.altair_blocks.specs.declared.any_block.AnyBlock.{AnyBlock}
use Rattle.altair_blocks.specs.declared.any_block.AnyBlock.TheVariants as any

-- the container of a block of this version
abbrev pub block_shape : ConsensusVersion → Shape
block_shape version.Phase0 = beacon_block
block_shape version.Altair = altair_block

-- a version with a value of its block's shape
abbrev pub BlockValue : Type 0
BlockValue = (version : ConsensusVersion) × ValueOf (block_shape version)

abbrev pub version_of : AnyBlock → ConsensusVersion
version_of (any.Phase0 block) = version.Phase0
version_of (any.Altair block) = version.Altair

abbrev pub slot_of : AnyBlock → ℕ
slot_of (any.Phase0 block) = block.slot
slot_of (any.Altair block) = block.slot

-- its header, with the root of the body that its version has
abbrev pub header_of : AnyBlock → BeaconBlockHeader
header_of (any.Phase0 block) = record {
  slot = block.slot;
  proposer_index = block.proposer_index;
  parent_root = block.parent_root;
  state_root = block.state_root;
  body_root = record { 0 = root_of beacon_block_body (beacon_block_body_value block.body) };
}
header_of (any.Altair block) = record {
  slot = block.slot;
  proposer_index = block.proposer_index;
  parent_root = block.parent_root;
  state_root = block.state_root;
  body_root = record { 0 = root_of altair_block_body (altair_block_body_value block.body) };
}

abbrev pub block_value : AnyBlock → BlockValue
block_value (any.Phase0 block) = (version.Phase0, beacon_block_value block)
block_value (any.Altair block) = (version.Altair, altair_block_value block)

abbrev pub root_of_block : BlockValue → List ℕ
root_of_block block = root_of (block_shape block.0) block.1

abbrev pub read_block : ConsensusVersion → Data → Result BlockValue ReadFault
read_block version d = read_at (block_shape version) None d >>= (λ value. Ok (version, value))

abbrev pub write_block : BlockValue → Data
write_block block = write (block_shape block.0) block.1

-- a block with its signature (Beacon API, `SignedBeaconBlock`)
unfoldable pub write_signed : BlockValue → Sig → Data
unfolding signed
write_signed block signature = write (signed (block_shape block.0)) (block.1, (signature.0, tt))
