use Rattle.std.proofs.Common.{◌≡◌, length, arith}
use Rattle.ssz_roots.specs.PackingLaws.{merkle_root-one}
use Rattle.phase0_types.specs.Roots.{root_of}
use Rattle.phase0_types.specs.Containers.{beacon_block_header}
use Rattle.phase0_types.specs.Headers.{beacon_block_header_value}
use Rattle.altair_blocks.specs.Containers.{altair_block}
use Rattle.altair_blocks.specs.Blocks.{altair_block_value}
use Rattle.altair_blocks.proofs.block.AltairBlock.header.Goals as goal

pub returns-clause-same_root : goal.returns-clause-same_root
unfolding root_of altair_block beacon_block_header altair_block_value beacon_block_header_value
returns-clause-same_root c =
    let whole : length c.root.result.0 ≡ 32 = omega arith in
    rw (merkle_root-one c.root.result.0 whole, c.root.ensures)
