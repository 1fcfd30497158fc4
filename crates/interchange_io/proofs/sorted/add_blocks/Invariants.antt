use Rattle.std.proofs.Common.{◌≡◌, fold, drop}
use Rattle.std.specs.BTreeSet.{insert_key}
use Rattle.slash_defs.specs.FileOrder.{block_cmp}
use Rattle.interchange_io.proofs.sorted.add_blocks.Given as goal

abbrev pub invariant-each : goal.invariant-each
invariant-each l = fold (insert_key block_cmp) l.sorted.keys (drop l.block-index l.blocks) ≡ fold (insert_key block_cmp) l.fn.sorted.keys l.blocks
