use Rattle.std.proofs.Common.{length, []}
use Rattle.interchange_io.specs.Reading.{block_in}
use Rattle.json_walk.proofs.WalkLemmas.{ItemsWalk}
use Rattle.interchange_io.proofs.KeptLemmas.{Keeps, push}
use Rattle.interchange_io.proofs.entries.read_blocks.Given as goal

abbrev pub invariant-items : goal.invariant-items
invariant-items l = ItemsWalk (Keeps block_in push [] l.blocks.items) l.depth l.initial.reader l.reader

abbrev pub decreases-items : goal.decreases-items
decreases-items l = length l.reader
