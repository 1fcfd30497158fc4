use Rattle.std.proofs.Common.{length, []}
use Rattle.interchange_io.specs.Reading.{vote_in}
use Rattle.json_walk.proofs.WalkLemmas.{ItemsWalk}
use Rattle.interchange_io.proofs.KeptLemmas.{Keeps, push}
use Rattle.interchange_io.proofs.entries.read_votes.Given as goal

abbrev pub invariant-items : goal.invariant-items
invariant-items l = ItemsWalk (Keeps vote_in push [] l.votes.items) l.depth l.initial.reader l.reader

abbrev pub decreases-items : goal.decreases-items
decreases-items l = length l.reader
