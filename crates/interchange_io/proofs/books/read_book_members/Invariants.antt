use Rattle.std.proofs.Common.{length}
use Rattle.json_walk.proofs.WalkLemmas.{MembersWalk}
use Rattle.interchange_io.proofs.PartsLemmas.{book_says}
use Rattle.interchange_io.proofs.books.read_book_members.Given as goal

abbrev pub invariant-members : goal.invariant-members
invariant-members l = MembersWalk (book_says l.parts) l.depth l.initial.reader l.reader

abbrev pub decreases-members : goal.decreases-members
decreases-members l = length l.reader
