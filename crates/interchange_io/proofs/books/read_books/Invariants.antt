use Rattle.std.proofs.Common.{length, []}
use Rattle.interchange_io.specs.Reading.{book_in}
use Rattle.interchange_io.specs.United.{with_book, ArePlaces}
use Rattle.json_walk.proofs.WalkLemmas.{ItemsWalk}
use Rattle.interchange_io.proofs.KeptLemmas.{Keeps}
use Rattle.interchange_io.proofs.books.read_books.Given as goal

abbrev pub invariant-items : goal.invariant-items
invariant-items l = record {
  read : ItemsWalk (Keeps book_in with_book [] l.gathered.books.items) l.depth l.initial.reader l.reader;
  places : ArePlaces l.gathered.books.items l.gathered.places;
}

abbrev pub decreases-items : goal.decreases-items
decreases-items l = length l.reader
