use Rattle.std.proofs.Common.{◌≡◌, ◌++◌, ◌∷◌, false, map, string_bytes}
use Rattle.std.specs.List.{AllByRecursion}
use Rattle.serde_json.specs.View.{items_of}
use Rattle.serde_json.specs.Written.{items_text}
use Rattle.interchange_io.specs.Ranges.{BookFits}
use Rattle.interchange_io.specs.Writing.{book_data}
use Rattle.interchange_io.proofs.writing.push_books.Given as goal

abbrev pub invariant-each : goal.invariant-each
invariant-each l = record {
  text : string_bytes l.out ++ items_text l.later (items_of (map book_data l.key-iterator)) ≡ string_bytes l.fn.out ++ 91 ∷ items_text false (items_of (map book_data l.books.entries));
  fits : AllByRecursion BookFits l.key-iterator → AllByRecursion BookFits l.books.entries;
}
