-- What is handed over of the kept keys.
use Rattle.std.specs.Prelude.{◌≡◌, Bool, true, false, List, Option, None, Some, IsSomeAnd}
use Rattle.std.specs.Map.{keys_of}
use Rattle.std.specs.List.Sorted.{IsStrictlySortedBy}
use Rattle.edge_kit.specs.declared.bytes.PubKey.{PubKey}
use Rattle.slash_defs.specs.declared.book.Book.{Book}
use Rattle.protect_record.specs.Parts.{Parts}
use Rattle.protect_record.specs.Pasts.{Past}
use Rattle.protect_record.specs.Standing.{Stands}
use Rattle.protect_record.specs.Exporting.{export_of}
use Rattle.record_join.specs.Keys.{key_cmp, kept_of}
use Rattle.record_join.specs.BooksPasts.{EachOnce}
use Rattle.desk_machine.specs.States.{is_among}

-- the book that the record of this past exports
pub record IsExport (past : Past) (book : Book) : Type 0 where
  pub parts : Parts
  pub stands : Stands parts past
  pub value : book ≡ export_of parts

-- what is exported of one key: where it was asked for and is kept, its export
abbrev pub ExportsOne : Bool → Option Past → Option Book → Type 0
ExportsOne true (Some past) book = IsSomeAnd book (λ b. IsExport past b)
ExportsOne true None book = book ≡ None
ExportsOne false past book = book ≡ None

-- of each kept key that was asked for its export, of no other key anything; in key order, no key twice
pub record Exports (pasts : List (PubKey × Past)) (asked : List PubKey) (books : List (PubKey × Book)) : Type 0 where
  pub each : (key : PubKey) → ExportsOne (is_among asked key) (kept_of pasts key) (kept_of books key)
  pub once : EachOnce books
  pub ordered : IsStrictlySortedBy key_cmp (keys_of books)
