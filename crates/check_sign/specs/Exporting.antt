-- The exports that are found for keys.
use Rattle.std.specs.Prelude.{◌≡◌, Bool, true, false, List, Option, None, option_map}
use Rattle.edge_kit.specs.declared.bytes.PubKey.{PubKey}
use Rattle.slash_defs.specs.declared.book.Book.{Book}
use Rattle.protect_record.specs.Parts.{Parts}
use Rattle.protect_record.specs.Exporting.{export_of}
use Rattle.record_join.specs.Keys.{kept_of}
use Rattle.desk_machine.specs.States.{is_among}

-- of records: what is exported of a key
abbrev pub export_at : Bool → Option Parts → Option Book
export_at true parts = option_map export_of parts
export_at false parts = None

-- the books found for these keys are the exports of their records
abbrev pub AreExports : List (PubKey × Parts) → List PubKey → List (PubKey × Book) → Type 0
AreExports kept asked found = (key : PubKey) → kept_of found key ≡ export_at (is_among asked key) (kept_of kept key)
