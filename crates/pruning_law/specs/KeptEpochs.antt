-- Which messages are of a kept epoch, and which books are exports of what is kept.
use Rattle.std.specs.Prelude.{◌≡◌, ℕ, ◌≤◌, ◌/◌, List, Some, IsSomeAnd}
use Rattle.edge_kit.specs.declared.bytes.PubKey.{PubKey}
use Rattle.slash_defs.specs.declared.book.Book.{Book}
use Rattle.slash_defs.specs.declared.message.Message.{Message}
use Rattle.slash_defs.specs.declared.message.Message.TheVariants as message
use Rattle.protect_record.specs.Parts.{Parts}
use Rattle.protect_record.specs.Pasts.{Past}
use Rattle.protect_record.specs.Standing.{Stands}
use Rattle.protect_record.specs.Exporting.{export_of}
use Rattle.record_join.specs.Keys.{kept_of}

-- of this epoch or a later one: a block by its slot, of which an epoch has 32, and a vote by its target
abbrev pub IsOfKeptEpoch : ℕ → Message → Type 0
IsOfKeptEpoch from (message.Block slot root) = from ≤ slot / 32
IsOfKeptEpoch from (message.Vote source target root) = from ≤ target

-- a record that stands for the past exports the book
abbrev pub IsExportOf : Past → Book → Type 0
IsExportOf past book = (parts : Parts) × Stands parts past × (book ≡ export_of parts)

-- each listed key has a past, and the book that is listed for it is an export of that
abbrev pub AreExports : List (PubKey × Past) → List (PubKey × Book) → Type 0
AreExports pasts books = (key : PubKey) (book : Book) → kept_of books key ≡ Some book → IsSomeAnd (kept_of pasts key) (λ past. IsExportOf past book)
