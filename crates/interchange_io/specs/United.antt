-- The books of a file in which a key may be listed more than once.
use Rattle.std.specs.Prelude.{◌≡◌, ℕ, Bool, List, [], ◌∷◌, ◌++◌, if◌then◌else◌, fold}
use Rattle.std.specs.Str.{bytes_eq}
use Rattle.std.specs.List.{position_from}
use Rattle.std.specs.Ordering.{nat_cmp}
use Rattle.std.specs.Cmp.Lexicographic.{slice_cmp}
use Rattle.std.specs.declared.cmp.Ordering.{Ordering}
use Rattle.std.specs.BTreeMap.{BTreeMap, get}
use Rattle.edge_kit.specs.declared.bytes.PubKey.{PubKey}
use Rattle.slash_defs.specs.declared.book.Book.{Book}

-- the lists of both, one after the other
abbrev pub joined : Book → Book → Book
joined first more = record { blocks = first.blocks ++ more.blocks; votes = first.votes ++ more.votes }

-- the book is of this key
abbrev pub is_of : PubKey → PubKey × Book → Bool
is_of key book = bytes_eq book.0.0 key.0

-- one more book: at the first place of its key, and at the end where the key is new
abbrev pub with_book : List (PubKey × Book) → PubKey × Book → List (PubKey × Book)
with_book [] new = new ∷ []
with_book (first ∷ books) new = if is_of new.0 first then (first.0, joined first.1 new.1) ∷ books else first ∷ with_book books new

-- each key once, at its first place, with its lists in the order of the file
abbrev pub united : List (PubKey × Book) → List (PubKey × Book)
united books = fold with_book [] books

-- byte by byte
abbrev pub key_cmp : PubKey → PubKey → Ordering
key_cmp a b = slice_cmp nat_cmp a.0 b.0

-- the map has the place of each key among the books
abbrev pub ArePlaces : List (PubKey × Book) → BTreeMap PubKey ℕ → Type 0
ArePlaces books places = (key : PubKey) → get key_cmp places key ≡ position_from (is_of key) 0 books
