-- The order of a written file: keys byte by byte, each once, and each key's entries in file order, equal ones once.
use Rattle.std.specs.Prelude.{List, [], fold, unwrap_or}
use Rattle.std.specs.Map.{lookup}
use Rattle.std.specs.BTreeMap.{insert_entry, is_at}
use Rattle.std.specs.BTreeSet.{insert_key}
use Rattle.edge_kit.specs.declared.bytes.PubKey.{PubKey}
use Rattle.slash_defs.specs.declared.book.Book.{Book}
use Rattle.slash_defs.specs.declared.book.File.{File}
use Rattle.slash_defs.specs.FileOrder.{block_cmp, vote_cmp}
use Rattle.interchange_io.specs.United.{key_cmp}

-- nothing is listed
abbrev pub empty_book : Book
empty_book = record { blocks = []; votes = [] }

-- a book in order, with the entries of another, each in its place
abbrev pub merged : Book → Book → Book
merged kept more = record { blocks = fold (insert_key block_cmp) kept.blocks more.blocks; votes = fold (insert_key vote_cmp) kept.votes more.votes }

-- the book of a key, or an empty one
abbrev pub book_at : List (PubKey × Book) → PubKey → Book
book_at books key = unwrap_or (lookup (is_at (key_cmp key)) books) empty_book

-- books in order, with one more in its place
abbrev pub with_sorted : List (PubKey × Book) → PubKey × Book → List (PubKey × Book)
with_sorted books new = insert_entry key_cmp books new.0 (merged (book_at books new.0) new.1)

-- the file in the order in which it is written
abbrev pub canonical : File → File
canonical file = record { genesis = file.genesis; books = fold with_sorted [] file.books }
