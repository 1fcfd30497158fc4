-- A file that was read lists each key once.
use Rattle.std.proofs.Common.{◌≡◌, ℕ, Bool, true, false, cond, List, Option, Some, None, Result, Ok, Err, subst, length, nat_lt}
use Rattle.std.specs.Prelude.{AllPairs, ◌≢◌}
use Rattle.std.specs.Str.{is_utf8}
use Rattle.std.specs.Map.{keys_of}
use Rattle.serde_json.specs.Data.{Data, Items}
use Rattle.serde_json.specs.Read.{read}
use Rattle.serde_json.specs.Find.{get, as_array}
use Rattle.std.specs.Option.{ok_or, option_and_then}
use Rattle.interchange_io.specs.Members.{name_of}
use Rattle.slash_defs.specs.declared.book.File.{File}
use Rattle.slash_defs.specs.declared.book.Book.{Book}
use Rattle.edge_kit.specs.declared.bytes.PubKey.{PubKey}
use Rattle.interchange_io.specs.Steps.{◌>>=◌, each}
use Rattle.interchange_io.specs.Reading.{file_of, of_text, of_data, file_in, books_in, united_in, object_in, metadata_in, book_in, file_limit}
use Rattle.interchange_io.specs.declared.fault.ReadFault.{ReadFault}
use Rattle.interchange_io.specs.declared.fault.ReadFault.TheVariants as fault
use Rattle.interchange_io.specs.declared.member.Member.TheVariants as member
use Rattle.interchange_io.proofs.UnitedLemmas.{united_once}

-- what was read, if anything, is such
abbrev IfRead : {A : Type 0} → (A → Type 0) → Result A ReadFault → Type 0
IfRead P (Ok x) = P x
IfRead P (Err e) = Unit {0}

then : {A B : Type 0} (Q : B → Type 0) (r : Result A ReadFault) (f : A → Result B ReadFault) → ((x : A) → IfRead Q (f x)) → IfRead Q (r >>= f)
then Q (Ok x) f h = h x
then Q (Err e) f h = tt

then_such : {A B : Type 0} (P : A → Type 0) (Q : B → Type 0) (r : Result A ReadFault) (f : A → Result B ReadFault) → IfRead P r → ((x : A) → P x → IfRead Q (f x)) → IfRead Q (r >>= f)
then_such P Q (Ok x) f p h = h x p
then_such P Q (Err e) f p h = tt

abbrev BooksOnce : List (PubKey × Book) → Type 0
BooksOnce books = AllPairs (λ a b. a ≢ b) (keys_of books)

abbrev FileOnce : File → Type 0
FileOnce file = BooksOnce file.books

united_such : (ds : Items) → IfRead BooksOnce (united_in ds)
united_such ds = then BooksOnce (each book_in ds) _ united_once

books_such : (d : Data) → IfRead BooksOnce (books_in d)
books_such d = then BooksOnce (ok_or (option_and_then as_array (get (name_of member.Data) d)) (fault.Missing member.Data)) united_in united_such

file_such : (d : Data) → IfRead FileOnce (file_in d)
file_such d = then FileOnce (object_in member.File d) _ (λ is_object. then FileOnce (metadata_in d) _ (λ genesis. then_such BooksOnce FileOnce (books_in d) _ (books_such d) (λ books once. once)))

data_such : (d : Option Data) → IfRead FileOnce (of_data d)
data_such None = tt
data_such (Some d) = file_such d

by_test : (b : Bool) (x : Result File ReadFault) (f : ReadFault) → IfRead FileOnce x → IfRead FileOnce (cond b x (Err f))
by_test true x f h = h
by_test false x f h = tt

text_such : (bytes : List ℕ) → IfRead FileOnce (of_text bytes)
unfolding of_text
text_such bytes = by_test (is_utf8 bytes) (of_data (read bytes)) fault.NotUtf8 (data_such (read bytes))

within_such : (b : Bool) (x : Result File ReadFault) (f : ReadFault) → IfRead FileOnce x → IfRead FileOnce (cond b (Err f) x)
within_such true x f h = tt
within_such false x f h = h

pub lists_once : (bytes : List ℕ) (file : File) → file_of bytes ≡ Ok file → AllPairs (λ a b. a ≢ b) (keys_of file.books)
lists_once bytes file e =
    let P : Result File ReadFault → Type 0 = λ r. IfRead FileOnce r in
    subst P e (within_such (nat_lt file_limit (length bytes)) (of_text bytes) (fault.TooLong (length bytes)) (text_such bytes))
