-- What is written for a file says that file.
use Rattle.std.proofs.Common.{◌≡◌, ℕ, suc, ◌^◌, ◌<◌, ◌≤◌, true, List, [], ◌∷◌, length, get_or, map, Option, Some, None, Result, Ok, decimal, refl, ap, arith}
use Rattle.std.specs.Char.{is_ascii_digit}
use Rattle.std.specs.List.{AllByRecursion, list_all}
use Rattle.std.specs.Result.{result_ok}
use Rattle.std.specs.Str.Parse.{digits_value}
use Rattle.std.proofs.lemmas.Bool.{and_from, le-leb, lt-ltb}
use Rattle.std.proofs.lemmas.Fmt.{decimal_is_IsNumeral, decimal_nonempty, length-decimal-le}
use Rattle.std.proofs.lemmas.Str.Parse.{digit_at}
use Rattle.hex.proofs.HexLemmas.{decode_sized-encode_lower}
use Rattle.serde_json.specs.Data.{Data}
use Rattle.serde_json.specs.View.{items_of}
use Rattle.edge_kit.specs.Texts.{is_quoted, quoted_number, hex_bytes, hex_text}
use Rattle.edge_kit.specs.declared.bytes.PubKey.{PubKey}
use Rattle.edge_kit.specs.declared.bytes.Root.{Root}
use Rattle.slash_defs.specs.declared.entry.BlockEntry.{BlockEntry}
use Rattle.slash_defs.specs.declared.entry.VoteEntry.{VoteEntry}
use Rattle.slash_defs.specs.declared.book.Book.{Book}
use Rattle.slash_defs.specs.declared.book.File.{File}
use Rattle.interchange_io.specs.declared.fault.ReadFault.{ReadFault}
use Rattle.interchange_io.specs.Steps.{each}
use Rattle.interchange_io.specs.Reading.{block_in, vote_in, book_in, file_in}
use Rattle.interchange_io.specs.Ranges.{AreBytes, RootFits, BlockFits, VoteFits, BookFits, FileFits}
use Rattle.interchange_io.specs.United.{united}
use Rattle.interchange_io.specs.Writing.{block_data, vote_data, book_data, file_data}

-- ---- texts

hex_back : (n : ℕ) (bytes : List ℕ) → AreBytes n bytes → hex_bytes n (hex_text bytes) ≡ Some bytes
hex_back n bytes fits = ap result_ok (decode_sized-encode_lower bytes n fits.0 fits.1)

all_digits : (ds : List ℕ) → ((i : ℕ) → i < length ds → (48 ≤ get_or ds i 0) × (get_or ds i 0 ≤ 57)) → list_all is_ascii_digit ds ≡ true
all_digits [] h = refl
all_digits (d ∷ ds) h = let first = h 0 (omega arith) in and_from _ _ (and_from _ _ (le-leb 48 d first.0) (le-leb d 57 first.1)) (all_digits ds (λ i below. h (suc i) (omega arith)))

is_quoted-decimal : (n : ℕ) → n < 2 ^ 64 → is_quoted (decimal n) ≡ true
is_quoted-decimal n fits =
    let numeral = decimal_is_IsNumeral n fits in
    let some : 0 < length (decimal n) = decimal_nonempty n fits in
    let few : length (decimal n) ≤ 20 = length-decimal-le 20 n (omega arith) (omega arith) fits in
    and_from _ _
    (and_from _ _ (and_from _ _ (lt-ltb 0 (length (decimal n)) some) (le-leb (length (decimal n)) 20 few)) (all_digits (decimal n) (λ i below. digit_at (decimal n) i numeral.0.1 below)))
    (lt-ltb (digits_value 10 (decimal n)) (2 ^ 64) (omega (arith, numeral.1)))

number_back : (n : ℕ) → n < 2 ^ 64 → quoted_number (decimal n) ≡ Some n
number_back n fits = rw (is_quoted-decimal n fits) (ap Some (decimal_is_IsNumeral n fits).1)

-- ---- entries

block_back : (block : BlockEntry) → BlockFits block → block_in (block_data block) ≡ Ok block
block_back block fits = with_its_root block.root fits.1 where
  with_its_root : (root : Option Root) → RootFits root → block_in (block_data (record block { root = root })) ≡ Ok (record block { root = root })
  with_its_root None h = rw (number_back block.slot fits.0) refl
  with_its_root (Some root) h = rw (number_back block.slot fits.0, hex_back 32 root.0 h) refl

vote_back : (vote : VoteEntry) → VoteFits vote → vote_in (vote_data vote) ≡ Ok vote
vote_back vote fits = with_its_root vote.root fits.2 where
  with_its_root : (root : Option Root) → RootFits root → vote_in (vote_data (record vote { root = root })) ≡ Ok (record vote { root = root })
  with_its_root None h = rw (number_back vote.source fits.0, number_back vote.target fits.1) refl
  with_its_root (Some root) h = rw (number_back vote.source fits.0, number_back vote.target fits.1, hex_back 32 root.0 h) refl

each_back : {A : Type 0} (read : Data → Result A ReadFault) (write : A → Data) (P : A → Type 0) → ((x : A) → P x → read (write x) ≡ Ok x) → (xs : List A) → AllByRecursion P xs → each read (items_of (map write xs)) ≡ Ok xs
each_back read write P back [] fits = refl
each_back read write P back (x ∷ xs) fits = rw (back x fits.0, each_back read write P back xs fits.1) refl

-- ---- books

book_back : (book : PubKey × Book) → BookFits book → book_in (book_data book) ≡ Ok book
book_back book fits = rw (hex_back 48 book.0.0 fits.0, each_back block_in block_data BlockFits block_back book.1.blocks fits.1, each_back vote_in vote_data VoteFits vote_back book.1.votes fits.2) refl

pub file_back : (file : File) → FileFits file → united file.books ≡ file.books → file_in (file_data file) ≡ Ok file
file_back file fits once = rw (hex_back 32 file.genesis.0 fits.0, each_back book_in book_data BookFits book_back file.books fits.1, once) refl
