-- The same of each key of a file.
use Rattle.std.proofs.Common.{◌≡◌, ℕ, Bool, true, false, cond, List, [], map, Option, Some, None, option_map, refl, sym, ◌∙◌, ap, subst, IsSomeAnd}
use Rattle.std.specs.Prelude.{◌||◌}
use Rattle.std.specs.List.{IsDistinct}
use Rattle.std.specs.Map.{keys_of}
use Rattle.std.specs.Ordering.{eq_by_cmp}
use Rattle.std.proofs.lemmas.Cmp.{eq_by_cmp_equiv}
use Rattle.std.proofs.lemmas.Map.Entries.{option_filter, lookup-filter-values}
use Rattle.std.proofs.lemmas.Map.Made.{keys_of-map_values, lookup-map_values}
use Rattle.std.specs.BTreeMap.{is_at}
use Rattle.edge_kit.specs.declared.bytes.PubKey.{PubKey}
use Rattle.slash_defs.specs.declared.message.Message.{Message}
use Rattle.slash_defs.specs.declared.book.Book.{Book}
use Rattle.slash_defs.specs.declared.book.File.{File}
use Rattle.protect_record.specs.Pasts.{Past, with_book}
use Rattle.protect_record.specs.Passing.{Passes}
use Rattle.protect_record.specs.PastLaws.{passes-with_book}
use Rattle.record_join.specs.Keys.{key_cmp, kept_of}
use Rattle.record_join.specs.KeyLaws.{distinct_once, key_total}
use Rattle.record_join.specs.BooksPasts.{EachOnce, PassesAt, gained, with_file}
use Rattle.record_join.specs.BooksPastsLaws.{gained_listed}
use Rattle.duty_pruning.specs.Pruning.{are_in_order, few_old, is_some_entry, kept_from, pruning_book, pruning_books, pruning_file}
use Rattle.duty_pruning.proofs.OnceLemmas.{in_order_once, pruned_once}
use Rattle.pruning_law.specs.KeptEpochs.{AreExports, IsExportOf, IsOfKeptEpoch}
use Rattle.pruning_law.proofs.BookLemmas.{book_kept}

abbrev has_some : Book → Bool
has_some book = is_some_entry book.blocks || is_some_entry book.votes

-- what is merged for a key, by the book that is listed for it
abbrev merged : ℕ → ℕ → Option Book → Option Book
merged few from book = option_filter has_some (option_map (pruning_book few from) book)

merged_of : (few from : ℕ) (books : List (PubKey × Book)) (key : PubKey) → EachOnce books → kept_of (pruning_books few from books) key ≡ merged few from (kept_of books key)
merged_of few from books key once =
    let all : List (PubKey × Book) = map (λ listed. (listed.0, pruning_book few from listed.1)) books in
    let D : List PubKey → Type 0 = λ ks. IsDistinct (eq_by_cmp key_cmp) ks in
    let apart : D (keys_of all) = subst D (sym (keys_of-map_values (pruning_book few from) books)) (distinct_once books once) in
    lookup-filter-values (eq_by_cmp_equiv key_total) has_some key all apart
    ∙ ap (λ o. option_filter has_some o) (lookup-map_values (pruning_book few from) (is_at (key_cmp key)) books)

-- what each key has after the merge
after_merge : (pasts : List (PubKey × Past)) (few from : ℕ) (books : List (PubKey × Book)) (key : PubKey) → are_in_order None books ≡ true
    → kept_of (with_file pasts (pruning_books few from books)) key ≡ gained with_book (kept_of pasts key) (merged few from (kept_of books key))
after_merge pasts few from books key in_order =
    let once = in_order_once books in_order in
    gained_listed with_book pasts (pruning_books few from books) key (pruned_once few from books once) ∙ ap (λ o. gained with_book (kept_of pasts key) o) (merged_of few from books key once)

-- ---- by what is kept and what is listed of one key

module _ (m : Message) where
  -- the past lets this message pass
  abbrev Lets : Option Past → Type 0
  Lets past = IsSomeAnd past (λ p. Passes p m)

  module _ (few from : ℕ) (high : IsOfKeptEpoch from m) where
    kept_by : (past : Option Past) (book : Book) (b : Bool) → IsSomeAnd past (λ p. IsExportOf p book) → Lets past → Lets (gained with_book past (cond b (Some (pruning_book few from book)) None))
    kept_by None book b exports passes = absurd passes
    kept_by (Some past) book false exports passes = passes
    kept_by (Some past) book true (parts, stands, is) passes =
        subst (λ (c : Book). Passes (with_book past (pruning_book few from c)) m) (sym is) (book_kept parts past few from m stands high passes)

    kept_listed : (past : Option Past) (book : Option Book) → ((b : Book) → book ≡ Some b → IsSomeAnd past (λ p. IsExportOf p b)) → Lets past → Lets (gained with_book past (merged few from book))
    kept_listed past None exports passes = passes
    kept_listed past (Some book) exports passes = kept_by past book (has_some (pruning_book few from book)) (exports book refl) passes

  module _ (few from : ℕ) where
    no_more_by : (past : Option Past) (book : Book) (b : Bool) → IsSomeAnd past (λ p. IsExportOf p book) → Lets (gained with_book past (cond b (Some (pruning_book few from book)) None)) → Lets past
    no_more_by None book b exports passes = absurd exports
    no_more_by (Some past) book false exports passes = passes
    no_more_by (Some past) book true exports passes = passes-with_book past (pruning_book few from book) m passes

    no_more_listed : (past : Option Past) (book : Option Book) → ((b : Book) → book ≡ Some b → IsSomeAnd past (λ p. IsExportOf p b)) → Lets (gained with_book past (merged few from book)) → Lets past
    no_more_listed past None exports passes = passes
    no_more_listed past (Some book) exports passes = no_more_by past book (has_some (pruning_book few from book)) (exports book refl) passes

-- ---- of the file

pub file_kept : (pasts : List (PubKey × Past)) (keep epoch : ℕ) (file : File) (key : PubKey) (m : Message) → AreExports pasts file.books → IsOfKeptEpoch (kept_from keep epoch) m → PassesAt pasts key m
    → PassesAt (with_file pasts (pruning_file keep epoch file).books) key m
file_kept pasts keep epoch file key m exports high passes = at (are_in_order None file.books) refl where
  few : ℕ
  few = few_old keep

  from : ℕ
  from = kept_from keep epoch

  at : (b : Bool) → are_in_order None file.books ≡ b → PassesAt (with_file pasts (cond b (pruning_books few from file.books) [])) key m
  at false is = passes
  at true is =
      subst (λ (o : Option Past). Lets m o) (sym (after_merge pasts few from file.books key is))
      (kept_listed m few from high (kept_of pasts key) (kept_of file.books key) (exports key) passes)

pub file_no_more : (pasts : List (PubKey × Past)) (keep epoch : ℕ) (file : File) (key : PubKey) (m : Message) → AreExports pasts file.books
    → PassesAt (with_file pasts (pruning_file keep epoch file).books) key m → PassesAt pasts key m
file_no_more pasts keep epoch file key m exports = at (are_in_order None file.books) refl where
  few : ℕ
  few = few_old keep

  from : ℕ
  from = kept_from keep epoch

  at : (b : Bool) → are_in_order None file.books ≡ b → PassesAt (with_file pasts (cond b (pruning_books few from file.books) [])) key m → PassesAt pasts key m
  at false is passes = passes
  at true is passes =
      no_more_listed m few from (kept_of pasts key) (kept_of file.books key) (exports key)
      (subst (λ (o : Option Past). Lets m o) (after_merge pasts few from file.books key is) passes)
