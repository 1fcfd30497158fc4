-- A written file lists its keys in ascending order, so each of them once.
use Rattle.std.proofs.Common.{◌≡◌, false, List, [], ◌∷◌, ◌++◌, fold, Ordering, Less, Equal, Greater, is_eq, bytes_eq, refl, sym, ap, ◌∙◌, subst, append_assoc, append-nil}
use Rattle.std.specs.Cmp.{IsTotalOrder}
use Rattle.std.specs.List.{AllByRecursion}
use Rattle.std.specs.List.Sorted.{IsStrictlySortedBy}
use Rattle.std.specs.Map.{keys_of}
use Rattle.std.specs.Ordering.{ordering_reverse, match_ordering}
use Rattle.std.specs.BTreeMap.{insert_entry}
use Rattle.std.specs.BTreeSet.{insert_key}
use Rattle.std.proofs.lemmas.Map.Text.{is_eq-slice_cmp}
use Rattle.edge_kit.specs.declared.bytes.PubKey.{PubKey}
use Rattle.slash_defs.specs.declared.book.Book.{Book}
use Rattle.interchange_io.specs.United.{key_cmp, with_book, united}
use Rattle.interchange_io.specs.WrittenOrder.{with_sorted, merged, book_at}
use Rattle.interchange_io.proofs.BookLemmas.{keys_total}

abbrev Listed : Type 0
Listed = PubKey × Book

-- ---- what is inserted in order stays in order

module _ {K : Type 0} (cmp : K → K → Ordering) (total : IsTotalOrder cmp) where
  all_by : (o : Ordering) (P : K → Type 0) (k x : K) (xs more : List K) → P k → P x → AllByRecursion P xs → AllByRecursion P more → AllByRecursion P (match_ordering o (k ∷ x ∷ xs) (x ∷ xs) (x ∷ more))
  all_by Less P k x xs more pk px all rest = (pk, (px, all))
  all_by Equal P k x xs more pk px all rest = (px, all)
  all_by Greater P k x xs more pk px all rest = (px, rest)

  pub all_inserted : (P : K → Type 0) (k : K) (xs : List K) → P k → AllByRecursion P xs → AllByRecursion P (insert_key cmp xs k)
  all_inserted P k [] pk all = (pk, tt)
  all_inserted P k (x ∷ xs) pk all = all_by (cmp k x) P k x xs (insert_key cmp xs k) pk all.0 all.1 (all_inserted P k xs pk all.1)

  all_above : (k x : K) (xs : List K) → cmp k x ≡ Less → AllByRecursion (λ y. cmp x y ≡ Less) xs → AllByRecursion (λ y. cmp k y ≡ Less) xs
  all_above k x [] below all = tt
  all_above k x (y ∷ xs) below all = (total.trans k x y below all.0, all_above k x xs below all.1)

  sorted_by : (o : Ordering) (k x : K) (xs : List K) → cmp k x ≡ o → AllByRecursion (λ y. cmp x y ≡ Less) xs → IsStrictlySortedBy cmp xs → IsStrictlySortedBy cmp (insert_key cmp xs k)
      → IsStrictlySortedBy cmp (match_ordering o (k ∷ x ∷ xs) (x ∷ xs) (x ∷ insert_key cmp xs k))
  unfolding IsStrictlySortedBy
  sorted_by Less k x xs is all sorted more = ((is, all_above k x xs is all), (all, sorted))
  sorted_by Equal k x xs is all sorted more = (all, sorted)
  sorted_by Greater k x xs is all sorted more = (all_inserted (λ y. cmp x y ≡ Less) k xs (total.antisymm x k ∙ ap ordering_reverse is) all, more)

  pub sorted_inserted : (k : K) (xs : List K) → IsStrictlySortedBy cmp xs → IsStrictlySortedBy cmp (insert_key cmp xs k)
  unfolding IsStrictlySortedBy
  sorted_inserted k [] sorted = (tt, tt)
  sorted_inserted k (x ∷ xs) sorted = sorted_by (cmp k x) k x xs refl sorted.0 sorted.1 (sorted_inserted k xs sorted.1)

  pub sorted_all : (found xs : List K) → IsStrictlySortedBy cmp found → IsStrictlySortedBy cmp (fold (insert_key cmp) found xs)
  sorted_all found [] sorted = sorted
  sorted_all found (x ∷ xs) sorted = sorted_all (insert_key cmp found x) xs (sorted_inserted x found sorted)

keys_by : (o : Ordering) (k : PubKey) (v : Book) (e : Listed) (es more : List Listed) → keys_of (match_ordering o ((k, v) ∷ e ∷ es) ((e.0, v) ∷ es) (e ∷ more)) ≡ match_ordering o (k ∷ e.0 ∷ keys_of es) (e.0 ∷ keys_of es) (e.0 ∷ keys_of more)
keys_by Less k v e es more = refl
keys_by Equal k v e es more = refl
keys_by Greater k v e es more = refl

keys-insert_entry : (es : List Listed) (k : PubKey) (v : Book) → keys_of (insert_entry key_cmp es k v) ≡ insert_key key_cmp (keys_of es) k
keys-insert_entry [] k v = refl
keys-insert_entry (e ∷ es) k v =
    keys_by (key_cmp k e.0) k v e es (insert_entry key_cmp es k v) ∙ ap (λ more. match_ordering (key_cmp k e.0) (k ∷ e.0 ∷ keys_of es) (e.0 ∷ keys_of es) (e.0 ∷ more)) (keys-insert_entry es k v)

pub sorted_keys : (found books : List Listed) → IsStrictlySortedBy key_cmp (keys_of found) → IsStrictlySortedBy key_cmp (keys_of (fold with_sorted found books))
sorted_keys found [] sorted = sorted
sorted_keys found (book ∷ books) sorted =
    sorted_keys (with_sorted found book) books
    (subst (IsStrictlySortedBy key_cmp) (sym (keys-insert_entry found book.0 (merged (book_at found book.0) book.1))) (sorted_inserted key_cmp keys_total book.0 (keys_of found) sorted))

pub nothing_sorted : IsStrictlySortedBy key_cmp []
unfolding IsStrictlySortedBy
nothing_sorted = tt

-- ---- ascending keys are each there once

is_below : (first middle : Listed) (before after : List Listed) → AllByRecursion (λ y. key_cmp first.0 y ≡ Less) (keys_of (before ++ middle ∷ after)) → key_cmp first.0 middle.0 ≡ Less
is_below first middle [] after all = all.0
is_below first middle (b ∷ before) after all = is_below first middle before after all.1

all_below : (before : List Listed) (middle : Listed) (after : List Listed) → IsStrictlySortedBy key_cmp (keys_of (before ++ middle ∷ after)) → AllByRecursion (λ y. key_cmp y middle.0 ≡ Less) (keys_of before)
unfolding IsStrictlySortedBy
all_below [] middle after sorted = tt
all_below (first ∷ before) middle after sorted = (is_below first middle before after sorted.0, all_below before middle after sorted.1)

with_last : (books : List Listed) (new : Listed) → AllByRecursion (λ y. key_cmp y new.0 ≡ Less) (keys_of books) → with_book books new ≡ books ++ new ∷ []
with_last [] new all = refl
with_last (first ∷ books) new all =
    let other : bytes_eq first.0.0 new.0.0 ≡ false = sym (is_eq-slice_cmp first.0.0 new.0.0) ∙ ap is_eq all.0 in
    rw other (ap (λ bs. first ∷ bs) (with_last books new all.1))

fold_once : (rest done : List Listed) → IsStrictlySortedBy key_cmp (keys_of (done ++ rest)) → fold with_book done rest ≡ done ++ rest
fold_once [] done sorted = sym (append-nil done)
fold_once (new ∷ rest) done sorted =
    let regrouped = append_assoc done (new ∷ []) rest in
    ap (λ books. fold with_book books rest) (with_last done new (all_below done new rest sorted))
    ∙ fold_once rest (done ++ new ∷ []) (subst (λ books. IsStrictlySortedBy key_cmp (keys_of books)) (sym regrouped) sorted) ∙ regrouped

-- books in order of their keys are united already
pub united_once : (books : List Listed) → IsStrictlySortedBy key_cmp (keys_of books) → united books ≡ books
united_once books sorted = fold_once books [] sorted
