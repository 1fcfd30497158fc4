-- What is kept of each key lists each key once.
use Rattle.std.proofs.Common.{◌≡◌, ℕ, Bool, List, [], ◌∷◌, map, true, false, None, Some, refl, sym, subst}
use Rattle.std.specs.Prelude.{◌&&◌}
use Rattle.std.specs.Bool.{Decides}
use Rattle.std.specs.List.{AllByRecursion, IsDistinct}
use Rattle.std.specs.List.Sorted.{IsStrictlySortedBy}
use Rattle.std.specs.Map.{keys_of}
use Rattle.std.specs.Ordering.{eq_by_cmp, is_lt}
use Rattle.std.specs.declared.cmp.Ordering.{Ordering}
use Rattle.std.specs.declared.cmp.Ordering.TheVariants.{Less, Equal, Greater}
use Rattle.std.proofs.lemmas.Map.Keys.{IsDistinct-from_sorted}
use Rattle.std.proofs.lemmas.Map.Made.{AllPairs-from_IsDistinct, IsDistinct-from_AllPairs, IsDistinct-keys_filter, keys_of-map_values}
use Rattle.edge_kit.specs.declared.bytes.PubKey.{PubKey}
use Rattle.slash_defs.specs.declared.book.Book.{Book}
use Rattle.record_join.specs.Keys.{key_cmp}
use Rattle.record_join.specs.KeyLaws.{at_itself, key_total, same_key}
use Rattle.record_join.specs.BooksPasts.{EachOnce}
use Rattle.duty_pruning.specs.Pruning.{are_in_order, has_entries, is_after, pruning_book, pruning_books}

same_keys : (a b : PubKey) → Decides (eq_by_cmp key_cmp a b) (a ≡ b)
same_keys a b = (same_key a b, λ e. subst (λ (k : PubKey). eq_by_cmp key_cmp a k ≡ true) e (at_itself a))

less : (r : Ordering) → is_lt r ≡ true → r ≡ Less
less Less h = refl
less Equal h = absurd (let bad : false ≡ true = h in cc)
less Greater h = absurd (let bad : false ≡ true = h in cc)

both : (a b : Bool) → (a && b) ≡ true → (a ≡ true) × (b ≡ true)
both true b h = (refl, h)
both false b h = absurd (let bad : false ≡ true = h in cc)

-- what is above a key is above each that is less
above_less : (k l : PubKey) (ks : List PubKey) → key_cmp k l ≡ Less → AllByRecursion (λ y. key_cmp l y ≡ Less) ks → AllByRecursion (λ y. key_cmp k y ≡ Less) ks
above_less k l [] h all = tt
above_less k l (y ∷ ks) h all = (key_total.trans k l y h all.0, above_less k l ks h all.1)

-- keys that come after this one each, in order, are above it and sorted
rising : {X : Type 0} (k : PubKey) (books : List (PubKey × X)) → are_in_order (Some k) books ≡ true → AllByRecursion (λ y. key_cmp k y ≡ Less) (keys_of books) × IsStrictlySortedBy key_cmp (keys_of books)
unfolding IsStrictlySortedBy
rising k [] h = (tt, tt)
rising k (listed ∷ books) h =
    let parts = both (is_after (Some k) listed.0) (are_in_order (Some listed.0) books) h in
    let first = less (key_cmp k listed.0) parts.0 in
    let rest = rising listed.0 books parts.1 in
    ((first, above_less k listed.0 (keys_of books) first rest.0), rest)

sorted : {X : Type 0} (books : List (PubKey × X)) → are_in_order None books ≡ true → IsStrictlySortedBy key_cmp (keys_of books)
unfolding IsStrictlySortedBy
sorted [] h = tt
sorted (listed ∷ books) h = rising listed.0 books h

pub in_order_once : {X : Type 0} (books : List (PubKey × X)) → are_in_order None books ≡ true → EachOnce books
in_order_once books h = AllPairs-from_IsDistinct same_keys (keys_of books) (IsDistinct-from_sorted key_cmp (keys_of books) (sorted books h))

pub pruned_once : (few from : ℕ) (books : List (PubKey × Book)) → EachOnce books → EachOnce (pruning_books few from books)
pruned_once few from books once =
    let D : List PubKey → Type 0 = λ ks. IsDistinct (eq_by_cmp key_cmp) ks in
    let all : List (PubKey × Book) = map (λ listed. (listed.0, pruning_book few from listed.1)) books in
    let apart = subst D (sym (keys_of-map_values (pruning_book few from) books)) (IsDistinct-from_AllPairs same_keys (keys_of books) once) in
    AllPairs-from_IsDistinct same_keys (keys_of (pruning_books few from books)) (IsDistinct-keys_filter (eq_by_cmp key_cmp) has_entries all apart)
