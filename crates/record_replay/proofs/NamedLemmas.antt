-- Which keys are named: two ascending lists of the same keys are one.
use Rattle.std.proofs.Common.{◌≡◌, Bool, true, false, cond, ◌||◌, List, [], ◌∷◌, ◌++◌, map, fold, Some, refl, sym, ◌∙◌, ap}
use Rattle.std.specs.Prelude.{is_some}
use Rattle.std.specs.BTreeMap.{is_at}
use Rattle.std.specs.BTreeSet.{insert_key}
use Rattle.std.specs.List.{list_any, AllByRecursion}
use Rattle.std.specs.List.Sorted.{IsStrictlySortedBy}
use Rattle.std.specs.Map.{keys_of}
use Rattle.std.specs.Ordering.{is_eq, match_ordering, ordering_reverse}
use Rattle.std.specs.declared.cmp.Ordering.{Ordering}
use Rattle.std.specs.declared.cmp.Ordering.TheVariants.{Less, Equal, Greater}
use Rattle.std.proofs.lemmas.List.{map-append}
use Rattle.std.proofs.lemmas.List.Sums.{fold-append}
use Rattle.edge_kit.specs.declared.bytes.PubKey.{PubKey}
use Rattle.slash_defs.specs.declared.book.Book.{Book}
use Rattle.protect_record.specs.Pasts.{Past, with_book}
use Rattle.interchange_io.proofs.OnceLemmas.{nothing_sorted, sorted_all, sorted_inserted}
use Rattle.record_codec.specs.declared.item.JournalItem.{JournalItem}
use Rattle.record_join.specs.Keys.{key_cmp, kept_of, with_key}
use Rattle.record_join.specs.BooksPasts.{known_past, with_file, with_file_book}
use Rattle.record_join.specs.KeyLaws.{at_itself, key_exact, key_total, same_key}
use Rattle.record_replay.specs.Items.{key_of, named_keys}

-- ---- whether a key is among others

abbrev pub has : PubKey → List PubKey → Bool
has key keys = list_any (is_at (key_cmp key)) keys

pub has_kept : {X : Type 0} (xs : List (PubKey × X)) (k : PubKey) → is_some (kept_of xs k) ≡ has k (keys_of xs)
has_kept [] k = refl
has_kept {X} (a ∷ more) k = at (is_at (key_cmp k) a.0) (has_kept more k) where
  at : (b : Bool) → is_some (kept_of more k) ≡ has k (keys_of more) → is_some (cond b (Some a.1) (kept_of more k)) ≡ (b || has k (keys_of more))
  at true rest = refl
  at false rest = rest

or_again : (a c : Bool) → (a || c) ≡ (a || (a || c))
or_again true c = refl
or_again false c = refl

or_turn : (a b c : Bool) → (b || (a || c)) ≡ (a || (b || c))
or_turn true true c = refl
or_turn true false c = refl
or_turn false true c = refl
or_turn false false c = refl

or_group : (a b c : Bool) → (b || (a || c)) ≡ ((a || b) || c)
or_group true true c = refl
or_group true false c = refl
or_group false true c = refl
or_group false false c = refl

pub or_none : (a : Bool) → (a || false) ≡ a
or_none true = refl
or_none false = refl

pub has_inserted : (k q : PubKey) (xs : List PubKey) → has q (insert_key key_cmp xs k) ≡ (is_at (key_cmp q) k || has q xs)
has_inserted k q [] = refl
has_inserted k q (x ∷ xs) = at (key_cmp k x) refl (has_inserted k q xs) where
  at : (o : Ordering) → key_cmp k x ≡ o → has q (insert_key key_cmp xs k) ≡ (is_at (key_cmp q) k || has q xs)
      → has q (match_ordering o (k ∷ x ∷ xs) (x ∷ xs) (x ∷ insert_key key_cmp xs k)) ≡ (is_at (key_cmp q) k || (is_at (key_cmp q) x || has q xs))
  at Less is rest = refl
  at Equal is rest = or_again (is_at (key_cmp q) x) (has q xs) ∙ ap (λ z. is_at (key_cmp q) z || (is_at (key_cmp q) x || has q xs)) (sym (key_exact k x is))
  at Greater is rest = ap (λ b. is_at (key_cmp q) x || b) rest ∙ or_turn (is_at (key_cmp q) k) (is_at (key_cmp q) x) (has q xs)

pub has_all : (q : PubKey) (found ks : List PubKey) → has q (fold (insert_key key_cmp) found ks) ≡ (has q ks || has q found)
has_all q found [] = refl
has_all q found (k ∷ ks) = has_all q (insert_key key_cmp found k) ks ∙ ap (λ b. has q ks || b) (has_inserted k q found) ∙ or_group (is_at (key_cmp q) k) (has q ks) (has q found)

-- ---- ascending keys

below_all : (k : PubKey) (xs : List PubKey) → AllByRecursion (λ y. key_cmp k y ≡ Less) xs → has k xs ≡ false
below_all k [] all = refl
below_all k (x ∷ xs) all = let apart : is_at (key_cmp k) x ≡ false = ap is_eq all.0 in rw apart (below_all k xs all.1)

all_above : (k x : PubKey) (xs : List PubKey) → key_cmp k x ≡ Less → AllByRecursion (λ y. key_cmp x y ≡ Less) xs → AllByRecursion (λ y. key_cmp k y ≡ Less) xs
all_above k x [] below all = tt
all_above k x (y ∷ xs) below all = (key_total.trans k x y below all.0, all_above k x xs below all.1)

-- a key that is below a list's first is not in it
not_there : (x y : PubKey) (ys : List PubKey) → key_cmp x y ≡ Less → AllByRecursion (λ z. key_cmp y z ≡ Less) ys → has x (y ∷ ys) ≡ false
not_there x y ys less all = below_all x (y ∷ ys) (less, all_above x y ys less all)

first_there : (x : PubKey) (xs : List PubKey) → has x (x ∷ xs) ≡ true
first_there x xs = ap (λ b. b || has x xs) (at_itself x)

true≢false : {A : Type 0} (b c : Bool) → b ≡ true → c ≡ false → b ≡ c → A
true≢false {A} b c p q e = let bad : true ≡ false = sym p ∙ e ∙ q in cc

pub sorted_same : (xs ys : List PubKey) → IsStrictlySortedBy key_cmp xs → IsStrictlySortedBy key_cmp ys → ((q : PubKey) → has q xs ≡ has q ys) → xs ≡ ys
unfolding IsStrictlySortedBy
sorted_same [] [] sorted also same = refl
sorted_same [] (y ∷ ys) sorted also same = true≢false (has y (y ∷ ys)) false (first_there y ys) refl (sym (same y))
sorted_same (x ∷ xs) [] sorted also same = true≢false (has x (x ∷ xs)) false (first_there x xs) refl (same x)
sorted_same (x ∷ xs) (y ∷ ys) sorted also same = at (key_cmp x y) refl (λ h. sorted_same xs ys sorted.1 also.1 h) where
  behind : x ≡ y → (q : PubKey) → has q xs ≡ has q ys
  behind e q = by (is_at (key_cmp q) x) refl (same q) where
    by : (b : Bool) → is_at (key_cmp q) x ≡ b → (b || has q xs) ≡ (is_at (key_cmp q) y || has q ys) → has q xs ≡ has q ys
    by true found h =
        let here : q ≡ x = same_key q x found in
        ap (λ z. has z xs) here ∙ below_all x xs sorted.0 ∙ sym (ap (λ z. has z ys) (here ∙ e) ∙ below_all y ys also.0)
    by false apart h =
        let other : is_at (key_cmp q) y ≡ false = ap (λ z. is_at (key_cmp q) z) (sym e) ∙ apart in
        h ∙ ap (λ b. b || has q ys) other

  at : (o : Ordering) → key_cmp x y ≡ o → (((q : PubKey) → has q xs ≡ has q ys) → xs ≡ ys) → x ∷ xs ≡ y ∷ ys
  at Less is rest = true≢false (has x (x ∷ xs)) (has x (y ∷ ys)) (first_there x xs) (not_there x y ys is also.0) (same x)
  at Equal is rest = let e : x ≡ y = key_exact x y is in ap (λ z. z ∷ xs) e ∙ ap (λ l. y ∷ l) (rest (behind e))
  at Greater is rest =
      let back : key_cmp y x ≡ Less = key_total.antisymm y x ∙ ap ordering_reverse is in
      true≢false (has y (y ∷ ys)) (has y (x ∷ xs)) (first_there y ys) (not_there y x xs back sorted.0) (sym (same y))

-- a key that is there is not inserted again
pub inserted_there : (ks : List PubKey) (k : PubKey) → IsStrictlySortedBy key_cmp ks → has k ks ≡ true → insert_key key_cmp ks k ≡ ks
inserted_there ks k sorted there = sorted_same (insert_key key_cmp ks k) ks (sorted_inserted key_cmp key_total k ks sorted) sorted (λ q. has_inserted k q ks ∙ by q (is_at (key_cmp q) k) refl) where
  by : (q : PubKey) (b : Bool) → is_at (key_cmp q) k ≡ b → (b || has q ks) ≡ has q ks
  by q true found = sym (ap (λ z. has z ks) (same_key q k found) ∙ there)
  by q false apart = refl

-- where the same keys are inserted, in whichever order, the same list comes out
pub inserted_same : (ks xs ys : List PubKey) → IsStrictlySortedBy key_cmp ks → ((q : PubKey) → has q xs ≡ has q ys) → fold (insert_key key_cmp) ks xs ≡ fold (insert_key key_cmp) ks ys
inserted_same ks xs ys sorted same =
    sorted_same (fold (insert_key key_cmp) ks xs) (fold (insert_key key_cmp) ks ys) (sorted_all key_cmp key_total ks xs sorted) (sorted_all key_cmp key_total ks ys sorted)
    (λ q. has_all q ks xs ∙ ap (λ b. b || has q ks) (same q) ∙ sym (has_all q ks ys))

-- ---- the keys of what is kept

pub keys_with : {X : Type 0} (xs : List (PubKey × X)) (k : PubKey) (x : X) → keys_of (with_key xs k x) ≡ insert_key key_cmp (keys_of xs) k
keys_with [] k x = refl
keys_with {X} (a ∷ more) k x = at (key_cmp k a.0) (keys_with more k x) where
  at : (o : Ordering) → keys_of (with_key more k x) ≡ insert_key key_cmp (keys_of more) k
      → keys_of (match_ordering o ((k, x) ∷ a ∷ more) ((a.0, x) ∷ more) (a ∷ with_key more k x)) ≡ match_ordering o (k ∷ a.0 ∷ keys_of more) (a.0 ∷ keys_of more) (a.0 ∷ insert_key key_cmp (keys_of more) k)
  at Less rest = refl
  at Equal rest = refl
  at Greater rest = ap (λ l. a.0 ∷ l) rest

pub keys_with_file : (pasts : List (PubKey × Past)) (books : List (PubKey × Book)) → keys_of (with_file pasts books) ≡ fold (insert_key key_cmp) (keys_of pasts) (keys_of books)
keys_with_file pasts [] = refl
keys_with_file pasts (one ∷ more) =
    keys_with_file (with_file_book pasts one) more
    ∙ ap (λ ks. fold (insert_key key_cmp) ks (keys_of more)) (keys_with pasts one.0 (with_book (known_past (kept_of pasts one.0)) one.1))

-- ---- the keys that items name

pub named_sorted : (items : List JournalItem) → IsStrictlySortedBy key_cmp (named_keys items)
named_sorted items = sorted_all key_cmp key_total [] (map key_of items) nothing_sorted

pub named_more : (items more : List JournalItem) → named_keys (items ++ more) ≡ fold (insert_key key_cmp) (named_keys items) (map key_of more)
named_more items more = ap (λ ks. fold (insert_key key_cmp) [] ks) (map-append key_of items more) ∙ fold-append (insert_key key_cmp) [] (map key_of items) (map key_of more)

pub has_named : (items : List JournalItem) (q : PubKey) → has q (named_keys items) ≡ has q (map key_of items)
has_named items q = has_all q [] (map key_of items) ∙ or_none (has q (map key_of items))
