-- United books list what the books list, each key once.
use Rattle.std.proofs.Common.{◌≡◌, Bool, true, false, not, ◌||◌, cond, List, [], ◌∷◌, ◌++◌, fold, bytes_eq, refl, sym, ap, ◌∙◌, subst, append_assoc, append-nil}
use Rattle.std.specs.List.{AllByRecursion, IsDistinct, filter, list_any}
use Rattle.std.specs.Map.{keys_of}
use Rattle.std.specs.Bool.{Decides}
use Rattle.std.specs.Prelude.{AllPairs, ◌≢◌}
use Rattle.std.proofs.lemmas.Map.Made.{AllPairs-from_IsDistinct}
use Rattle.std.proofs.lemmas.Slice.Eq.{bytes_eq-Decides}
use Rattle.edge_kit.specs.declared.bytes.PubKey.{PubKey}
use Rattle.slash_defs.specs.declared.book.Book.{Book}
use Rattle.interchange_io.specs.United.{joined, is_of, with_book, united}
use Rattle.interchange_io.specs.Contents.{first_places, listed_for, IsUnited}

abbrev Listed : Type 0
Listed = PubKey × Book

abbrev is_same : PubKey → PubKey → Bool
is_same a b = bytes_eq a.0 b.0

same_key : (a b : PubKey) → is_same a b ≡ true → a ≡ b
same_key a b e = ap (λ bytes. record { 0 = bytes }) ((bytes_eq-Decides a.0 b.0).0 e)

differ_back : (a b : PubKey) → is_same a b ≡ false → is_same b a ≡ false
differ_back a b apart = by_test (is_same b a) refl where
  by_test : (r : Bool) → is_same b a ≡ r → r ≡ false
  by_test false e = refl
  by_test true e = let here = (bytes_eq-Decides a.0 b.0).1 (sym ((bytes_eq-Decides b.0 a.0).0 e)) in absurd cc

-- ---- keys

abbrev is_among : List PubKey → PubKey → Bool
is_among keys key = list_any (λ k. is_same k key) keys

abbrev absent : List PubKey → PubKey → Bool
absent keys key = not (is_among keys key)

keys_by : (b : Bool) (first : Listed) (found : List Listed) (new : Listed) → is_of new.0 first ≡ b → keys_of (with_book found new) ≡ cond (is_among (keys_of found) new.0) (keys_of found) (keys_of found ++ new.0 ∷ [])
    → keys_of (cond b ((first.0, joined first.1 new.1) ∷ found) (first ∷ with_book found new)) ≡ cond (b || is_among (keys_of found) new.0) (first.0 ∷ keys_of found) (first.0 ∷ (keys_of found ++ new.0 ∷ []))
keys_by true first found new is later = refl
keys_by false first found new is later = ap (λ ks. first.0 ∷ ks) later ∙ apart (is_among (keys_of found) new.0) where
  apart : (a : Bool) → first.0 ∷ cond a (keys_of found) (keys_of found ++ new.0 ∷ []) ≡ cond a (first.0 ∷ keys_of found) (first.0 ∷ (keys_of found ++ new.0 ∷ []))
  apart true = refl
  apart false = refl

keys_with : (found : List Listed) (new : Listed) → keys_of (with_book found new) ≡ cond (is_among (keys_of found) new.0) (keys_of found) (keys_of found ++ new.0 ∷ [])
keys_with [] new = refl
keys_with (first ∷ found) new = keys_by (is_of new.0 first) first found new refl (keys_with found new)

filter_step : (a : Bool) (q : PubKey) (xs ys : List PubKey) → xs ≡ ys → cond a (q ∷ xs) xs ≡ cond a (q ∷ ys) ys
filter_step true q xs ys e = ap (λ zs. q ∷ zs) e
filter_step false q xs ys e = e

-- a key that is among the keys is left out twice over
drop_known : (keys : List PubKey) (key : PubKey) (qs : List PubKey) → is_among keys key ≡ true → filter (absent keys) qs ≡ filter (absent keys) (filter (λ q. not (is_same key q)) qs)
drop_known keys key [] known = refl
drop_known keys key (q ∷ qs) known = by_test (is_same key q) refl (drop_known keys key qs known) where
  by_test : (b : Bool) → is_same key q ≡ b → filter (absent keys) qs ≡ filter (absent keys) (filter (λ q. not (is_same key q)) qs)
      → cond (absent keys q) (q ∷ filter (absent keys) qs) (filter (absent keys) qs) ≡ filter (absent keys) (cond (not b) (q ∷ filter (λ q. not (is_same key q)) qs) (filter (λ q. not (is_same key q)) qs))
  by_test true same later = let here : is_among keys q ≡ true = subst (λ k. is_among keys k ≡ true) (same_key key q same) known in rw here later
  by_test false other later = filter_step (absent keys q) q (filter (absent keys) qs) (filter (absent keys) (filter (λ q. not (is_same key q)) qs)) later

among_push : (keys : List PubKey) (key q : PubKey) → is_among (keys ++ key ∷ []) q ≡ (is_among keys q || is_same key q)
among_push [] key q = or_false (is_same key q) where
  or_false : (b : Bool) → (b || false) ≡ b
  or_false true = refl
  or_false false = refl
among_push (k ∷ keys) key q = ap (λ b. is_same k q || b) (among_push keys key q) ∙ regroup (is_same k q) (is_among keys q) (is_same key q) where
  regroup : (a b c : Bool) → (a || (b || c)) ≡ ((a || b) || c)
  regroup true b c = refl
  regroup false b c = refl

drop_new : (keys : List PubKey) (key : PubKey) (qs : List PubKey) → filter (absent (keys ++ key ∷ [])) qs ≡ filter (absent keys) (filter (λ q. not (is_same key q)) qs)
drop_new keys key [] = refl
drop_new keys key (q ∷ qs) =
    ap (λ b. cond (not b) (q ∷ filter (absent (keys ++ key ∷ [])) qs) (filter (absent (keys ++ key ∷ [])) qs)) (among_push keys key q) ∙ by_test (is_same key q) (is_among keys q) refl (drop_new keys key qs) where
      by_test : (b a : Bool) → is_among keys q ≡ a → filter (absent (keys ++ key ∷ [])) qs ≡ filter (absent keys) (filter (λ q. not (is_same key q)) qs)
          → cond (not (a || b)) (q ∷ filter (absent (keys ++ key ∷ [])) qs) (filter (absent (keys ++ key ∷ [])) qs)
          ≡ filter (absent keys) (cond (not b) (q ∷ filter (λ q. not (is_same key q)) qs) (filter (λ q. not (is_same key q)) qs))
      by_test true true is later = later
      by_test true false is later = later
      by_test false true is later = rw is later
      by_test false false is later = rw is (ap (λ zs. q ∷ zs) later)

keys_step : (b : Bool) (keys : List PubKey) (key : PubKey) (qs : List PubKey) → is_among keys key ≡ b
    → cond b keys (keys ++ key ∷ []) ++ filter (absent (cond b keys (keys ++ key ∷ []))) qs
    ≡ keys ++ cond (not b) (key ∷ filter (absent keys) (filter (λ q. not (is_same key q)) qs)) (filter (absent keys) (filter (λ q. not (is_same key q)) qs))
keys_step true keys key qs is = ap (λ xs. keys ++ xs) (drop_known keys key qs is)
keys_step false keys key qs is = append_assoc keys (key ∷ []) (filter (absent (keys ++ key ∷ [])) qs) ∙ ap (λ xs. keys ++ key ∷ xs) (drop_new keys key qs)

keys_fold : (books found : List Listed) → keys_of (fold with_book found books) ≡ keys_of found ++ filter (absent (keys_of found)) (first_places (keys_of books))
keys_fold [] found = sym (append-nil (keys_of found))
keys_fold (new ∷ books) found =
    let qs = first_places (keys_of books) in
    keys_fold books (with_book found new) ∙ ap (λ ks. ks ++ filter (absent ks) qs) (keys_with found new) ∙ keys_step (is_among (keys_of found) new.0) (keys_of found) new.0 qs refl

all_kept : (qs : List PubKey) → filter (absent []) qs ≡ qs
all_kept [] = refl
all_kept (q ∷ qs) = ap (λ xs. q ∷ xs) (all_kept qs)

-- ---- lists

abbrev Once : List Listed → Type 0
Once books = IsDistinct is_same (keys_of books)

module _ (P : PubKey → Type 0) where
  all_by : (b : Bool) (first : Listed) (found : List Listed) (new : Listed) → AllByRecursion P (keys_of (first ∷ found)) → AllByRecursion P (keys_of (with_book found new))
      → AllByRecursion P (keys_of (cond b ((first.0, joined first.1 new.1) ∷ found) (first ∷ with_book found new)))
  all_by true first found new all later = all
  all_by false first found new all later = (all.0, later)

  all_with : (found : List Listed) (new : Listed) → AllByRecursion P (keys_of found) → P new.0 → AllByRecursion P (keys_of (with_book found new))
  all_with [] new all h = (h, tt)
  all_with (first ∷ found) new all h = all_by (is_of new.0 first) first found new all (all_with found new all.1 h)

once_by : (b : Bool) (first : Listed) (found : List Listed) (new : Listed) → is_of new.0 first ≡ b → Once (first ∷ found) → Once (with_book found new)
    → Once (cond b ((first.0, joined first.1 new.1) ∷ found) (first ∷ with_book found new))
unfolding IsDistinct
once_by true first found new is once later = once
once_by false first found new is once later = (all_with (λ k. is_same first.0 k ≡ false) found new once.0 is, later)

once_with : (found : List Listed) (new : Listed) → Once found → Once (with_book found new)
unfolding IsDistinct
once_with [] new once = (tt, tt)
once_with (first ∷ found) new once = once_by (is_of new.0 first) first found new refl once (once_with found new once.1)

module _ {X : Type 0} (part : Book → List X) (adds : (a b : Book) → part (joined a b) ≡ part a ++ part b) where
  -- no other book is of the key
  none_listed : (key first : PubKey) (found : List Listed) → is_same first key ≡ true → AllByRecursion (λ k. is_same first k ≡ false) (keys_of found) → listed_for key part found ≡ []
  none_listed key first [] is all = refl
  none_listed key first (book ∷ found) is all =
      let other : is_same book.0 key ≡ false = subst (λ k. is_same book.0 k ≡ false) (same_key first key is) (differ_back first book.0 all.0) in
      rw other (none_listed key first found is all.1)

  listed_by : (b : Bool) (key : PubKey) (first : Listed) (found : List Listed) (new : Listed) → is_of new.0 first ≡ b → AllByRecursion (λ k. is_same first.0 k ≡ false) (keys_of found)
      → listed_for key part (with_book found new) ≡ listed_for key part found ++ cond (is_of key new) (part new.1) []
      → listed_for key part (cond b ((first.0, joined first.1 new.1) ∷ found) (first ∷ with_book found new)) ≡ (cond (is_of key first) (part first.1) [] ++ listed_for key part found) ++ cond (is_of key new) (part new.1) []
  listed_by false key first found new is others later =
      ap (λ xs. cond (is_of key first) (part first.1) [] ++ xs) later ∙ sym (append_assoc (cond (is_of key first) (part first.1) []) (listed_for key part found) (cond (is_of key new) (part new.1) []))
  listed_by true key first found new is others later =
      by_test (is_same first.0 key) refl ∙ ap (λ (k : PubKey). (cond (is_same first.0 key) (part first.1) [] ++ listed_for key part found) ++ cond (is_same k key) (part new.1) []) (same_key first.0 new.0 is) where
        by_test : (u : Bool) → is_same first.0 key ≡ u → cond u (part (joined first.1 new.1)) [] ++ listed_for key part found ≡ (cond u (part first.1) [] ++ listed_for key part found) ++ cond u (part new.1) []
        by_test false other = sym (append-nil (listed_for key part found))
        by_test true same =
            rw (none_listed key first.0 found same others, adds first.1 new.1) (append-nil (part first.1 ++ part new.1) ∙ ap (λ xs. xs ++ part new.1) (sym (append-nil (part first.1))))

  listed_with : (key : PubKey) (found : List Listed) (new : Listed) → Once found → listed_for key part (with_book found new) ≡ listed_for key part found ++ cond (is_of key new) (part new.1) []
  unfolding IsDistinct
  listed_with key [] new once = append-nil (cond (is_of key new) (part new.1) [])
  listed_with key (first ∷ found) new once = listed_by (is_of new.0 first) key first found new refl once.0 (listed_with key found new once.1)

  listed_fold : (key : PubKey) (books found : List Listed) → Once found → listed_for key part (fold with_book found books) ≡ listed_for key part found ++ listed_for key part books
  listed_fold key [] found once = sym (append-nil (listed_for key part found))
  listed_fold key (new ∷ books) found once =
      listed_fold key books (with_book found new) (once_with found new once) ∙ ap (λ xs. xs ++ listed_for key part books) (listed_with key found new once)
      ∙ append_assoc (listed_for key part found) (cond (is_of key new) (part new.1) []) (listed_for key part books)

nothing_once : Once []
unfolding IsDistinct
nothing_once = tt

pub united_is_united : (books : List Listed) → IsUnited books (united books)
united_is_united books = record {
  keys = keys_fold books [] ∙ all_kept (first_places (keys_of books));
  blocks = λ key. listed_fold (λ book. book.blocks) (λ a b. refl) key books [] nothing_once;
  votes = λ key. listed_fold (λ book. book.votes) (λ a b. refl) key books [] nothing_once;
}

once_fold : (books found : List Listed) → Once found → Once (fold with_book found books)
once_fold [] found once = once
once_fold (new ∷ books) found once = once_fold books (with_book found new) (once_with found new once)

decides : (a b : PubKey) → Decides (is_same a b) (a ≡ b)
decides a b = (same_key a b, λ e. (bytes_eq-Decides a.0 b.0).1 (ap (λ (k : PubKey). k.0) e))

-- no key stands twice
pub united_once : (books : List Listed) → AllPairs (λ a b. a ≢ b) (keys_of (united books))
united_once books = AllPairs-from_IsDistinct decides (keys_of (united books)) (once_fold books [] nothing_once)
