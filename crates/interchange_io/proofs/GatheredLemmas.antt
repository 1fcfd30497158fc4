-- A book goes to the place of its key.
use Rattle.std.proofs.Common.{◌≡◌, ℕ, zero, suc, ◌+◌, ◌<◌, Bool, true, false, cond, List, [], ◌∷◌, ◌++◌, length, get_or, set, Option, Some, None, bytes_eq, BTreeMap, refl, sym, ap, ◌∙◌, arith}
use Rattle.std.proofs.lemmas.Slice.Eq.{bytes_eq-Decides}
use Rattle.std.proofs.lemmas.Map.Text.{is_eq-slice_cmp}
use Rattle.std.specs.List.{position_from}
use Rattle.std.specs.BTreeMap.{get, Updates}
use Rattle.edge_kit.specs.declared.bytes.PubKey.{PubKey}
use Rattle.slash_defs.specs.declared.book.Book.{Book}
use Rattle.interchange_io.specs.United.{joined, is_of, with_book, key_cmp, ArePlaces}

abbrev Listed : Type 0
Listed = PubKey × Book

-- where the key is found, its book takes the new one's lists
pub record IsJoined (books : List Listed) (new : Listed) (start place : ℕ) : Type 0 where
  pub i : ℕ
  pub at : place ≡ start + i
  pub below : i < length books
  pub after : (d : Listed) → with_book books new ≡ set books i ((get_or books i d).0, joined (get_or books i d).1 new.1)

some_same : {x y : ℕ} → Some x ≡ Some y → x ≡ y
some_same e = cc

is_joined_by : (b : Bool) (first : Listed) (books : List Listed) (new : Listed) (start place : ℕ) → is_of new.0 first ≡ b
    → (position_from (is_of new.0) (start + 1) books ≡ Some place → IsJoined books new (start + 1) place)
    → cond b (Some start) (position_from (is_of new.0) (start + 1) books) ≡ Some place → IsJoined (first ∷ books) new start place
is_joined_by true first books new start place is later e = record {
  i = 0;
  at = omega (arith, some_same e);
  below = omega arith;
  after = λ d. rw is refl;
}
is_joined_by false first books new start place is later e = let rest = later e in record {
  i = suc rest.i;
  at = omega (arith, rest.at);
  below = omega (arith, rest.below);
  after = λ d. rw is (ap (λ bs. first ∷ bs) (rest.after d));
}

pub is_joined : (books : List Listed) (new : Listed) (start place : ℕ) → position_from (is_of new.0) start books ≡ Some place → IsJoined books new start place
is_joined [] new start place e = absurd cc
is_joined (first ∷ books) new start place e = is_joined_by (is_of new.0 first) first books new start place refl (is_joined books new (start + 1) place) e

-- where it is not found, the book goes to the end
with_new_book_by : (b : Bool) (first : Listed) (books : List Listed) (new : Listed) (start : ℕ) → is_of new.0 first ≡ b
    → (position_from (is_of new.0) (start + 1) books ≡ None → with_book books new ≡ books ++ new ∷ [])
    → cond b (Some start) (position_from (is_of new.0) (start + 1) books) ≡ None → with_book (first ∷ books) new ≡ first ∷ (books ++ new ∷ [])
with_new_book_by true first books new start is later e = absurd cc
with_new_book_by false first books new start is later e = rw is (ap (λ bs. first ∷ bs) (later e))

pub with_new_book : (books : List Listed) (new : Listed) (start : ℕ) → position_from (is_of new.0) start books ≡ None → with_book books new ≡ books ++ new ∷ []
with_new_book [] new start e = refl
with_new_book (first ∷ books) new start e = with_new_book_by (is_of new.0 first) first books new start refl (with_new_book books new (start + 1)) e

-- a write that leaves each key in its place leaves the places
pub places-set : (q : PubKey) (books : List Listed) (start i : ℕ) (d : Listed) (book : Book) → position_from (is_of q) start (set books i ((get_or books i d).0, book)) ≡ position_from (is_of q) start books
places-set q [] start i d book = refl
places-set q (first ∷ books) start zero d book = refl
places-set q (first ∷ books) start (suc i) d book = ap (λ o. cond (is_of q first) (Some start) o) (places-set q books (start + 1) i d book)

abbrev or_else : Option ℕ → Option ℕ → Option ℕ
or_else None o = o
or_else (Some n) o = Some n

cond-or_else : (b : Bool) (n : ℕ) (o p : Option ℕ) → cond b (Some n) (or_else o p) ≡ or_else (cond b (Some n) o) p
cond-or_else true n o p = refl
cond-or_else false n o p = refl

position_from-push : (q : PubKey) (books : List Listed) (start : ℕ) (new : Listed)
    → position_from (is_of q) start (books ++ new ∷ []) ≡ or_else (position_from (is_of q) start books) (cond (is_of q new) (Some (start + length books)) None)
position_from-push q [] start new = ap (λ n. cond (is_of q new) (Some n) None) (omega arith)
position_from-push q (first ∷ books) start new =
    ap (λ o. cond (is_of q first) (Some start) o) (position_from-push q books (start + 1) new ∙ ap (λ n. or_else (position_from (is_of q) (start + 1) books) (cond (is_of q new) (Some n) None)) (omega arith))
    ∙ cond-or_else (is_of q first) start (position_from (is_of q) (start + 1) books) (cond (is_of q new) (Some (start + suc (length books))) None)

found_after : (b : Bool) (n : ℕ) (o : Option ℕ) → (b ≡ true → o ≡ None) → cond b (Some n) o ≡ or_else o (cond b (Some n) None)
found_after true n o none = rw (none refl) refl
found_after false n None none = refl
found_after false n (Some m) none = refl

key_same : (a b : PubKey) → bytes_eq a.0 b.0 ≡ true → a ≡ b
key_same a b e = ap (λ bytes. record { 0 = bytes }) ((bytes_eq-Decides a.0 b.0).0 e)

-- a new key's place is the last
pub places-push : (old new : BTreeMap PubKey ℕ) (books : List Listed) (book : Listed) → ArePlaces books old → position_from (is_of book.0) 0 books ≡ None → Updates key_cmp old new book.0 (Some (length books)) → ArePlaces (books ++ book ∷ []) new
places-push old new books book are none updates q =
    updates.0 q ∙ ap (λ b. cond b (Some (length books)) (get key_cmp old q)) (is_eq-slice_cmp book.0.0 q.0) ∙ ap (λ o. cond (bytes_eq book.0.0 q.0) (Some (length books)) o) (are q)
    ∙ found_after (bytes_eq book.0.0 q.0) (length books) (position_from (is_of q) 0 books) (λ e. ap (λ (k : PubKey). position_from (is_of k) 0 books) (sym (key_same book.0 q e)) ∙ none)
    ∙ ap (λ n. or_else (position_from (is_of q) 0 books) (cond (is_of q book) (Some n) None)) (omega arith) ∙ sym (position_from-push q books 0 book)

-- what stands after a write to the book that was found
pub joined_at : (books : List Listed) (new : Listed) (place : ℕ) (e : Listed) (kept : Book) → IsJoined books new 0 place → e ≡ get_or books place e → kept ≡ joined e.1 new.1 → set books place (e.0, kept) ≡ with_book books new
joined_at books new place e kept there at is =
    let same : there.i ≡ place = omega (arith, there.at) in
    ap (λ k. set books place (e.0, k)) is ∙ ap (λ (x : Listed). set books place (x.0, joined x.1 new.1)) at
    ∙ ap (λ j. set books j ((get_or books j e).0, joined (get_or books j e).1 new.1)) (sym same) ∙ sym (there.after e)

pub places_at : (books : List Listed) (place : ℕ) (e : Listed) (kept : Book) (places : BTreeMap PubKey ℕ) → ArePlaces books places → e ≡ get_or books place e → ArePlaces (set books place (e.0, kept)) places
places_at books place e kept places are at q = are q ∙ sym (places-set q books 0 place e kept) ∙ ap (λ (x : Listed). position_from (is_of q) 0 (set books place (x.0, kept))) (sym at)
