-- Lists of books that hold the same, each key once, give each key the same entries and floors.
use Rattle.std.proofs.Common.{◌≡◌, ℕ, ◌≤◌, ◌⊎◌, inl, inr, Bool, true, false, cond, ◌||◌, List, [], ◌∷◌, None, Some, Option, unwrap_or, refl, sym, ◌∙◌, ap, subst, arith, Contains}
use Rattle.std.specs.Prelude.{◌↔◌, ⊤}
use Rattle.std.specs.BTreeMap.{is_at}
use Rattle.std.specs.List.{IsDistinct}
use Rattle.std.specs.Map.{keys_of}
use Rattle.std.specs.Option.{option_map}
use Rattle.std.specs.Ordering.{eq_by_cmp}
use Rattle.std.proofs.lemmas.Map.Keys.{IsDistinct-tail}
use Rattle.edge_kit.specs.declared.bytes.PubKey.{PubKey}
use Rattle.slash_defs.specs.declared.entry.BlockEntry.{BlockEntry}
use Rattle.slash_defs.specs.declared.entry.VoteEntry.{VoteEntry}
use Rattle.slash_defs.specs.declared.book.Book.{Book}
use Rattle.protect_record.specs.Floors.{book_floors, least_by}
use Rattle.protect_record.proofs.BoundLemmas.{floors_of-one, greater-none, same_floors}
use Rattle.protect_record.proofs.FloorLemmas.{least_attained, least_below, some-injective, source_floor-is, target_floor-is}
use Rattle.protect_record.proofs.MemberLemmas.{contains_none}
use Rattle.interchange_io.specs.Contents.{HoldSame, SomeBook}
use Rattle.interchange_io.specs.WrittenOrder.{book_at, empty_book}
use Rattle.record_join.specs.Keys.{key_cmp, kept_of}
use Rattle.record_join.specs.KeyLaws.{at_itself, same_key}
use Rattle.record_replay.proofs.NamedLemmas.{has}
use Rattle.record_replay.proofs.BookItemLemmas.{none_behind}

-- ---- the least over the same elements

both_least : {X : Type 0} (f : X → ℕ) (xs ys : List X) (l m : ℕ) → ((x : X) → Contains xs x → Contains ys x) → least_by f xs ≡ Some l → least_by f ys ≡ Some m → m ≤ l
both_least f xs ys l m to p q =
    let one = least_attained f xs l p in
    let low = least_below f ys one.0 (to one.0 one.1) in
    let same : low.0 ≡ m = some-injective low.0 m (sym low.1 ∙ q) in
    omega (arith, low.2, one.2, same)

none_least : {X A : Type 0} (f : X → ℕ) (xs ys : List X) (l : ℕ) → ((x : X) → Contains xs x → Contains ys x) → least_by f xs ≡ Some l → least_by f ys ≡ None → A
none_least f xs ys l to p q =
    let one = least_attained f xs l p in
    let low = least_below f ys one.0 (to one.0 one.1) in
    let bad : None ≡ Some low.0 = sym q ∙ low.1 in
    cc

least_same : {X : Type 0} (f : X → ℕ) (xs ys : List X) → ((x : X) → Contains xs x ↔ Contains ys x) → least_by f xs ≡ least_by f ys
least_same {X} f xs ys same = at (least_by f xs) (least_by f ys) refl refl where
  at : (o p : Option ℕ) → least_by f xs ≡ o → least_by f ys ≡ p → o ≡ p
  at None None e h = refl
  at (Some l) None e h = none_least f xs ys l (λ x. (same x).0) e h
  at None (Some m) e h = none_least f ys xs m (λ x. (same x).1) h e
  at (Some l) (Some m) e h =
      let down = both_least f xs ys l m (λ x. (same x).0) e h in
      let up = both_least f ys xs m l (λ x. (same x).1) h e in
      ap Some (omega (arith, down, up))

pair_parts : (p q : Option (ℕ × ℕ)) → option_map (λ x. x.0) p ≡ option_map (λ x. x.0) q → option_map (λ x. x.1) p ≡ option_map (λ x. x.1) q → p ≡ q
pair_parts None None e h = refl
pair_parts None (Some q) e h = let bad : None ≡ Some q.0 = e in cc
pair_parts (Some p) None e h = let bad : Some p.0 ≡ None = e in cc
pair_parts (Some p) (Some q) e h =
    let first : p.0 ≡ q.0 = some-injective p.0 q.0 e in
    let second : p.1 ≡ q.1 = some-injective p.1 q.1 h in
    let one : ◌≡◌ {A = ℕ × ℕ} (p.0, p.1) (q.0, p.1) = ap (λ x. (x, p.1)) first in
    ap Some (one ∙ ap (λ y. (q.0, y)) second)

book_source : (b : Book) → option_map (λ x. x.0) (book_floors b).vote ≡ least_by (λ e. e.source) b.votes
book_source b = ap (λ f. option_map (λ x. x.0) f.vote) (sym (floors_of-one b)) ∙ source_floor-is (b ∷ []) ∙ greater-none (least_by (λ e. e.source) b.votes)

book_target : (b : Book) → option_map (λ x. x.1) (book_floors b).vote ≡ least_by (λ e. e.target) b.votes
book_target b = ap (λ f. option_map (λ x. x.1) f.vote) (sym (floors_of-one b)) ∙ target_floor-is (b ∷ []) ∙ greater-none (least_by (λ e. e.target) b.votes)

pub same_book_floors : (b c : Book) → ((e : BlockEntry) → Contains b.blocks e ↔ Contains c.blocks e) → ((e : VoteEntry) → Contains b.votes e ↔ Contains c.votes e) → book_floors b ≡ book_floors c
same_book_floors b c blocks votes =
    same_floors (book_floors b) (book_floors c) (least_same (λ e. e.slot) b.blocks c.blocks blocks) (pair_parts (book_floors b).vote (book_floors c).vote
    (book_source b ∙ least_same (λ e. e.source) b.votes c.votes votes ∙ sym (book_source c))
    (book_target b ∙ least_same (λ e. e.target) b.votes c.votes votes ∙ sym (book_target c)))

-- ---- some book of a key is the one at it

module _ (key : PubKey) (holds : Book → Type 0) (empty : ¬ (holds empty_book)) where
  at_book : (books : List (PubKey × Book)) → IsDistinct (eq_by_cmp key_cmp) (keys_of books) → SomeBook key holds books → holds (book_at books key)
  at_book [] distinct h = absurd h
  at_book (one ∷ more) distinct h = at (is_at (key_cmp key) one.0) refl h (λ rest. at_book more (IsDistinct-tail (eq_by_cmp key_cmp) one.0 (keys_of more) distinct) rest) where
    at : (b : Bool) → is_at (key_cmp key) one.0 ≡ b → ((one.0 ≡ key) × holds one.1) ⊎ SomeBook key holds more → (SomeBook key holds more → holds (book_at more key))
        → holds (unwrap_or (cond b (Some one.1) (kept_of more key)) empty_book)
    at true is (inl here) rest = here.1
    at true is (inr later) rest = absurd (empty (subst holds (none_behind key one more distinct is) (rest later)))
    at false is (inl here) rest = let bad : true ≡ false = sym (at_itself key) ∙ ap (λ k. is_at (key_cmp key) k) (sym here.0) ∙ is in cc
    at false is (inr later) rest = rest later

  book_there : (books : List (PubKey × Book)) → holds (book_at books key) → SomeBook key holds books
  book_there [] h = absurd (empty h)
  book_there (one ∷ more) h = at (is_at (key_cmp key) one.0) refl h (λ rest. book_there more rest) where
    at : (b : Bool) → is_at (key_cmp key) one.0 ≡ b → holds (unwrap_or (cond b (Some one.1) (kept_of more key)) empty_book) → (holds (book_at more key) → SomeBook key holds more) → ((one.0 ≡ key) × holds one.1) ⊎ SomeBook key holds more
    at true is h rest = inl (sym (same_key key one.0 is), h)
    at false is h rest = inr (rest h)

pub same_blocks : (first second : List (PubKey × Book)) → HoldSame first second → IsDistinct (eq_by_cmp key_cmp) (keys_of first) → IsDistinct (eq_by_cmp key_cmp) (keys_of second)
    → (key : PubKey) (e : BlockEntry) → Contains (book_at first key).blocks e ↔ Contains (book_at second key).blocks e
same_blocks first second same once also key e =
    let P : Book → Type 0 = λ b. Contains b.blocks e in (
      λ h. at_book key P (contains_none e) second also ((same.blocks key e).0 (book_there key P (contains_none e) first h)),
      λ h. at_book key P (contains_none e) first once ((same.blocks key e).1 (book_there key P (contains_none e) second h)),
    )

pub same_votes : (first second : List (PubKey × Book)) → HoldSame first second → IsDistinct (eq_by_cmp key_cmp) (keys_of first) → IsDistinct (eq_by_cmp key_cmp) (keys_of second)
    → (key : PubKey) (e : VoteEntry) → Contains (book_at first key).votes e ↔ Contains (book_at second key).votes e
same_votes first second same once also key e =
    let P : Book → Type 0 = λ b. Contains b.votes e in (
      λ h. at_book key P (contains_none e) second also ((same.votes key e).0 (book_there key P (contains_none e) first h)),
      λ h. at_book key P (contains_none e) first once ((same.votes key e).1 (book_there key P (contains_none e) second h)),
    )

-- ---- the same keys are listed

listed_has : (key : PubKey) (books : List (PubKey × Book)) → SomeBook key (λ _. ⊤) books → has key (keys_of books) ≡ true
listed_has key [] h = absurd h
listed_has key (one ∷ more) (inl here) = ap (λ b. b || has key (keys_of more)) (ap (λ k. is_at (key_cmp key) k) here.0 ∙ at_itself key)
listed_has key (one ∷ more) (inr later) = at (is_at (key_cmp key) one.0) (listed_has key more later) where
  at : (b : Bool) → has key (keys_of more) ≡ true → (b || has key (keys_of more)) ≡ true
  at true rest = refl
  at false rest = rest

has_listed : (key : PubKey) (books : List (PubKey × Book)) → has key (keys_of books) ≡ true → SomeBook key (λ _. ⊤) books
has_listed key [] h = let bad : false ≡ true = h in cc
has_listed key (one ∷ more) h = at (is_at (key_cmp key) one.0) refl h (λ rest. has_listed key more rest) where
  at : (b : Bool) → is_at (key_cmp key) one.0 ≡ b → (b || has key (keys_of more)) ≡ true → (has key (keys_of more) ≡ true → SomeBook key (λ _. ⊤) more) → ((one.0 ≡ key) × ⊤) ⊎ SomeBook key (λ _. ⊤) more
  at true is h rest = inl (sym (same_key key one.0 is), tt)
  at false is h rest = inr (rest h)

same_bool : (a b : Bool) → (a ≡ true → b ≡ true) → (b ≡ true → a ≡ true) → a ≡ b
same_bool true b to from = sym (to refl)
same_bool false true to from = from refl
same_bool false false to from = refl

pub same_listed : (first second : List (PubKey × Book)) → HoldSame first second → (key : PubKey) → has key (keys_of first) ≡ has key (keys_of second)
same_listed first second same key =
    same_bool (has key (keys_of first)) (has key (keys_of second)) (λ h. listed_has key second ((same.keys key).0 (has_listed key first h))) (λ h. listed_has key first ((same.keys key).1 (has_listed key second h)))

pub hold_same_itself : (books : List (PubKey × Book)) → HoldSame books books
hold_same_itself books = record { keys = λ key. (λ h. h, λ h. h); blocks = λ key e. (λ h. h, λ h. h); votes = λ key e. (λ h. h, λ h. h) }
