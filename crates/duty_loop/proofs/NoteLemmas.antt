-- What is noted of the keys that were asked for by an index.
use Rattle.std.proofs.Common.{◌≡◌, ℕ, zero, suc, ◌+◌, ◌<◌, ◌≤◌, ◌⊎◌, inl, inr, Bool, true, false, cond, not, ◌&&◌, List, [], ◌∷◌, ◌++◌, length, take, drop, get_or, map, filter, append_assoc, Option, Some, None, Less, Equal, Greater, refl, sym, ◌∙◌, ap, subst, arith}
use Rattle.std.specs.Prelude.{◌==◌, nat_lt, nat_le}
use Rattle.std.specs.List.{AllWithin, cons_option}
use Rattle.std.specs.List.Sorted.{IsNonDecreasingBy, IsPartitionedBy, IsPartitionPoint, IsPermutation, IsSortedByKey, IsStableByKey, ties}
use Rattle.std.specs.Ordering.{is_lt, nat_cmp}
use Rattle.std.proofs.lemmas.Bool.{cases_order, cond-false, cond-true, eq-eqb, leb-false, leb-true, lt-ltb, le-ltb, ltb-false, ltb-true, ne_eqb}
use Rattle.std.proofs.lemmas.List.{at_drop_more}
use Rattle.std.proofs.lemmas.List.Sorted.{IsNonDecreasingBy-drop, IsNonDecreasingBy-from_sort, IsPartitionedBy-leb, IsPartitionedBy-ltb, length_permutation}
use Rattle.std.proofs.lemmas.Simd.{map-map}
use Rattle.edge_kit.specs.declared.bytes.PubKey.{PubKey}
use Rattle.node_calls.specs.declared.answer.LivenessRow.{LivenessRow}
use Rattle.record_join.specs.Keys.{kept_of}
use Rattle.duty_turns.specs.Turns.{is_asked_by, is_index, notes_of, row_notes}
use Rattle.duty_loop.specs.Asked.{AskedKey, IsByIndex, asked_keys, notes_on, with_asked, with_index}

abbrev index_in : AskedKey → ℕ
index_in a = a.0

abbrev key_in : AskedKey → PubKey
key_in a = a.1

abbrev has_index : ℕ → AskedKey → Bool
has_index index a = a.0 == index

-- ---- keys with their indices, in their order

asked_on : (old : List AskedKey) (o : Option AskedKey) (rest : List AskedKey) → with_asked old o ++ rest ≡ old ++ cons_option o rest
asked_on old None rest = refl
asked_on old (Some x) rest = append_assoc old (x ∷ []) rest

pub asked_step : (entries : List (PubKey × ℕ)) (keys : List PubKey) (i : ℕ) (d : PubKey) (old new : List AskedKey) (o : Option AskedKey) (all : List AskedKey) → i < length keys → o ≡ with_index (get_or keys i d) (kept_of entries (get_or keys i d)) → new ≡ with_asked old o
    → old ++ asked_keys entries (drop i keys) ≡ all → new ++ asked_keys entries (drop (i + 1) keys) ≡ all
asked_step entries keys i d old new o all h e is inv =
    let rest : List AskedKey = asked_keys entries (drop (i + 1) keys) in
    let next : drop i keys ≡ get_or keys i d ∷ drop (i + 1) keys = at_drop_more (λ l. l) keys i d h in
    let split : asked_keys entries (drop i keys) ≡ cons_option o rest = ap (λ (l : List PubKey). asked_keys entries l) next ∙ ap (λ (x : Option AskedKey). cons_option x rest) (sym e) in
    ap (λ (l : List AskedKey). l ++ rest) is ∙ asked_on old o rest ∙ ap (λ (l : List AskedKey). old ++ l) (sym split) ∙ inv

-- ---- those of one index

keys_cond : (index i : ℕ) (k : PubKey) (rest : List AskedKey) (kept : List PubKey) (b : Bool) → map key_in (filter (has_index index) rest) ≡ kept
    → map key_in (cond b ((i, k) ∷ filter (has_index index) rest) (filter (has_index index) rest)) ≡ cond b (k ∷ kept) kept
keys_cond index i k rest kept true h = ap (λ (l : List PubKey). k ∷ l) h
keys_cond index i k rest kept false h = h

keys_one : (index : ℕ) (k : PubKey) (o : Option ℕ) (rest : List AskedKey) (kept : List PubKey) → map key_in (filter (has_index index) rest) ≡ kept
    → map key_in (filter (has_index index) (cons_option (with_index k o) rest)) ≡ cond (is_index o index) (k ∷ kept) kept
keys_one index k None rest kept h = h
keys_one index k (Some i) rest kept h = keys_cond index i k rest kept (i == index) h

keys_asked : (entries : List (PubKey × ℕ)) (index : ℕ) (keys : List PubKey) → map key_in (filter (has_index index) (asked_keys entries keys)) ≡ filter (is_asked_by entries index) keys
keys_asked entries index [] = refl
keys_asked entries index (k ∷ keys) = keys_one index k (kept_of entries k) (asked_keys entries keys) (filter (is_asked_by entries index) keys) (keys_asked entries index keys)

abbrev lesser : AskedKey → AskedKey → Bool
lesser x y = is_lt (nat_cmp x.0 y.0)

equal_or : (b : Bool) → is_lt (cond b Equal Greater) ≡ false
equal_or true = refl
equal_or false = refl

not_less : (n m : ℕ) → m ≤ n → is_lt (nat_cmp n m) ≡ false
not_less n m h = ap (λ (b : Bool). is_lt (cond b Less (cond (n == m) Equal Greater))) (le-ltb n m h) ∙ equal_or (n == m)

less : (n m : ℕ) → n < m → is_lt (nat_cmp n m) ≡ true
less n m h = ap (λ (b : Bool). is_lt (cond b Less (cond (n == m) Equal Greater))) (lt-ltb n m h)

no_less : (x y : AskedKey) → lesser x y ≡ false → lesser y x ≡ false → ties lesser x y ≡ true
no_less x y e f = ap (λ (b : Bool). not b && not (lesser y x)) e ∙ ap (λ (b : Bool). not b) f

first_less : (x y : AskedKey) → lesser x y ≡ true → ties lesser x y ≡ false
first_less x y e = ap (λ (b : Bool). not b && not (lesser y x)) e

second_less : (x y : AskedKey) → lesser x y ≡ false → lesser y x ≡ true → ties lesser x y ≡ false
second_less x y e f = ap (λ (b : Bool). not b && not (lesser y x)) e ∙ ap (λ (b : Bool). not b) f

ties_by : (x y : AskedKey) → (x.0 ≡ y.0) ⊎ ((x.0 < y.0) ⊎ (y.0 < x.0)) → ties lesser x y ≡ has_index x.0 y
ties_by x y (inl e) = no_less x y (not_less x.0 y.0 (omega (arith, e))) (not_less y.0 x.0 (omega (arith, e))) ∙ sym (eq-eqb y.0 x.0 (sym e))
ties_by x y (inr (inl h)) = first_less x y (less x.0 y.0 h) ∙ sym (ne_eqb y.0 x.0 (λ e. omega (arith, h, e)))
ties_by x y (inr (inr h)) = second_less x y (not_less x.0 y.0 (omega (arith, h))) (less y.0 x.0 h) ∙ sym (ne_eqb y.0 x.0 (λ e. omega (arith, h, e)))

filter_by : {X : Type 0} (p q : X → Bool) → ((x : X) → p x ≡ q x) → (xs : List X) → filter p xs ≡ filter q xs
filter_by p q h [] = refl
filter_by {X} p q h (x ∷ xs) = ap (λ (b : Bool). cond b (x ∷ filter p xs) (filter p xs)) (h x) ∙ ap (λ (l : List X). cond (q x) (x ∷ l) l) (filter_by p q h xs)

by_ties : (index : ℕ) (k : PubKey) (xs : List AskedKey) → filter (ties lesser (index, k)) xs ≡ filter (has_index index) xs
by_ties index k xs = filter_by (ties lesser (index, k)) (has_index index) (λ y. ties_by (index, k) y (cases_order index y.0)) xs

stays_in_order : (index : ℕ) (k : PubKey) (xs ys : List AskedKey) → IsStableByKey index_in nat_cmp xs ys → filter (has_index index) ys ≡ filter (has_index index) xs
stays_in_order index k xs ys stable = sym (by_ties index k ys) ∙ stable (index, k) ∙ by_ties index k xs

none_moved : (ys : List AskedKey) → IsPermutation [] ys → ys ≡ []
none_moved [] moved = refl
none_moved (y ∷ ys) moved = let e : length (y ∷ ys) ≡ 0 = length_permutation [] (y ∷ ys) moved in absurd (omega (arith, e))

pub sorted_keys : (entries : List (PubKey × ℕ)) (keys : List PubKey) (xs ys : List AskedKey) → xs ≡ asked_keys entries keys → IsPermutation xs ys → IsStableByKey index_in nat_cmp xs ys
    → (index : ℕ) → map key_in (filter (has_index index) ys) ≡ filter (is_asked_by entries index) keys
sorted_keys entries [] xs ys e moved stable index = ap (λ (l : List AskedKey). map key_in (filter (has_index index) l)) (none_moved ys (subst (λ (l : List AskedKey). IsPermutation l ys) e moved))
sorted_keys entries (k ∷ keys) xs ys e moved stable index =
    ap (λ (l : List AskedKey). map key_in l) (stays_in_order index k xs ys stable) ∙ ap (λ (l : List AskedKey). map key_in (filter (has_index index) l)) e ∙ keys_asked entries index (k ∷ keys)

-- ---- where those of one index stand

apart_below : (n v : ℕ) → nat_lt n v ≡ true → (n == v) ≡ false
apart_below n v h = let lt : n < v = ltb-true n v h in ne_eqb n v (λ e. omega (arith, lt, e))

apart_above : (n v : ℕ) → nat_le n v ≡ false → (n == v) ≡ false
apart_above n v h = let lt : v < n = leb-false n v h in ne_eqb n v (λ e. omega (arith, lt, e))

same_between : (n v : ℕ) → nat_lt n v ≡ false → nat_le n v ≡ true → (n == v) ≡ true
same_between n v h l = let from : v ≤ n = ltb-false n v h in let to : n ≤ v = leb-true n v l in eq-eqb n v (omega (arith, from, to))

abbrev Below : ℕ → Bool → AskedKey → Type 0
Below v b a = nat_lt a.0 v ≡ b

abbrev UpTo : ℕ → Bool → AskedKey → Type 0
UpTo v b a = nat_le a.0 v ≡ b

nothing : (b e : ℕ) → ◌≡◌ {A = List AskedKey} (take e (drop b [])) []
nothing zero zero = refl
nothing zero (suc e) = refl
nothing (suc b) zero = refl
nothing (suc b) (suc e) = refl

range_at : (v : ℕ) (xs : List AskedKey) (b e : ℕ) → AllWithin (Below v true) xs 0 b → AllWithin (Below v false) xs b (length xs) → AllWithin (UpTo v true) (drop b xs) 0 e → AllWithin (UpTo v false) (drop b xs) e (length (drop b xs))
    → take e (drop b xs) ≡ filter (has_index v) xs
range_at v [] b e p q r s = nothing b e
range_at v (x ∷ xs) (suc b) e p q r s =
    let no : (x.0 == v) ≡ false = apart_below x.0 v (p 0 x (omega arith) (omega arith)) in
    range_at v xs b e (λ k d l h. p (suc k) d (omega arith) (omega (arith, h))) (λ k d l h. q (suc k) d (omega (arith, l)) (omega (arith, h))) r s
    ∙ sym (cond-false (x.0 == v) (x ∷ filter (has_index v) xs) (filter (has_index v) xs) no)
range_at v (x ∷ xs) zero (suc e) p q r s =
    let yes : (x.0 == v) ≡ true = same_between x.0 v (q 0 x (omega arith) (omega arith)) (r 0 x (omega arith) (omega arith)) in
    ap (λ (l : List AskedKey). x ∷ l)
    (range_at v xs 0 e (λ k d l h. absurd (omega (arith, h))) (λ k d l h. q (suc k) d (omega arith) (omega (arith, h))) (λ k d l h. r (suc k) d (omega arith) (omega (arith, h))) (λ k d l h. s (suc k) d (omega (arith, l)) (omega (arith, h))))
    ∙ sym (cond-true (x.0 == v) (x ∷ filter (has_index v) xs) (filter (has_index v) xs) yes)
range_at v (x ∷ xs) zero zero p q r s =
    let no : (x.0 == v) ≡ false = apart_above x.0 v (s 0 x (omega arith) (omega arith)) in
    range_at v xs 0 0 (λ k d l h. absurd (omega (arith, h))) (λ k d l h. q (suc k) d (omega arith) (omega (arith, h))) (λ k d l h. absurd (omega (arith, h))) (λ k d l h. s (suc k) d (omega arith) (omega (arith, h)))
    ∙ sym (cond-false (x.0 == v) (x ∷ filter (has_index v) xs) (filter (has_index v) xs) no)

pub begins_by : (v : ℕ) (xs : List AskedKey) → IsSortedByKey index_in nat_cmp xs → IsPartitionedBy (λ (a : AskedKey). nat_lt a.0 v) xs
begins_by v xs up = IsPartitionedBy-ltb index_in xs v (IsNonDecreasingBy-from_sort index_in xs up)

pub ends_by : (v b : ℕ) (xs rest : List AskedKey) → rest ≡ drop b xs → IsSortedByKey index_in nat_cmp xs → IsPartitionedBy (λ (a : AskedKey). nat_le a.0 v) rest
ends_by v b xs rest is up = IsPartitionedBy-leb index_in rest v (subst (λ (l : List AskedKey). IsNonDecreasingBy index_in l) (sym is) (IsNonDecreasingBy-drop index_in b xs (IsNonDecreasingBy-from_sort index_in xs up)))

pub range_is : (v b e : ℕ) (xs rest part : List AskedKey) → rest ≡ drop b xs → part ≡ take e rest → IsPartitionPoint (Below v true) (Below v false) xs b → IsPartitionPoint (UpTo v true) (UpTo v false) rest e
    → part ≡ filter (has_index v) xs
range_is v b e xs rest part is all p q =
    let r = subst (λ (l : List AskedKey). IsPartitionPoint (UpTo v true) (UpTo v false) l e) is q in
    all ∙ ap (λ (l : List AskedKey). take e l) is ∙ range_at v xs b e p.0 p.1 r.0 r.1

-- ---- row by row

row_is : (entries : List (PubKey × ℕ)) (keys : List PubKey) (row : LivenessRow) (asked : List AskedKey) → IsByIndex entries keys asked → notes_on row.is_live (filter (has_index row.index) asked) ≡ row_notes entries keys row
row_is entries keys row asked by =
    let note : PubKey → PubKey × Bool = λ key. (key, row.is_live) in
    sym (map-map note key_in (filter (has_index row.index) asked)) ∙ ap (λ (l : List PubKey). map note l) (by.of_index row.index)

pub notes_step : (entries : List (PubKey × ℕ)) (keys : List PubKey) (rows : List LivenessRow) (i : ℕ) (d : LivenessRow) (old new : List (PubKey × Bool)) (asked slice of_row : List AskedKey) (all : List (PubKey × Bool)) → i < length rows
    → IsByIndex entries keys asked → slice ≡ asked → of_row ≡ filter (has_index (get_or rows i d).index) slice → new ≡ old ++ notes_on (get_or rows i d).is_live of_row
    → old ++ notes_of entries keys (drop i rows) ≡ all → new ++ notes_of entries keys (drop (i + 1) rows) ≡ all
notes_step entries keys rows i d old new asked slice of_row all h by same is grown inv =
    let row : LivenessRow = get_or rows i d in
    let rest : List (PubKey × Bool) = notes_of entries keys (drop (i + 1) rows) in
    let split : notes_of entries keys (drop i rows) ≡ row_notes entries keys row ++ rest = at_drop_more (λ (l : List LivenessRow). notes_of entries keys l) rows i d h in
    let of_asked : of_row ≡ filter (has_index row.index) asked = is ∙ ap (λ (l : List AskedKey). filter (has_index row.index) l) same in
    let made : notes_on row.is_live of_row ≡ row_notes entries keys row = ap (λ (l : List AskedKey). notes_on row.is_live l) of_asked ∙ row_is entries keys row asked by in
    ap (λ (l : List (PubKey × Bool)). l ++ rest) (grown ∙ ap (λ (l : List (PubKey × Bool)). old ++ l) made) ∙ append_assoc old (row_notes entries keys row) rest ∙ ap (λ (l : List (PubKey × Bool)). old ++ l) (sym split) ∙ inv
