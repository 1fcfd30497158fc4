-- The count of unsafe pairs, and when it is none.
use Rattle.std.proofs.Common.{◌≡◌, ℕ, suc, ◌+◌, ◌<◌, ◌≤◌, ◌⊎◌, inl, inr, Bool, true, false, cond, List, [], ◌∷◌, length, get_or, drop, refl, sym, ◌∙◌, ap, arith, count_by}
use Rattle.std.specs.Prelude.{All}
use Rattle.std.specs.Bool.{Decides}
use Rattle.std.proofs.lemmas.Bool.Decides.{Decides-eqb, Decides-ltb, Decides-not, Decides-and, Decides-or, Decides-like, not_from_Decides}
use Rattle.std.proofs.lemmas.Bool.{false≢true}
use Rattle.std.proofs.lemmas.List.{at_drop_more, at_drop_all}
use Rattle.std.proofs.lemmas.List.Elements.{All-cons}
use Rattle.std.proofs.lemmas.List.Sums.{sum_by-cons}
use Rattle.std.proofs.lemmas.List.Kept.{AllPairs-cons}
use Rattle.std.proofs.lemmas.Slice.Eq.{bytes_eq-Decides}
use Rattle.edge_kit.specs.declared.bytes.PubKey.{PubKey}
use Rattle.edge_kit.specs.declared.bytes.Root.{Root}
use Rattle.slash_defs.specs.declared.message.Message.{Message}
use Rattle.slash_defs.specs.declared.message.Message.TheVariants as message
use Rattle.slash_defs.specs.Slashing.{Slashable}
use Rattle.slash_defs.specs.Lists.{IsUnsafe, SafeList, is_slashable, is_unsafe, unsafe_pairs}

same_root : (r q : Root) → Decides (Rattle.std.specs.Str.bytes_eq r.0 q.0) (r ≡ q)
same_root r q = Decides-like _ (λ e. ap (λ bytes. record { 0 = bytes }) e) (λ e. ap (λ (x : Root). x.0) e) (bytes_eq-Decides r.0 q.0)

same_key : (a b : PubKey) → Decides (Rattle.std.specs.Str.bytes_eq a.0 b.0) (a ≡ b)
same_key a b = Decides-like _ (λ e. ap (λ bytes. record { 0 = bytes }) e) (λ e. ap (λ (x : PubKey). x.0) e) (bytes_eq-Decides a.0 b.0)

regroup : {A B C : Type 0} → (A ⊎ B) ⊎ C → A ⊎ B ⊎ C
regroup (inl (inl a)) = inl a
regroup (inl (inr b)) = inr (inl b)
regroup (inr c) = inr (inr c)

ungroup : {A B C : Type 0} → A ⊎ B ⊎ C → (A ⊎ B) ⊎ C
ungroup (inl a) = inl (inl a)
ungroup (inr (inl b)) = inl (inr b)
ungroup (inr (inr c)) = inr c

-- the test of two messages tells whether they are slashable
pub Decides-slashable : (a b : Message) → Decides (is_slashable a b) (Slashable a b)
Decides-slashable (message.Block slot root) (message.Block other second) = Decides-and _ _ (Decides-eqb slot other) (Decides-not _ (same_root root second))
Decides-slashable (message.Vote s t r) (message.Vote u v q) =
    let double = Decides-and _ _ (Decides-eqb t v) (Decides-or _ _ (Decides-not _ (Decides-eqb s u)) (Decides-not _ (same_root r q))) in
    let outer = Decides-and _ _ (Decides-ltb s u) (Decides-ltb v t) in
    let inner = Decides-and _ _ (Decides-ltb u s) (Decides-ltb t v) in
    Decides-like _ regroup ungroup (Decides-or _ _ (Decides-or _ _ double outer) inner)
Decides-slashable (message.Block slot root) (message.Vote u v q) = (λ e. false≢true e, λ h. absurd h)
Decides-slashable (message.Vote s t r) (message.Block slot root) = (λ e. false≢true e, λ h. absurd h)

pub Decides-unsafe : (a b : PubKey × Message) → Decides (is_unsafe a b) (IsUnsafe a b)
Decides-unsafe a b = Decides-and _ _ (same_key a.0 b.0) (Decides-slashable a.1 b.1)

-- the pairs from a place on
pub pairs_more : (list : List (PubKey × Message)) (i : ℕ) (d : PubKey × Message) → i < length list
    → unsafe_pairs (drop i list) ≡ count_by (is_unsafe (get_or list i d)) (drop (i + 1) list) + unsafe_pairs (drop (i + 1) list)
pairs_more list i d h = at_drop_more unsafe_pairs list i d h

-- where nothing is counted, nothing passes
none_counted : {X : Type 0} (p : X → Bool) (P : X → Type 0) → ((x : X) → Decides (p x) (P x)) → (xs : List X) → count_by p xs ≡ 0 → All (λ x. ¬ (P x)) xs
none_counted p P each [] e = λ k d lt. absurd (omega arith)
none_counted {X} p P each (x ∷ xs) e = at (p x) refl (sym (sum_by-cons (λ y. cond (p y) 1 0) x xs) ∙ e) (none_counted p P each xs) where
  at : (b : Bool) → p x ≡ b → cond b 1 0 + count_by p xs ≡ 0 → (count_by p xs ≡ 0 → All (λ x. ¬ (P x)) xs) → All (λ x. ¬ (P x)) (x ∷ xs)
  at true is e rest = absurd (omega arith)
  at false is e rest = All-cons (λ x. ¬ (P x)) x xs (not_from_Decides _ (each x) is) (rest (omega arith))

-- where nothing passes, nothing is counted
counts_none : {X : Type 0} (p : X → Bool) (P : X → Type 0) → ((x : X) → Decides (p x) (P x)) → (xs : List X) → All (λ x. ¬ (P x)) xs → count_by p xs ≡ 0
counts_none p P each [] h = refl
counts_none {X} p P each (x ∷ xs) h = sum_by-cons (λ y. cond (p y) 1 0) x xs ∙ at (p x) refl (counts_none p P each xs (λ k d lt. h (suc k) d (omega arith))) where
  at : (b : Bool) → p x ≡ b → count_by p xs ≡ 0 → cond b 1 0 + count_by p xs ≡ 0
  at true is e = absurd (h 0 x (omega arith) ((each x).0 is))
  at false is e = omega arith

pub safe_from_none : (list : List (PubKey × Message)) → unsafe_pairs list ≡ 0 → SafeList list
safe_from_none [] e = λ i j d lt within. absurd (omega arith)
safe_from_none (x ∷ xs) e =
    AllPairs-cons (λ a b. ¬ (IsUnsafe a b)) x xs
    (none_counted (is_unsafe x) (λ y. IsUnsafe x y) (λ y. Decides-unsafe x y) xs (omega arith))
    (safe_from_none xs (omega arith))

pub none_from_safe : (list : List (PubKey × Message)) → SafeList list → unsafe_pairs list ≡ 0
none_from_safe [] h = refl
none_from_safe (x ∷ xs) h =
    let first = counts_none (is_unsafe x) (λ y. IsUnsafe x y) (λ y. Decides-unsafe x y) xs (λ k d lt. h 0 (suc k) d (omega arith) (omega arith)) in
    let rest = none_from_safe xs (λ i j d lt within. h (suc i) (suc j) d (omega arith) (omega arith)) in
    omega arith

pub pairs_end : (list : List (PubKey × Message)) (i : ℕ) → length list ≤ i → unsafe_pairs (drop i list) ≡ 0
pairs_end list i h = at_drop_all unsafe_pairs list i h
