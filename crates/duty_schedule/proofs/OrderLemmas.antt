-- Two lists that ascend by key and keep the order of equal keys are one.
use Rattle.std.proofs.Common.{◌≡◌, ℕ, suc, ◌+◌, ◌<◌, Bool, true, false, cond, not, ◌&&◌, List, [], ◌∷◌, length, get_or, filter, All, refl, sym, ◌∙◌, ap, subst, arith, IsSortedBy}
use Rattle.std.specs.Cmp.{IsStrictWeakOrder, IsTotalOrder}
use Rattle.std.specs.List.Sorted.{ties}
use Rattle.std.specs.Ordering.{is_lt}
use Rattle.std.proofs.lemmas.Bool.{cond-false, false≢true, true_from_ne_false}
use Rattle.std.proofs.lemmas.Cmp.{nat_list_cmp_total, on_total}
use Rattle.std.proofs.lemmas.List.Elements.{All-head, All-tail}
use Rattle.std.proofs.lemmas.List.Sorted.{ranks_by, sorted_far}
use Rattle.edge_kit.specs.declared.bytes.PubKey.{PubKey}
use Rattle.node_calls.specs.Fitting.{key_order}
use Rattle.duty_schedule.specs.Due.{IsByKey}

keys_total : IsTotalOrder key_order
keys_total = on_total (λ (k : PubKey). k.0) nat_list_cmp_total

filter_none : {X : Type 0} (p : X → Bool) (xs : List X) → All (λ x. p x ≡ false) xs → filter p xs ≡ []
filter_none p [] all = refl
filter_none p (x ∷ xs) all = cond-false (p x) (x ∷ filter p xs) (filter p xs) (All-head (λ y. p y ≡ false) x xs all) ∙ filter_none p xs (All-tail (λ y. p y ≡ false) x xs all)

cons_nil : {X A : Type 0} (x : X) (xs : List X) → x ∷ xs ≡ [] → A
cons_nil x xs e = cc

cons_heads : {X : Type 0} (x y : X) (xs ys : List X) → x ∷ xs ≡ y ∷ ys → x ≡ y
cons_heads x y xs ys e = cc

cons_tails : {X : Type 0} (x y : X) (xs ys : List X) → x ∷ xs ≡ y ∷ ys → xs ≡ ys
cons_tails x y xs ys e = cc

module _ {X : Type 0} (lt : X → X → Bool) (o : IsStrictWeakOrder lt) where
  ties_itself : (x : X) → ties lt x x ≡ true
  ties_itself x = at (lt x x) refl where
    at : (b : Bool) → lt x x ≡ b → (not b && not b) ≡ true
    at false e = refl
    at true e = absurd (false≢true (sym (o.one_way x x e) ∙ e))

  sorted_tail : (x : X) (xs : List X) → IsSortedBy lt (x ∷ xs) → IsSortedBy lt xs
  sorted_tail x xs up = λ k d low high.
      let next : suc k + 1 ≡ suc (k + 1) = omega arith in
      let within : suc k + 1 < length (x ∷ xs) = omega arith in
      subst (λ (n : ℕ). lt (get_or (x ∷ xs) n d) (get_or xs k d) ≡ false) next (up (suc k) d (omega arith) within)

  -- a head that is below another stands before none of its kind there
  none_tie : (y z : X) (zs : List X) → IsSortedBy lt (z ∷ zs) → lt y z ≡ true → filter (ties lt y) (z ∷ zs) ≡ []
  none_tie y z zs up below = filter_none (ties lt y) (z ∷ zs) (λ k d within. apart (get_or (z ∷ zs) k d) (sorted_far lt o (z ∷ zs) up 0 k d (omega arith) within)) where
    above : (w : X) → lt w z ≡ false → lt y w ≡ true
    above w not_less = true_from_ne_false (lt y w) (λ e. false≢true (sym (o.chain y w z e not_less) ∙ below))

    apart : (w : X) → lt w z ≡ false → ties lt y w ≡ false
    apart w not_less = ap (λ b. not b && not (lt w y)) (above w not_less)

  starts_tied : (y : X) (ys : List X) (b : Bool) → b ≡ true → cond b (y ∷ filter (ties lt y) ys) (filter (ties lt y) ys) ≡ [] → ⊥
  starts_tied y ys true e h = cons_nil y (filter (ties lt y) ys) h
  starts_tied y ys false e h = false≢true e

  has_itself : (y : X) (ys : List X) → filter (ties lt y) (y ∷ ys) ≡ [] → ⊥
  has_itself y ys h = starts_tied y ys (ties lt y y) (ties_itself y) h

  rests_same : (y : X) (ys zs : List X) (x : X) (b : Bool) → cond b (y ∷ filter (ties lt x) ys) (filter (ties lt x) ys) ≡ cond b (y ∷ filter (ties lt x) zs) (filter (ties lt x) zs) → filter (ties lt x) ys ≡ filter (ties lt x) zs
  rests_same y ys zs x true h = cons_tails y y (filter (ties lt x) ys) (filter (ties lt x) zs) h
  rests_same y ys zs x false h = h

  heads_tied : (y z : X) (ys zs : List X) (b c : Bool) → b ≡ true → c ≡ true → cond b (y ∷ filter (ties lt y) ys) (filter (ties lt y) ys) ≡ cond c (z ∷ filter (ties lt y) zs) (filter (ties lt y) zs) → y ≡ z
  heads_tied y z ys zs true true d e h = cons_heads y z (filter (ties lt y) ys) (filter (ties lt y) zs) h
  heads_tied y z ys zs true false d e h = absurd (false≢true e)
  heads_tied y z ys zs false c d e h = absurd (false≢true d)

  heads_same : (y z : X) (ys zs : List X) → IsSortedBy lt (y ∷ ys) → IsSortedBy lt (z ∷ zs) → ((x : X) → filter (ties lt x) (y ∷ ys) ≡ filter (ties lt x) (z ∷ zs)) → y ≡ z
  heads_same y z ys zs up rise same = heads_tied y z ys zs (ties lt y y) (ties lt y z) (ties_itself y) (tied (lt y z) (lt z y) refl refl) (same y) where
    tied : (b c : Bool) → lt y z ≡ b → lt z y ≡ c → (not b && not c) ≡ true
    tied false false d e = refl
    tied true c d e = absurd (has_itself y ys (same y ∙ none_tie y z zs rise d))
    tied false true d e = absurd (has_itself z zs (sym (same z) ∙ none_tie z y ys up e))

  pub sorted_once : (ys zs : List X) → IsSortedBy lt ys → IsSortedBy lt zs → ((x : X) → filter (ties lt x) ys ≡ filter (ties lt x) zs) → ys ≡ zs
  sorted_once [] [] up rise same = refl
  sorted_once [] (z ∷ zs) up rise same = absurd (has_itself z zs (sym (same z)))
  sorted_once (y ∷ ys) [] up rise same = absurd (has_itself y ys (same y))
  sorted_once (y ∷ ys) (z ∷ zs) up rise same =
      let head : y ≡ z = heads_same y z ys zs up rise same in
      let here : (x : X) → filter (ties lt x) (y ∷ ys) ≡ filter (ties lt x) (y ∷ zs) = λ x. same x ∙ ap (λ (w : X). filter (ties lt x) (w ∷ zs)) (sym head) in
      let rest : ys ≡ zs = sorted_once ys zs (sorted_tail y ys up) (sorted_tail z zs rise) (λ x. rests_same y ys zs x (ties lt x y) (here x)) in
      ap (λ (w : X). w ∷ ys) head ∙ ap (λ (ws : List X). z ∷ ws) rest

-- the order by key of some rows is one list
pub by_key_once : {T : Type 0} (key_of : T → PubKey) (rows one two : List T) → IsByKey key_of rows one → IsByKey key_of rows two → one ≡ two
by_key_once key_of rows one two a b =
    sorted_once (λ x y. is_lt (key_order (key_of x) (key_of y))) (ranks_by keys_total key_of) one two a.by_key b.by_key (λ x. a.by_place x ∙ sym (b.by_place x))
