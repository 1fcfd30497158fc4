-- Writes on lists of bytes.
use Rattle.std.proofs.Common.{◌≡◌, ℕ, zero, suc, ◌+◌, ◌-◌, ◌<◌, ◌≤◌, max, List, [], ◌∷◌, ◌++◌, length, take, drop, replicate, refl, sym, ◌∙◌, ap, arith, inl, inr, length-append, length-drop, append_assoc}
use Rattle.std.proofs.lemmas.List.{append-nil, take_all, drop_all, drop_at, length-take, length-replicate, take-append-le, take-take, take-append-drop, take-replicate, drop-drop}
use Rattle.std.proofs.lemmas.Bool.{cases_lt}
use Rattle.std.proofs.Math.Seq.{take-append-add}
use Rattle.edge_kit.specs.Disks.{overwrite, reach, Torn, Cut}

-- a write that begins within what is there
pub overwrite_within : (at : ℕ) (bytes old : List ℕ) → at ≤ length old → overwrite at bytes old ≡ take at old ++ bytes ++ drop (at + length bytes) old
unfolding overwrite
overwrite_within at [] old fits =
    sym (take-append-drop at old) ∙ ap (λ (l : List ℕ). l ++ drop at old) (sym (append-nil (take at old))) ∙ ap (λ (k : ℕ). take at old ++ [] ++ drop k old) at-is
  where
    at-is : at ≡ at + 0
    at-is = omega arith
overwrite_within at (b ∷ bytes) old fits =
    ap (λ (k : ℕ). take at old ++ replicate k 0 ++ b ∷ bytes ++ drop (at + length (b ∷ bytes)) old) none ∙ ap (λ (l : List ℕ). l ++ b ∷ bytes ++ drop (at + length (b ∷ bytes)) old) (append-nil (take at old))
  where
    none : at - length old ≡ 0
    none = omega arith

pub length-overwrite : (at : ℕ) (bytes old : List ℕ) → length (overwrite at bytes old) ≡ max (length old) (reach at (length bytes))
unfolding overwrite reach
length-overwrite at [] old = omega arith
length-overwrite at (b ∷ bytes) old =
    omega (arith, length-append ((take at old ++ replicate (at - length old) 0) ++ b ∷ bytes) (drop (at + length (b ∷ bytes)) old), length-append (take at old ++ replicate (at - length old) 0) (b ∷ bytes), length-append (take at old) (replicate (at - length old) 0), length-take at old, length-replicate {A = ℕ} (at - length old) 0, length-drop (at + length (b ∷ bytes)) old)

pub reach_le : (at n : ℕ) → reach at n ≤ at + n
unfolding reach
reach_le at zero = omega arith
reach_le at (suc n) = omega arith

pub reach_some : (at n : ℕ) → 0 < n → reach at n ≡ at + n
unfolding reach
reach_some at zero some = absurd (omega arith)
reach_some at (suc n) some = refl

-- what stands before and behind a write
pub take-overwrite : (at : ℕ) (bytes old : List ℕ) (k : ℕ) → k ≤ at → k ≤ length old → take k (overwrite at bytes old) ≡ take k old
unfolding overwrite
take-overwrite at [] old k low fits = refl
take-overwrite at (b ∷ bytes) old k low fits =
    let z : List ℕ = replicate (at - length old) 0 in
    let rest = drop (at + length (b ∷ bytes)) old in
    ap (λ (l : List ℕ). take k l) (append_assoc (take at old ++ z) (b ∷ bytes) rest ∙ append_assoc (take at old) z (b ∷ bytes ++ rest))
    ∙ take-append-le k (take at old) (z ++ (b ∷ bytes ++ rest)) (omega (arith, length-take at old))
    ∙ take-take k at old low

pub drop-overwrite : (at : ℕ) (bytes old : List ℕ) → drop (at + length bytes) (overwrite at bytes old) ≡ drop (at + length bytes) old
unfolding overwrite
drop-overwrite at [] old = refl
drop-overwrite at (b ∷ bytes) old =
    let z : List ℕ = replicate (at - length old) 0 in
    let n = at + length (b ∷ bytes) in
    drop_at ((take at old ++ z) ++ b ∷ bytes) (drop n old) n
    (omega (arith, length-append (take at old ++ z) (b ∷ bytes), length-append (take at old) z, length-take at old, length-replicate {A = ℕ} (at - length old) 0))

-- a write and a cut that are done are one outcome of a crash, and so is one that isn't
pub written_is_torn : (at : ℕ) (bytes old : List ℕ) → Torn at (length bytes) old (overwrite at bytes old)
written_is_torn at bytes old = record {
  before = take-overwrite at bytes old;
  after = drop-overwrite at bytes old;
  no_shorter = omega (arith, length-overwrite at bytes old);
  no_longer = omega (arith, length-overwrite at bytes old);
}

pub cut_is_done : (n : ℕ) (old : List ℕ) → Cut n old (take n old)
cut_is_done n old = record { front = λ k low fits. take-take k n old low; no_shorter = omega (arith, length-take n old); no_longer = omega (arith, length-take n old) }

pub cut_nothing : (n : ℕ) (c : List ℕ) → Cut n c c
cut_nothing n c = record { front = λ k low fits. refl; no_shorter = omega arith; no_longer = omega arith }

reach_mono : (at n m : ℕ) → n ≤ m → reach at n ≤ reach at m
unfolding reach
reach_mono at zero m le = omega arith
reach_mono at (suc n) zero le = absurd (omega arith)
reach_mono at (suc n) (suc m) le = omega arith

drop_further : (n m : ℕ) (old new : List ℕ) → n ≤ m → drop n new ≡ drop n old → drop m new ≡ drop m old
drop_further n m old new le same = ap (λ (k : ℕ). drop k new) split ∙ sym (drop-drop (m - n) n new) ∙ ap (λ (l : List ℕ). drop (m - n) l) same ∙ drop-drop (m - n) n old ∙ ap (λ (k : ℕ). drop k old) (sym split)
  where
    split : m ≡ n + (m - n)
    split = omega arith

-- a write of fewer of the bytes
pub torn_more : (at n m : ℕ) (old new : List ℕ) → n ≤ m → Torn at n old new → Torn at m old new
torn_more at n m old new le torn = record {
  before = torn.before;
  after = drop_further (at + n) (at + m) old new (omega arith) torn.after;
  no_shorter = torn.no_shorter;
  no_longer = omega (arith, torn.no_longer, reach_mono at n m le);
}

take_padded : (at k : ℕ) (old : List ℕ) → at ≤ length old + k → take at (old ++ replicate k 0) ≡ take at old ++ replicate (at - length old) 0
take_padded at k old fits = elim (cases_lt (length old) at) [
  | inl past ↦ let split : at ≡ length old + (at - length old) = omega arith in ap (λ (i : ℕ). take i (old ++ replicate k 0)) split ∙ take-append-add old (replicate k 0) (at - length old)
      ∙ ap (λ (l : List ℕ). old ++ l) (take-replicate {X = ℕ} (at - length old) k 0 (omega arith))
      ∙ ap (λ (l : List ℕ). l ++ replicate (at - length old) 0) (sym (take_all at old (omega arith)))
  | inr within ↦ let none : 0 ≡ at - length old = omega arith in take-append-le at old (replicate k 0) within ∙ sym (append-nil (take at old)) ∙ ap (λ (i : ℕ). take at old ++ replicate i 0) none
]

drop_padded : (n k : ℕ) (old : List ℕ) → k ≡ max (length old) n - length old → drop n (old ++ replicate k 0) ≡ drop n old
drop_padded n k old fits = elim (cases_lt (length old) n) [
  | inl past ↦ drop_all n (old ++ replicate k 0) (omega (arith, length-append old (replicate k 0), length-replicate {A = ℕ} k 0)) ∙ sym (drop_all n old (omega arith))
  | inr within ↦ let none : k ≡ 0 = omega arith in ap (λ (i : ℕ). drop n (old ++ replicate i 0)) none ∙ ap (λ (l : List ℕ). drop n l) (append-nil old)
]

-- a write over a content that was grown to hold it
pub overwrite_grown : (at size : ℕ) (bytes old grown : List ℕ) → 0 < length bytes → size ≡ max (length old) (at + length bytes) → grown ≡ take size old ++ replicate (size - length old) 0
    → take at grown ++ (bytes ++ drop (at + length bytes) grown) ≡ overwrite at bytes old
unfolding overwrite
overwrite_grown at size [] old grown some fits is = absurd (omega arith)
overwrite_grown at size (b ∷ bytes) old grown some fits is =
    let n = at + length (b ∷ bytes) in
    let zeros : List ℕ = replicate (size - length old) 0 in
    let padded : grown ≡ old ++ zeros = is ∙ ap (λ (l : List ℕ). l ++ zeros) (take_all size old (omega arith)) in
    let front : take at grown ≡ take at old ++ replicate (at - length old) 0 = ap (λ (l : List ℕ). take at l) padded ∙ take_padded at (size - length old) old (omega arith) in
    let back : drop n grown ≡ drop n old = ap (λ (l : List ℕ). drop n l) padded ∙ drop_padded n (size - length old) old (omega arith) in
    ap (λ (l : List ℕ). l ++ (b ∷ bytes ++ drop n grown)) front
    ∙ ap (λ (l : List ℕ). (take at old ++ replicate (at - length old) 0) ++ (b ∷ bytes ++ l)) back
    ∙ sym (append_assoc (take at old ++ replicate (at - length old) 0) (b ∷ bytes) (drop n old))
