-- What one more byte does to the fronts of a text.
use Rattle.std.proofs.Common.{◌≡◌, ◌≢◌, inl, inr, Some, ℕ, ◌≤◌, List, [], ◌∷◌, ◌++◌, length, sym, ap, subst, ◌∙◌, arith}
use Rattle.std.proofs.lemmas.List.{append-nil}
use Rattle.http_wire.specs.Fronts.{HasNoFront, NeverHasFront, HasFront, Within, EndsInLf, IsStuck, StopsWithin}
use Rattle.http_wire.proofs.ListLemmas.{SnocSplit, behind, before, snoc_split, last_same, front_of}

-- the forms end in LF
abbrev pub AllEnd : (List ℕ → Type 0) → Type 0
AllEnd P = (text : List ℕ) → P text → EndsInLf text

not_nil : (front rest : List ℕ) → [] ≡ (front ++ 10 ∷ []) ++ rest → ⊥
not_nil [] rest e = let k : [] ≡ 10 ∷ rest = e in cc
not_nil (x ∷ xs) rest e = let k : [] ≡ x ∷ ((xs ++ 10 ∷ []) ++ rest) = e in cc

pub no_front-nil : (P : List ℕ → Type 0) → AllEnd P → HasNoFront P []
no_front-nil P ends = record {
  none = λ text rest p e.
      let last = ends text p in
      not_nil last.front rest (e ∙ ap (λ t. t ++ rest) last.split);
}

more_from : (P : List ℕ → Type 0) (a : List ℕ) (x : ℕ) (text rest : List ℕ) → AllEnd P → HasNoFront P a → x ≢ 10 → P text → SnocSplit a x text rest → ⊥
more_from P a x text rest ends none other p (behind r s) =
    let last = ends text p in
    other (last_same a last.front x 10 (sym s ∙ last.split))
more_from P a x text rest ends none other p (before front r s) = none.none text front p s

-- a byte that isn't LF completes no form
pub no_front-more : (P : List ℕ → Type 0) (a : List ℕ) (x : ℕ) → AllEnd P → HasNoFront P a → x ≢ 10 → HasNoFront P (a ++ x ∷ [])
no_front-more P a x ends none other = record {
  none = λ text rest p e. more_from P a x text rest ends none other p (snoc_split a x text rest e);
}

whole_from : (P : List ℕ → Type 0) (a : List ℕ) (x : ℕ) (text rest : List ℕ) → HasNoFront P a → P text → SnocSplit a x text rest → P (a ++ x ∷ [])
whole_from P a x text rest none p (behind r s) = subst P s p
whole_from P a x text rest none p (before front r s) = absurd (none.none text front p s)

-- the form that the last byte completes is the whole text
pub whole_text : (P : List ℕ → Type 0) (a : List ℕ) (x : ℕ) → HasNoFront P a → HasFront P (a ++ x ∷ []) → P (a ++ x ∷ [])
whole_text P a x none found = whole_from P a x found.text found.rest none found.form (snoc_split a x found.text found.rest found.split)

-- no form within the limit stands at the front of what is as long
pub no_front-limit : (P : List ℕ → Type 0) (limit : ℕ) (a : List ℕ) → limit ≤ length a → HasNoFront P a → NeverHasFront (Within P limit) a
no_front-limit P limit a long none = record {
  none = λ more text rest w e.
      let short : length text ≤ limit = w.short in
      let f = front_of a more text rest e (omega arith) in
      none.none text f.0 w.form f.1;
}

pub no_front-within : (P : List ℕ → Type 0) (limit : ℕ) (a : List ℕ) → HasNoFront P a → HasNoFront (Within P limit) a
no_front-within P limit a none = record { none = λ text rest w e. none.none text rest w.form e }

pub never-within : (P : List ℕ → Type 0) (limit : ℕ) (a : List ℕ) → NeverHasFront P a → NeverHasFront (Within P limit) a
never-within P limit a never = record { none = λ more text rest w e. never.none more text rest w.form e }

-- What stuck: no front of all that was left is such a form. The other way round a form that was read is a front of it.
pub stuck_whole : (P : List ℕ → Type 0) (taken left : List ℕ) → IsStuck P taken (Some left) → HasNoFront P (taken ++ left)
stuck_whole P taken left (inl never) = record { none = λ text rest p e. never.none left text rest p e }
stuck_whole P taken left (inr end) = record {
  none = λ text rest p e. end.0.none text rest p (sym (append-nil taken) ∙ ap (λ u. taken ++ u) (sym end.1) ∙ e);
}

pub stops_whole : (P : List ℕ → Type 0) (limit : ℕ) (taken left : List ℕ) → StopsWithin P limit taken (Some left) → HasNoFront (Within P limit) (taken ++ left)
stops_whole P limit taken left stops = stuck_whole (Within P limit) taken left stops.stuck
