-- What the two fields hold of an epoch, and what changes there.
use Rattle.std.proofs.Common.{◌≡◌, ◌≢◌, ◌⊎◌, ℕ, ◌+◌, ◌<◌, ◌≤◌, Bool, cond, ◌&&◌, nat_eq, nat_le, Option, Some, None, inl, inr, sym, ◌∙◌, ap, arith, eq-eqb, ne_eqb, le-leb}
use Rattle.std.proofs.lemmas.Bool.{cases_eq}
use Rattle.duty_schedule.specs.Answers.{outcome_of}
use Rattle.duty_schedule.specs.Holding.{MovesOn, held_at, next_held, rests_on}
use Rattle.duty_schedule.specs.declared.answer.Basis.{Basis}
use Rattle.duty_schedule.specs.declared.answer.DutyAnswer.{DutyAnswer}
use Rattle.duty_schedule.specs.declared.held.HeldAnswers.{HeldAnswers}
use Rattle.duty_schedule.specs.declared.rows.Taken.{Taken}

module _ {T : Type 0} (store : HeldAnswers T) (newest epoch : ℕ) where
  pub newest_at : epoch ≡ newest → held_at store newest epoch ≡ store.newest
  unfolding held_at
  newest_at e = ap (λ (b : Bool). cond b store.newest (cond (nat_eq (epoch + 1) newest) store.previous None)) (eq-eqb epoch newest e)

  pub previous_at : epoch + 1 ≡ newest → held_at store newest epoch ≡ store.previous
  unfolding held_at
  previous_at e =
      let apart : epoch ≡ newest → ⊥ = λ d. omega arith in
      ap (λ (b : Bool). cond b store.newest (cond (nat_eq (epoch + 1) newest) store.previous None)) (ne_eqb epoch newest apart) ∙ ap (λ (b : Bool). cond b store.previous None) (eq-eqb (epoch + 1) newest e)

  pub none_at : epoch ≢ newest → epoch + 1 ≢ newest → held_at store newest epoch ≡ None
  unfolding held_at
  none_at apart later =
      ap (λ (b : Bool). cond b store.newest (cond (nat_eq (epoch + 1) newest) store.previous None)) (ne_eqb epoch newest apart) ∙ ap (λ (b : Bool). cond b store.previous None) (ne_eqb (epoch + 1) newest later)

  pub past_at : epoch + 1 < newest → held_at store newest epoch ≡ None
  past_at past = none_at (λ e. omega arith) (λ e. omega arith)

  pub later_at : newest < epoch → held_at store newest epoch ≡ None
  later_at later = none_at (λ e. omega arith) (λ e. omega arith)

  pub empty_at : store.newest ≡ None → store.previous ≡ None → held_at store newest epoch ≡ None
  empty_at no_newest no_previous = at (cases_eq epoch newest) (cases_eq (epoch + 1) newest) where
    at : (epoch ≡ newest) ⊎ (epoch ≡ newest → ⊥) → (epoch + 1 ≡ newest) ⊎ (epoch + 1 ≡ newest → ⊥) → held_at store newest epoch ≡ None
    at (inl e) later = newest_at e ∙ no_newest
    at (inr apart) (inl e) = previous_at e ∙ no_previous
    at (inr apart) (inr later) = none_at apart later

module _ {T : Type 0} (old new : HeldAnswers T) (newest later : ℕ) where
  -- on to the next epoch
  pub moves_by_one : later ≡ newest + 1 → new.newest ≡ None → new.previous ≡ old.newest → MovesOn old newest new later
  moves_by_one next none previous = λ epoch kept. at epoch kept (cases_eq epoch later) (cases_eq epoch newest) where
    at : (epoch : ℕ) → later ≤ epoch + 1 → (epoch ≡ later) ⊎ (epoch ≡ later → ⊥) → (epoch ≡ newest) ⊎ (epoch ≡ newest → ⊥) → held_at new later epoch ≡ held_at old newest epoch
    at epoch kept (inl e) other = let after : newest < epoch = omega arith in newest_at new later epoch e ∙ none ∙ sym (later_at old newest epoch after)
    at epoch kept (inr apart) (inl e) = let one : epoch + 1 ≡ later = omega arith in previous_at new later epoch one ∙ previous ∙ sym (newest_at old newest epoch e)
    at epoch kept (inr apart) (inr other) = let after : later < epoch = omega arith in let far : newest < epoch = omega arith in later_at new later epoch after ∙ sym (later_at old newest epoch far)

  -- and beyond
  pub moves_far : newest + 1 < later → new.newest ≡ None → new.previous ≡ None → MovesOn old newest new later
  moves_far far no_newest no_previous = λ epoch kept.
      let after : newest < epoch = omega arith in empty_at new later epoch no_newest no_previous ∙ sym (later_at old newest epoch after)

module _ {T : Type 0} (old new : HeldAnswers T) (newest epoch : ℕ) where
  pub own_newest : (answer : DutyAnswer T) → epoch ≡ newest → new.newest ≡ Some (next_held old.newest answer) → held_at new newest epoch ≡ Some (next_held (held_at old newest epoch) answer)
  own_newest answer e is = newest_at new newest epoch e ∙ is ∙ ap (λ (o : Option (DutyAnswer T)). Some (next_held o answer)) (sym (newest_at old newest epoch e))

  pub own_previous : (answer : DutyAnswer T) → epoch + 1 ≡ newest → new.previous ≡ Some (next_held old.previous answer) → held_at new newest epoch ≡ Some (next_held (held_at old newest epoch) answer)
  own_previous answer e is = previous_at new newest epoch e ∙ is ∙ ap (λ (o : Option (DutyAnswer T)). Some (next_held o answer)) (sym (previous_at old newest epoch e))

  pub others_newest : (other : ℕ) → epoch ≡ newest → other ≢ epoch → new.previous ≡ old.previous → held_at new newest other ≡ held_at old newest other
  others_newest other e apart same = at (cases_eq (other + 1) newest) where
    at : (other + 1 ≡ newest) ⊎ (other + 1 ≡ newest → ⊥) → held_at new newest other ≡ held_at old newest other
    at (inl d) = previous_at new newest other d ∙ same ∙ sym (previous_at old newest other d)
    at (inr d) = let far : other ≢ newest = λ h. apart (h ∙ sym e) in none_at new newest other far d ∙ sym (none_at old newest other far d)

  pub others_previous : (other : ℕ) → epoch + 1 ≡ newest → other ≢ epoch → new.newest ≡ old.newest → held_at new newest other ≡ held_at old newest other
  others_previous other e apart same = at (cases_eq other newest) where
    at : (other ≡ newest) ⊎ (other ≡ newest → ⊥) → held_at new newest other ≡ held_at old newest other
    at (inl d) = newest_at new newest other d ∙ same ∙ sym (newest_at old newest other d)
    at (inr d) = let far : other + 1 ≢ newest = λ h. apart (omega arith) in none_at new newest other d far ∙ sym (none_at old newest other d far)

  -- what became of an answer of an epoch that is kept, and of one that is not
  pub taken_kept : (held : Option (DutyAnswer T)) (basis : Basis) (taken : Taken) → newest ≤ epoch + 1 → held_at old newest epoch ≡ held → taken ≡ outcome_of (rests_on held basis) → taken ≡ outcome_of (nat_le newest (epoch + 1) && rests_on (held_at old newest epoch) basis)
  taken_kept held basis taken kept there is =
      is ∙ ap (λ (o : Option (DutyAnswer T)). outcome_of (rests_on o basis)) (sym there) ∙ ap (λ (b : Bool). outcome_of (b && rests_on (held_at old newest epoch) basis)) (sym (le-leb newest (epoch + 1) kept))
