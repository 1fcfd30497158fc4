-- What two fields hold of the epochs that are kept.
use Rattle.std.specs.Prelude.{◌≡◌, ℕ, ◌+◌, ◌≤◌, ◌==◌, Bool, Option, Some, None, option_map, if◌then◌else◌}
use Rattle.duty_schedule.specs.Answers.{is_basis, same_basis}
use Rattle.duty_schedule.specs.declared.answer.Basis.{Basis}
use Rattle.duty_schedule.specs.declared.answer.DutyAnswer.{DutyAnswer}
use Rattle.duty_schedule.specs.declared.held.HeldAnswers.{HeldAnswers}

-- what is held of an epoch, where this is the newest one
unfoldable pub held_at : {T : Type 0} → HeldAnswers T → ℕ → ℕ → Option (DutyAnswer T)
held_at store newest epoch = if epoch == newest then store.newest else (if epoch + 1 == newest then store.previous else None)

-- of each epoch that is kept where the newest is a later one, the same is held
abbrev pub MovesOn : {T : Type 0} → HeldAnswers T → ℕ → HeldAnswers T → ℕ → Type 0
MovesOn old newest new later = (epoch : ℕ) → later ≤ epoch + 1 → held_at new later epoch ≡ held_at old newest epoch

-- what is held is there, and rests on this
abbrev pub rests_on : {T : Type 0} → Option (DutyAnswer T) → Basis → Bool
rests_on held basis = is_basis (option_map (λ a. a.basis) held) basis

-- what is held once an answer has come: what was, where it rests on the same
abbrev pub next_held : {T : Type 0} → Option (DutyAnswer T) → DutyAnswer T → DutyAnswer T
next_held None answer = answer
next_held (Some held) answer = if same_basis held.basis answer.basis then held else answer

-- it holds what is held of each epoch that is kept
abbrev pub HoldsKept : {T : Type 0} → HeldAnswers T → ℕ → (ℕ → Option (DutyAnswer T)) → Type 0
HoldsKept store newest held_of = (epoch : ℕ) → newest ≤ epoch + 1 → held_at store newest epoch ≡ held_of epoch
