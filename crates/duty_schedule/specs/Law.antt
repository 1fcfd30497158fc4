-- What the definition of what is due comes to.
use Rattle.std.specs.Prelude.{◌≡◌, ◌≢◌, ℕ, ◌/◌, ◌↔◌, List, [], ◌∷◌, ◌++◌, true, Some}
use Rattle.edge_kit.specs.declared.bytes.PubKey.{PubKey}
use Rattle.duty_schedule.specs.Answers.{TakenAnswer, held_basis, is_kept}
use Rattle.duty_schedule.specs.Due.{AreDueBlocks, AreDueVotes, IsDue}
use Rattle.duty_schedule.specs.declared.answer.Basis.{Basis}
use Rattle.duty_schedule.specs.declared.rows.Duty.{Duty}
use Rattle.duty_schedule.specs.declared.rows.DutyRows.{DutyRows}
use Rattle.duty_schedule.specs.declared.rows.DutyRows.TheVariants as kind

-- of what is due, what is of the kind of these rows is of these rows
abbrev pub IsOfRows : DutyRows → (answers : List TakenAnswer) (slot : ℕ) (active : List PubKey) (duties : List Duty) → IsDue answers slot active duties → Type 0
IsOfRows (kind.Proposer rows) answers slot active duties due = AreDueBlocks slot active rows due.blocks
IsOfRows (kind.Attester rows) answers slot active duties due = AreDueVotes slot active rows due.votes

-- once the answer was taken, what is due of its kind in its epoch is of its rows
abbrev pub Replaces : List TakenAnswer → TakenAnswer → Type 0
Replaces answers a = (slot : ℕ) (active : List PubKey) (duties : List Duty) → slot / 32 ≡ a.epoch → (due : IsDue (answers ++ a ∷ []) slot active duties)
    → IsOfRows a.rows (answers ++ a ∷ []) slot active duties due

-- an answer that has another dependent root than what is held of its kind and epoch, where that epoch is kept
abbrev pub AnotherRootReplaces : Type 0
AnotherRootReplaces = (answers : List TakenAnswer) (a : TakenAnswer) (basis : Basis) → is_kept answers a.epoch ≡ true → held_basis answers a.epoch a.rows ≡ Some basis
    → basis.dependent_root ≢ a.basis.dependent_root → Replaces answers a

-- and one that has other asked indices
abbrev pub OtherIndicesReplace : Type 0
OtherIndicesReplace = (answers : List TakenAnswer) (a : TakenAnswer) (basis : Basis) → is_kept answers a.epoch ≡ true → held_basis answers a.epoch a.rows ≡ Some basis
    → basis.asked ≢ a.basis.asked → Replaces answers a

-- with the dependent root and the asked indices of what is held of its kind and epoch, an answer changes nothing of
-- what is due, at any slot
abbrev pub SameBasisChangesNothing : Type 0
SameBasisChangesNothing = (answers : List TakenAnswer) (a : TakenAnswer) → held_basis answers a.epoch a.rows ≡ Some a.basis
    → (slot : ℕ) (active : List PubKey) (duties : List Duty) → IsDue (answers ++ a ∷ []) slot active duties ↔ IsDue answers slot active duties

-- two lists that are due are one
abbrev pub IsOneList : Type 0
IsOneList = (answers : List TakenAnswer) (slot : ℕ) (active : List PubKey) (one two : List Duty) → IsDue answers slot active one → IsDue answers slot active two → one ≡ two
