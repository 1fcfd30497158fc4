-- Answers to duty questions in the order in which they were taken: which one is held, and which epochs are kept.
use Rattle.std.specs.Prelude.{ℕ, ◌+◌, ◌==◌, ◌&&◌, nat_eq, nat_le, max, fold, map, reverse, List, [], ◌∷◌, Bool, false, Option, Some, None, option_map, if◌then◌else◌}
use Rattle.std.specs.List.{filter_map, last_or, take_while}
use Rattle.std.specs.Cmp.Lexicographic.{pointwise}
use Rattle.std.specs.Str.{bytes_eq}
use Rattle.edge_kit.specs.declared.bytes.Root.{Root}
use Rattle.node_calls.specs.declared.answer.AttesterRow.{AttesterRow}
use Rattle.node_calls.specs.declared.answer.ProposerRow.{ProposerRow}
use Rattle.duty_schedule.specs.declared.answer.Basis.{Basis}
use Rattle.duty_schedule.specs.declared.answer.DutyAnswer.{DutyAnswer}
use Rattle.duty_schedule.specs.declared.rows.DutyRows.{DutyRows}
use Rattle.duty_schedule.specs.declared.rows.DutyRows.TheVariants as kind
use Rattle.duty_schedule.specs.declared.rows.Taken.{Taken}
use Rattle.duty_schedule.specs.declared.rows.Taken.TheVariants as outcome

-- an answer that was taken: its epoch, the indices that were asked for with its dependent root, and its rows, whose
-- kind is the answer's
pub record TakenAnswer : Type 0 where
  pub epoch : ℕ
  pub basis : Basis
  pub rows : DutyRows

abbrev pub taken_answer : ℕ → List ℕ → Root → DutyRows → TakenAnswer
taken_answer epoch asked root rows = record { epoch = epoch; basis = record { asked = asked; dependent_root = root }; rows = rows }

-- the dependent root and the asked indices are the same
abbrev pub same_basis : Basis → Basis → Bool
same_basis a b = bytes_eq a.dependent_root.0 b.dependent_root.0 && pointwise nat_eq a.asked b.asked

-- the answer, if it is for proposers, and if it is for attesters; and if it is of the epoch besides
abbrev pub if_proposers : Basis → DutyRows → Option (DutyAnswer ProposerRow)
if_proposers basis (kind.Proposer rows) = Some (record { basis = basis; rows = rows })
if_proposers basis (kind.Attester rows) = None

abbrev pub if_attesters : Basis → DutyRows → Option (DutyAnswer AttesterRow)
if_attesters basis (kind.Proposer rows) = None
if_attesters basis (kind.Attester rows) = Some (record { basis = basis; rows = rows })

abbrev pub proposers_of : ℕ → TakenAnswer → Option (DutyAnswer ProposerRow)
proposers_of epoch a = if a.epoch == epoch then if_proposers a.basis a.rows else None

abbrev pub attesters_of : ℕ → TakenAnswer → Option (DutyAnswer AttesterRow)
attesters_of epoch a = if a.epoch == epoch then if_attesters a.basis a.rows else None

-- of all answers those of one kind and epoch, in order
unfoldable pub proposer_answers : ℕ → List TakenAnswer → List (DutyAnswer ProposerRow)
proposer_answers epoch answers = filter_map (proposers_of epoch) answers

unfoldable pub attester_answers : ℕ → List TakenAnswer → List (DutyAnswer AttesterRow)
attester_answers epoch answers = filter_map (attesters_of epoch) answers

-- of answers of one kind and epoch, the last first: the last, and the unbroken run of those before it that have its
-- dependent root and its asked indices
abbrev pub run_of_last : {T : Type 0} → List (DutyAnswer T) → List (DutyAnswer T)
run_of_last [] = []
run_of_last (last ∷ earlier) = last ∷ take_while (λ a. same_basis last.basis a.basis) earlier

-- Of the answers of one kind and epoch let L be the last. The held one is the earliest of the unbroken final run of
-- those answers that have L's dependent root and L's asked indices.
unfoldable pub held : {T : Type 0} → List (DutyAnswer T) → Option (DutyAnswer T)
held answers = last_or None (run_of_last (reverse answers))

-- The newest epoch is the greatest epoch of any answer, of either kind.
unfoldable pub newest_epoch : List TakenAnswer → ℕ
newest_epoch answers = fold max 0 (map (λ a. a.epoch) answers)

-- An epoch is kept where epoch + 1 is at least the newest.
abbrev pub is_kept : List TakenAnswer → ℕ → Bool
is_kept answers epoch = nat_le (newest_epoch answers) (epoch + 1)

-- what is held of the epoch and the kind of these rows rests on
abbrev pub held_basis : List TakenAnswer → ℕ → DutyRows → Option Basis
held_basis answers epoch (kind.Proposer rows) = option_map (λ a. a.basis) (held (proposer_answers epoch answers))
held_basis answers epoch (kind.Attester rows) = option_map (λ a. a.basis) (held (attester_answers epoch answers))

-- there is one, and it is the same
abbrev pub is_basis : Option Basis → Basis → Bool
is_basis None basis = false
is_basis (Some other) basis = same_basis other basis

abbrev pub outcome_of : Bool → Taken
outcome_of kept = if kept then outcome.Kept else outcome.Replaced

-- An answer is `Kept` exactly where an answer of its kind and epoch is held, its epoch is kept, and the held one has
-- its dependent root and its asked indices; else `Replaced`.
unfoldable pub verdict : List TakenAnswer → TakenAnswer → Taken
verdict answers a = outcome_of (is_kept answers a.epoch && is_basis (held_basis answers a.epoch a.rows) a.basis)
