-- Each validator has a place in its committee.
use Rattle.std.proofs.Common.{◌≡◌, ℕ, zero, suc, ◌<◌, ◌≤◌, true, List, [], ◌∷◌, length, get_or, sym, subst, arith}
use Rattle.std.specs.Prelude.{nat_lt, nat_le}
use Rattle.std.proofs.lemmas.Bool.{and_parts, ltb-true, leb-true}
use Rattle.node_calls.specs.declared.answer.AttesterRow.{AttesterRow}
use Rattle.duty_plans.specs.declared.task.Task.{Task}
use Rattle.duty_workers.specs.Places.{are_placed_tasks, has_place, is_placed_task}

pub place_below : (row : AttesterRow) → has_place row ≡ true → row.validator_committee_index < row.committee_length
place_below row h = ltb-true row.validator_committee_index row.committee_length (and_parts (nat_lt row.validator_committee_index row.committee_length) (nat_le row.committee_length 2048) h).0

pub length_within : (row : AttesterRow) → has_place row ≡ true → row.committee_length ≤ 2048
length_within row h = leb-true row.committee_length 2048 (and_parts (nat_lt row.validator_committee_index row.committee_length) (nat_le row.committee_length 2048) h).1

-- so of each task of a list
pub placed_at : (tasks : List Task) (i : ℕ) (t : Task) → are_placed_tasks tasks ≡ true → i < length tasks → t ≡ get_or tasks i t → is_placed_task t ≡ true
placed_at [] i t h l is = absurd (omega arith)
placed_at (x ∷ tasks) zero t h l is = subst (λ (y : Task). is_placed_task y ≡ true) (sym is) (and_parts (is_placed_task x) (are_placed_tasks tasks) h).0
placed_at (x ∷ tasks) (suc i) t h l is = placed_at tasks i t (and_parts (is_placed_task x) (are_placed_tasks tasks) h).1 (omega arith) is
