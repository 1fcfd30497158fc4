-- What is held, where each vote duty has its place.
use Rattle.std.specs.Prelude.{◌≡◌, ◌&&◌, nat_le, nat_lt, Bool, true, List}
use Rattle.std.specs.List.{list_all}
use Rattle.node_calls.specs.declared.answer.AttesterRow.{AttesterRow}
use Rattle.duty_schedule.specs.Answers.{TakenAnswer}
use Rattle.duty_schedule.specs.declared.rows.DutyRows.{DutyRows}
use Rattle.duty_schedule.specs.declared.rows.DutyRows.TheVariants as kind
use Rattle.duty_turns.specs.Standing.{IsHeld, Standing}
use Rattle.duty_turns.specs.declared.held.Held.{Held}

-- the validator has one of the places of its committee, which has at most 2048 (consensus-specs, `MAX_VALIDATORS_PER_COMMITTEE`)
abbrev pub has_place : AttesterRow → Bool
has_place row = nat_le row.committee_length 2048 && nat_lt row.validator_committee_index row.committee_length

abbrev pub have_places : DutyRows → Bool
have_places (kind.Proposer rows) = true
have_places (kind.Attester rows) = list_all has_place rows

abbrev pub are_placed : List TakenAnswer → Bool
are_placed answers = list_all (λ a. have_places a.rows) answers

-- this is held, and each vote duty of the answers that were taken has its place
pub record HoldsPlaced (held : Held) (s : Standing) : Type 0 where
  pub is : IsHeld held s
  pub places : are_placed s.answers ≡ true
