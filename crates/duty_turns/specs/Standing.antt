-- What stands from turn to turn.
use Rattle.std.specs.Prelude.{◌≡◌, ℕ, List, [], ◌∷◌, ◌++◌, Option}
use Rattle.std.specs.List.{filter_map}
use Rattle.edge_kit.specs.declared.bytes.PubKey.{PubKey}
use Rattle.phase0_types.specs.declared.fork.Fork.{Fork}
use Rattle.record_join.specs.Keys.{kept_of, with_key}
use Rattle.node_calls.specs.declared.answer.Answer.{Answer}
use Rattle.node_calls.specs.declared.answer.Answer.TheVariants as answer
use Rattle.node_calls.specs.declared.answer.ValidatorRow.{ValidatorRow}
use Rattle.duty_schedule.specs.Answers.{TakenAnswer, taken_answer}
use Rattle.duty_schedule.specs.Standing.{Stands}
use Rattle.duty_schedule.specs.declared.rows.DutyRows.TheVariants as kind
use Rattle.duty_turns.specs.declared.held.Held.{Held}

-- the slot of the turn, the chain's fork, the index of each key by its last row, all duty answers that were taken, the keys that
-- were active in the turn before, and the epoch in which fork and indices were asked for last, if each of these questions had an answer
pub record Standing : Type 0 where
  pub slot : ℕ
  pub fork : Fork
  pub indices : List (PubKey × ℕ)
  pub answers : List TakenAnswer
  pub active : Option (List PubKey)
  pub renewed : Option ℕ

-- it is held
pub record IsHeld (held : Held) (s : Standing) : Type 0 where
  pub slot : held.slot ≡ s.slot
  pub fork : held.fork ≡ s.fork
  pub indices : held.indices.entries ≡ s.indices
  pub schedule : Stands held.schedule s.answers
  pub active : held.active ≡ s.active
  pub renewed : held.renewed ≡ s.renewed

-- ---- what an answer makes of it; one to another question comes never

abbrev pub with_fork : Answer → Standing → Standing
with_fork (answer.Fork fork) s = record s { fork = fork }
with_fork a s = s

-- a later row of a key stands in place of an earlier one
abbrev pub with_rows : List ValidatorRow → List (PubKey × ℕ) → List (PubKey × ℕ)
with_rows [] indices = indices
with_rows (row ∷ rows) indices = with_rows rows (with_key indices row.pubkey row.index)

abbrev pub with_indices : Answer → Standing → Standing
with_indices (answer.Validators rows) s = record s { indices = with_rows rows s.indices }
with_indices a s = s

abbrev pub with_proposers : ℕ → Answer → Standing → Standing
with_proposers epoch (answer.Proposer root rows) s = record s { answers = s.answers ++ taken_answer epoch [] root (kind.Proposer rows) ∷ [] }
with_proposers epoch a s = s

abbrev pub with_attesters : ℕ → List ℕ → Answer → Standing → Standing
with_attesters epoch asked (answer.Attester root rows) s = record s { answers = s.answers ++ taken_answer epoch asked root (kind.Attester rows) ∷ [] }
with_attesters epoch asked a s = s

-- the held indices of these keys, in their order
abbrev pub indices_of : List (PubKey × ℕ) → List PubKey → List ℕ
indices_of indices keys = filter_map (λ key. kept_of indices key) keys
