-- Due at a slot, for a list of active keys: the rows of the held answers of the epoch slot / 32, where that epoch is
-- kept, that are at this slot and whose key is among the active ones: blocks first, then votes, each by key (byte by
-- byte), then by place in the answer.
use Rattle.std.specs.Prelude.{◌≡◌, ℕ, ◌/◌, ◌==◌, ◌&&◌, List, [], ◌++◌, map, filter, Bool, Option, Some, None, if◌then◌else◌}
use Rattle.std.specs.List.Sorted.{IsPermutation, IsSortedByKey, IsStableByKey}
use Rattle.std.specs.Ordering.{eq_by_cmp}
use Rattle.std.specs.Set.{is_member}
use Rattle.edge_kit.specs.declared.bytes.PubKey.{PubKey}
use Rattle.node_calls.specs.Fitting.{key_order}
use Rattle.node_calls.specs.declared.answer.AttesterRow.{AttesterRow}
use Rattle.node_calls.specs.declared.answer.ProposerRow.{ProposerRow}
use Rattle.duty_schedule.specs.Answers.{TakenAnswer, attester_answers, held, is_kept, proposer_answers}
use Rattle.duty_schedule.specs.declared.answer.DutyAnswer.{DutyAnswer}
use Rattle.duty_schedule.specs.declared.rows.Duty.{Duty}
use Rattle.duty_schedule.specs.declared.rows.Duty.TheVariants as duty

abbrev pub rows_of : {T : Type 0} → Option (DutyAnswer T) → List T
rows_of None = []
rows_of (Some answer) = answer.rows

-- the rows of the held answer of the slot's epoch, where that epoch is kept
unfoldable pub kept_proposers : List TakenAnswer → ℕ → List ProposerRow
kept_proposers answers slot = if is_kept answers (slot / 32) then rows_of (held (proposer_answers (slot / 32) answers)) else []

unfoldable pub kept_attesters : List TakenAnswer → ℕ → List AttesterRow
kept_attesters answers slot = if is_kept answers (slot / 32) then rows_of (held (attester_answers (slot / 32) answers)) else []

-- the key is among the active ones
abbrev pub is_active : List PubKey → PubKey → Bool
is_active active key = is_member (eq_by_cmp key_order) active key

-- these rows by key, byte by byte, and then by place: they ascend by key, and those of one key stand as they stood
pub record IsByKey {T : Type 0} (key_of : T → PubKey) (rows ordered : List T) : Type 0 where
  pub same_rows : IsPermutation rows ordered
  pub by_key : IsSortedByKey key_of key_order ordered
  pub by_place : IsStableByKey key_of key_order rows ordered

-- of these rows those at the slot whose key is active, in that order
abbrev pub AreDueBlocks : ℕ → List PubKey → List ProposerRow → List ProposerRow → Type 0
AreDueBlocks slot active rows due = IsByKey (λ row. row.pubkey) (filter (λ row. row.slot == slot && is_active active row.pubkey) rows) due

abbrev pub AreDueVotes : ℕ → List PubKey → List AttesterRow → List AttesterRow → Type 0
AreDueVotes slot active rows due = IsByKey (λ row. row.pubkey) (filter (λ row. row.slot == slot && is_active active row.pubkey) rows) due

-- what is due: blocks, and then votes
pub record IsDue (answers : List TakenAnswer) (slot : ℕ) (active : List PubKey) (duties : List Duty) : Type 0 where
  pub blocks : List ProposerRow
  pub votes : List AttesterRow
  pub are_blocks : AreDueBlocks slot active (kept_proposers answers slot) blocks
  pub are_votes : AreDueVotes slot active (kept_attesters answers slot) votes
  pub are_both : duties ≡ map duty.Block blocks ++ map duty.Vote votes
