-- Whether an answer fits its question (Beacon API; consensus-specs, `compute_epoch_at_slot`,
-- `MAX_VALIDATORS_PER_COMMITTEE`).
use Rattle.std.specs.Prelude.{ℕ, ◌==◌, ◌/◌, ◌&&◌, Bool, true, false, List, length, map, nat_le, nat_lt}
use Rattle.std.specs.List.{list_all}
use Rattle.std.specs.Ordering.{nat_cmp, eq_by_cmp}
use Rattle.std.specs.declared.cmp.Ordering.{Ordering}
use Rattle.std.specs.Cmp.Lexicographic.{slice_cmp}
use Rattle.std.specs.Set.{distinct_count}
use Rattle.edge_kit.specs.declared.bytes.PubKey.{PubKey}
use Rattle.node_calls.specs.declared.ask.Ask.{Ask}
use Rattle.node_calls.specs.declared.ask.Ask.TheVariants as ask
use Rattle.node_calls.specs.declared.answer.Answer.{Answer}
use Rattle.node_calls.specs.declared.answer.Answer.TheVariants as answer
use Rattle.node_calls.specs.declared.answer.ProposerRow.{ProposerRow}
use Rattle.node_calls.specs.declared.answer.AttesterRow.{AttesterRow}

-- how many rows a duty answer has at most
abbrev pub most_rows : ℕ
most_rows = 65536

-- the slot is one of the epoch's 32
abbrev pub is_in_epoch : ℕ → ℕ → Bool
is_in_epoch epoch slot = slot / 32 == epoch

-- no two are the same
abbrev pub are_distinct : {K : Type 0} → (K → K → Ordering) → List K → Bool
are_distinct cmp keys = distinct_count (eq_by_cmp cmp) keys == length keys

-- keys byte by byte
abbrev pub key_order : PubKey → PubKey → Ordering
key_order a b = slice_cmp nat_cmp a.0 b.0

-- a proposer for some slots of the epoch, none for two
abbrev pub are_proposer_rows : ℕ → List ProposerRow → Bool
are_proposer_rows epoch rows =
    nat_le (length rows) most_rows
    && list_all (λ row. is_in_epoch epoch row.slot) rows
    && are_distinct nat_cmp (map (λ row. row.slot) rows)

-- the slot is in the epoch, the committee has 1 to 2048 members, and the place is one of theirs
abbrev pub is_attester_row : ℕ → AttesterRow → Bool
is_attester_row epoch row =
    is_in_epoch epoch row.slot
    && nat_le row.committee_length 2048
    && nat_lt row.validator_committee_index row.committee_length

-- each key votes once in the epoch
abbrev pub are_attester_rows : ℕ → List AttesterRow → Bool
are_attester_rows epoch rows =
    nat_le (length rows) most_rows
    && list_all (is_attester_row epoch) rows
    && are_distinct key_order (map (λ row. row.pubkey) rows)

-- the answer is of the question's name, duties are within these bounds, and a vote's source is no later than its target
abbrev pub fits : Ask → Answer → Bool
fits ask.Genesis (answer.Genesis genesis_time root) = true
fits ask.Fork (answer.Fork fork) = true
fits ask.Syncing (answer.Syncing is_syncing) = true
fits (ask.Validators keys) (answer.Validators rows) = true
fits (ask.Proposer epoch) (answer.Proposer root rows) = are_proposer_rows epoch rows
fits (ask.Attester epoch indices) (answer.Attester root rows) = are_attester_rows epoch rows
fits (ask.Data slot committee) (answer.Data details) = nat_le details.source.epoch details.target.epoch
fits (ask.Block slot reveal) (answer.Block block) = true
fits (ask.Aggregate root slot) (answer.Aggregate aggregate) = true
fits (ask.Liveness epoch indices) (answer.Liveness rows) = true
fits _ _ = false
