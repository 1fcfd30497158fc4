-- Answers that were taken keep places.
use Rattle.std.proofs.Common.{◌≡◌, ℕ, List, [], ◌∷◌, ◌++◌, Bool, true, false, Option, refl, sym, subst}
use Rattle.std.specs.Prelude.{◌&&◌, nat_le, nat_lt, length, map}
use Rattle.std.specs.List.{list_all}
use Rattle.std.proofs.lemmas.Bool.{and_parts}
use Rattle.edge_kit.specs.declared.bytes.Root.{Root}
use Rattle.node_calls.specs.Fitting.{fits, are_attester_rows, are_distinct, is_attester_row, is_in_epoch, key_order, most_rows}
use Rattle.node_calls.specs.declared.answer.AttesterRow.{AttesterRow}
use Rattle.node_calls.specs.declared.answer.Answer.{Answer}
use Rattle.node_calls.specs.declared.answer.Answer.TheVariants as answer
use Rattle.node_calls.specs.declared.ask.Ask.TheVariants as ask
use Rattle.duty_schedule.specs.Answers.{TakenAnswer, taken_answer}
use Rattle.duty_schedule.specs.declared.rows.DutyRows.TheVariants as kind
use Rattle.duty_turns.specs.Standing.{IsHeld, Standing, with_attesters}
use Rattle.duty_turns.specs.declared.held.Held.{Held}
use Rattle.duty_asks.specs.Placed.{HoldsPlaced, are_placed, has_place, have_places}

pub both_true : (p q : Bool) → p ≡ true → q ≡ true → (p && q) ≡ true
both_true true q h k = k
both_true false q h k = absurd cc

pub placed_more : (answers : List TakenAnswer) (a : TakenAnswer) → are_placed answers ≡ true → have_places a.rows ≡ true → are_placed (answers ++ a ∷ []) ≡ true
placed_more [] a h k = both_true (have_places a.rows) true k refl
placed_more (b ∷ answers) a h k =
    let p = and_parts (have_places b.rows) (are_placed answers) h in
    both_true (have_places b.rows) (are_placed (answers ++ a ∷ [])) p.0 (placed_more answers a p.1 k)

row_placed : (epoch : ℕ) (row : AttesterRow) → is_attester_row epoch row ≡ true → has_place row ≡ true
row_placed epoch row h =
    let p = and_parts (is_in_epoch epoch row.slot && nat_le row.committee_length 2048) (nat_lt row.validator_committee_index row.committee_length) h in
    both_true (nat_le row.committee_length 2048) (nat_lt row.validator_committee_index row.committee_length) (and_parts (is_in_epoch epoch row.slot) (nat_le row.committee_length 2048) p.0).1 p.1

rows_placed : (epoch : ℕ) (rows : List AttesterRow) → list_all (is_attester_row epoch) rows ≡ true → list_all has_place rows ≡ true
rows_placed epoch [] h = refl
rows_placed epoch (row ∷ rows) h =
    let p = and_parts (is_attester_row epoch row) (list_all (is_attester_row epoch) rows) h in
    both_true (has_place row) (list_all has_place rows) (row_placed epoch row p.0) (rows_placed epoch rows p.1)

pub fit_placed : (epoch : ℕ) (rows : List AttesterRow) → are_attester_rows epoch rows ≡ true → list_all has_place rows ≡ true
fit_placed epoch rows h =
    let p = and_parts (nat_le (length rows) most_rows && list_all (is_attester_row epoch) rows) (are_distinct key_order (map (λ row. row.pubkey) rows)) h in
    rows_placed epoch rows (and_parts (nat_le (length rows) most_rows) (list_all (is_attester_row epoch) rows) p.0).1

-- an answer of attesters that fits its question keeps places
pub attesters_placed : (held : Held) (epoch : ℕ) (asked : List ℕ) (a : Answer) (root : Root) (rows : List AttesterRow) (s : Standing) → a ≡ answer.Attester root rows → fits (ask.Attester epoch asked) a ≡ true → are_placed s.answers ≡ true
    → IsHeld held (with_attesters epoch asked (answer.Attester root rows) s) → HoldsPlaced held (with_attesters epoch asked a s)
attesters_placed held epoch asked a root rows s e f h is =
    let g : are_attester_rows epoch rows ≡ true = subst (λ (x : Answer). fits (ask.Attester epoch asked) x ≡ true) e f in
    subst (λ (x : Answer). HoldsPlaced held (with_attesters epoch asked x s)) (sym e)
    (record { is = is; places = placed_more s.answers (taken_answer epoch asked root (kind.Attester rows)) h (fit_placed epoch rows g) })

-- with this epoch, or none, in place of the one in which fork and indices were asked for last
pub renewed_placed : (held : Held) (s : Standing) (old new : Option ℕ) → old ≡ new → HoldsPlaced held s → HoldsPlaced (record held { renewed = old }) (record s { renewed = new })
renewed_placed held s old new e h = record {
  is = record { slot = h.is.slot; fork = h.is.fork; indices = h.is.indices; schedule = h.is.schedule; active = h.is.active; renewed = e };
  places = h.places;
}
