-- A schedule stands for one answer more, and what is due by it.
use Rattle.std.proofs.Common.{◌≡◌, ◌≢◌, ℕ, ◌+◌, ◌/◌, ◌==◌, ◌≤◌, max, Bool, true, false, cond, ◌&&◌, List, [], ◌∷◌, ◌++◌, filter, nat_le, Option, Some, inl, inr, ◌⊎◌, refl, sym, ◌∙◌, ap, subst, arith, leb-false, leb-true}
use Rattle.std.proofs.lemmas.Bool.{cases_eq}
use Rattle.std.proofs.lemmas.List.Elements.{filter_agree}
use Rattle.edge_kit.specs.declared.bytes.PubKey.{PubKey}
use Rattle.node_calls.specs.declared.answer.AttesterRow.{AttesterRow}
use Rattle.node_calls.specs.declared.answer.ProposerRow.{ProposerRow}
use Rattle.duty_schedule.specs.Answers.{TakenAnswer, attester_answers, held, newest_epoch, outcome_of, proposer_answers, verdict}
use Rattle.duty_schedule.specs.Due.{IsByKey, is_active, kept_attesters, kept_proposers, rows_of}
use Rattle.duty_schedule.specs.Holding.{HoldsKept, MovesOn, held_at, next_held, rests_on}
use Rattle.duty_schedule.specs.declared.answer.Basis.{Basis}
use Rattle.duty_schedule.specs.declared.answer.DutyAnswer.{DutyAnswer}
use Rattle.duty_schedule.specs.declared.held.HeldAnswers.{HeldAnswers}
use Rattle.duty_schedule.specs.Standing.{Stands}
use Rattle.duty_schedule.specs.declared.rows.DutyRows.TheVariants as kind
use Rattle.duty_schedule.specs.declared.schedule.Schedule.{Schedule}
use Rattle.duty_schedule.proofs.HoldingLemmas.{past_at}
use Rattle.duty_schedule.proofs.HeldLemmas.{answer_at, attesters_elsewhere, attesters_here, attesters_of_proposers, held-append, newest-append, one_kind, proposers_elsewhere, proposers_here, proposers_of_attesters}

module _ {T : Type 0} (old moved : HeldAnswers T) (newest later epoch : ℕ) (of_old : ℕ → Option (DutyAnswer T)) (is_later : later ≡ max newest epoch) (moves : MovesOn old newest moved later) (holds : HoldsKept old newest of_old) where
  -- what was held of an epoch that is still kept
  pub still_held : (other : ℕ) → later ≤ other + 1 → held_at moved later other ≡ of_old other
  still_held other kept = moves other kept ∙ holds other (omega arith)

  -- no answer of this kind came
  pub holds_same : (of_new : ℕ → Option (DutyAnswer T)) → ((other : ℕ) → of_new other ≡ of_old other) → HoldsKept moved later of_new
  holds_same of_new same = λ other kept. still_held other kept ∙ sym (same other)

  -- one came for an epoch
  pub holds_next : (new : HeldAnswers T) (answer : DutyAnswer T) (of_new : ℕ → Option (DutyAnswer T))
      → (later ≤ epoch + 1 → held_at new later epoch ≡ Some (next_held (held_at moved later epoch) answer))
      → ((other : ℕ) → other ≢ epoch → held_at new later other ≡ held_at moved later other)
      → of_new epoch ≡ Some (next_held (of_old epoch) answer) → ((other : ℕ) → other ≢ epoch → of_new other ≡ of_old other) → HoldsKept new later of_new
  holds_next new answer of_new own others here same = λ other kept. at other kept (cases_eq other epoch) where
    at : (other : ℕ) → later ≤ other + 1 → (other ≡ epoch) ⊎ (other ≡ epoch → ⊥) → held_at new later other ≡ of_new other
    at other kept (inl e) =
        let fits : later ≤ epoch + 1 = omega arith in
        let one : held_at new later epoch ≡ of_new epoch = own fits ∙ ap (λ (o : Option (DutyAnswer T)). Some (next_held o answer)) (still_held epoch fits) ∙ sym here in
        subst (λ (n : ℕ). held_at new later n ≡ of_new n) (sym e) one
    at other kept (inr apart) = others other apart ∙ still_held other kept ∙ sym (same other apart)

  -- and what became of it
  pub outcome_same : (basis : Basis) → outcome_of (nat_le later (epoch + 1) && rests_on (held_at moved later epoch) basis) ≡ outcome_of (nat_le newest (epoch + 1) && rests_on (of_old epoch) basis)
  outcome_same basis = at (nat_le later (epoch + 1)) (nat_le newest (epoch + 1)) refl refl where
    at : (b c : Bool) → nat_le later (epoch + 1) ≡ b → nat_le newest (epoch + 1) ≡ c → outcome_of (b && rests_on (held_at moved later epoch) basis) ≡ outcome_of (c && rests_on (of_old epoch) basis)
    at true true d e = ap (λ (o : Option (DutyAnswer T)). outcome_of (rests_on o basis)) (still_held epoch (leb-true later (epoch + 1) d))
    at false false d e = refl
    at true false d e = absurd (omega (arith, leb-true later (epoch + 1) d, leb-false newest (epoch + 1) e))
    at false true d e = absurd (omega (arith, leb-false later (epoch + 1) d, leb-true newest (epoch + 1) e))

pub kept_rows : {T : Type 0} (store : HeldAnswers T) (newest epoch : ℕ) (of_kept : ℕ → Option (DutyAnswer T)) → HoldsKept store newest of_kept
    → rows_of (held_at store newest epoch) ≡ cond (nat_le newest (epoch + 1)) (rows_of (of_kept epoch)) []
kept_rows {T} store newest epoch of_kept holds = at (nat_le newest (epoch + 1)) refl where
  at : (b : Bool) → nat_le newest (epoch + 1) ≡ b → rows_of (held_at store newest epoch) ≡ cond b (rows_of (of_kept epoch)) []
  at true e = ap (λ (o : Option (DutyAnswer T)). rows_of o) (holds epoch (leb-true newest (epoch + 1) e))
  at false e = ap (λ (o : Option (DutyAnswer T)). rows_of o) (past_at store newest epoch (leb-false newest (epoch + 1) e))

pub proposers_by : (s : Schedule) (answers : List TakenAnswer) → Stands s answers → (slot : ℕ) → rows_of (held_at s.proposers s.newest_epoch (slot / 32)) ≡ kept_proposers answers slot
unfolding kept_proposers
proposers_by s answers stands slot =
    kept_rows s.proposers s.newest_epoch (slot / 32) (λ epoch. held (proposer_answers epoch answers)) stands.proposers
    ∙ ap (λ (n : ℕ). cond (nat_le n (slot / 32 + 1)) (rows_of (held (proposer_answers (slot / 32) answers))) []) stands.newest

pub attesters_by : (s : Schedule) (answers : List TakenAnswer) → Stands s answers → (slot : ℕ) → rows_of (held_at s.attesters s.newest_epoch (slot / 32)) ≡ kept_attesters answers slot
unfolding kept_attesters
attesters_by s answers stands slot =
    kept_rows s.attesters s.newest_epoch (slot / 32) (λ epoch. held (attester_answers epoch answers)) stands.attesters
    ∙ ap (λ (n : ℕ). cond (nat_le n (slot / 32 + 1)) (rows_of (held (attester_answers (slot / 32) answers))) []) stands.newest

-- the rows of active keys, where those were put into a set
pub due_of_set : {T : Type 0} (slot_of : T → ℕ) (key_of : T → PubKey) (slot : ℕ) (active : List PubKey) (in_set : PubKey → Bool) → ((key : PubKey) → in_set key ≡ is_active active key) → (rows kept due : List T) → rows ≡ kept
    → IsByKey key_of (filter (λ row. slot_of row == slot && in_set (key_of row)) rows) due → IsByKey key_of (filter (λ row. slot_of row == slot && is_active active (key_of row)) kept) due
due_of_set {T} slot_of key_of slot active in_set same rows kept due are_kept by_key =
    let test : T → Bool = λ row. slot_of row == slot && is_active active (key_of row) in
    let agree : filter (λ row. slot_of row == slot && in_set (key_of row)) rows ≡ filter test rows = filter_agree (λ row. slot_of row == slot && in_set (key_of row)) test (λ row. ap (λ (b : Bool). slot_of row == slot && b) (same (key_of row))) rows in
    let P : List T → Type 0 = λ l. IsByKey key_of l due in
    subst P (agree ∙ ap (λ (l : List T). filter test l) are_kept) by_key

-- what is held once an answer has come: before, after the schedule has gone on to its epoch, and at the end
module _ (old moved new : Schedule) (epoch : ℕ) (basis : Basis) (newest : moved.newest_epoch ≡ max old.newest_epoch epoch) (proposers : MovesOn old.proposers old.newest_epoch moved.proposers moved.newest_epoch) (attesters : MovesOn old.attesters old.newest_epoch moved.attesters moved.newest_epoch) (answers : List TakenAnswer) (stands : Stands old answers) where
  newest_now : (a : TakenAnswer) → a.epoch ≡ epoch → moved.newest_epoch ≡ newest_epoch (answers ++ a ∷ [])
  newest_now a e = newest ∙ ap (λ (n : ℕ). max n epoch) stands.newest ∙ ap (λ (n : ℕ). max (newest_epoch answers) n) (sym e) ∙ sym (newest-append answers a)

  pub took_proposers : (rows : List ProposerRow) → new.newest_epoch ≡ moved.newest_epoch → new.attesters ≡ moved.attesters
      → (moved.newest_epoch ≤ epoch + 1 → held_at new.proposers moved.newest_epoch epoch ≡ Some (next_held (held_at moved.proposers moved.newest_epoch epoch) (one_kind basis rows)))
      → ((other : ℕ) → other ≢ epoch → held_at new.proposers moved.newest_epoch other ≡ held_at moved.proposers moved.newest_epoch other) → Stands new (answers ++ answer_at epoch basis (kind.Proposer rows) ∷ [])
  took_proposers rows same_newest same_attesters own others =
      let now : List TakenAnswer = answers ++ answer_at epoch basis (kind.Proposer rows) ∷ [] in
      let P : ℕ → Type 0 = λ n. HoldsKept new.proposers n (λ e. held (proposer_answers e now)) in
      let A : ℕ → Type 0 = λ n. HoldsKept new.attesters n (λ e. held (attester_answers e now)) in
      let B : HeldAnswers AttesterRow → Type 0 = λ store. HoldsKept store moved.newest_epoch (λ e. held (attester_answers e now)) in
      record {
        newest = same_newest ∙ newest_now (answer_at epoch basis (kind.Proposer rows)) refl;
        proposers = subst P (sym same_newest)
            (holds_next old.proposers moved.proposers old.newest_epoch moved.newest_epoch epoch (λ e. held (proposer_answers e answers)) newest proposers stands.proposers new.proposers (one_kind basis rows) (λ e. held (proposer_answers e now)) own others
            (ap (λ (l : List (DutyAnswer ProposerRow)). held l) (proposers_here answers epoch basis rows) ∙ held-append (proposer_answers epoch answers) (one_kind basis rows))
            (λ other apart. ap (λ (l : List (DutyAnswer ProposerRow)). held l) (proposers_elsewhere answers epoch basis rows other apart)));
        attesters = subst A (sym same_newest) (subst B (sym same_attesters)
            (holds_same old.attesters moved.attesters old.newest_epoch moved.newest_epoch epoch (λ e. held (attester_answers e answers)) newest attesters stands.attesters (λ e. held (attester_answers e now))
            (λ other. ap (λ (l : List (DutyAnswer AttesterRow)). held l) (attesters_of_proposers answers epoch basis rows other))));
      }

  pub took_attesters : (rows : List AttesterRow) → new.newest_epoch ≡ moved.newest_epoch → new.proposers ≡ moved.proposers
      → (moved.newest_epoch ≤ epoch + 1 → held_at new.attesters moved.newest_epoch epoch ≡ Some (next_held (held_at moved.attesters moved.newest_epoch epoch) (one_kind basis rows)))
      → ((other : ℕ) → other ≢ epoch → held_at new.attesters moved.newest_epoch other ≡ held_at moved.attesters moved.newest_epoch other) → Stands new (answers ++ answer_at epoch basis (kind.Attester rows) ∷ [])
  took_attesters rows same_newest same_proposers own others =
      let now : List TakenAnswer = answers ++ answer_at epoch basis (kind.Attester rows) ∷ [] in
      let P : ℕ → Type 0 = λ n. HoldsKept new.proposers n (λ e. held (proposer_answers e now)) in
      let A : ℕ → Type 0 = λ n. HoldsKept new.attesters n (λ e. held (attester_answers e now)) in
      let B : HeldAnswers ProposerRow → Type 0 = λ store. HoldsKept store moved.newest_epoch (λ e. held (proposer_answers e now)) in
      record {
        newest = same_newest ∙ newest_now (answer_at epoch basis (kind.Attester rows)) refl;
        proposers = subst P (sym same_newest) (subst B (sym same_proposers)
            (holds_same old.proposers moved.proposers old.newest_epoch moved.newest_epoch epoch (λ e. held (proposer_answers e answers)) newest proposers stands.proposers (λ e. held (proposer_answers e now))
            (λ other. ap (λ (l : List (DutyAnswer ProposerRow)). held l) (proposers_of_attesters answers epoch basis rows other))));
        attesters = subst A (sym same_newest)
            (holds_next old.attesters moved.attesters old.newest_epoch moved.newest_epoch epoch (λ e. held (attester_answers e answers)) newest attesters stands.attesters new.attesters (one_kind basis rows) (λ e. held (attester_answers e now)) own others
            (ap (λ (l : List (DutyAnswer AttesterRow)). held l) (attesters_here answers epoch basis rows) ∙ held-append (attester_answers epoch answers) (one_kind basis rows))
            (λ other apart. ap (λ (l : List (DutyAnswer AttesterRow)). held l) (attesters_elsewhere answers epoch basis rows other apart)));
      }

  -- and the verdict on it
  pub proposers_verdict : (rows : List ProposerRow) → outcome_of (nat_le moved.newest_epoch (epoch + 1) && rests_on (held_at moved.proposers moved.newest_epoch epoch) basis) ≡ verdict answers (answer_at epoch basis (kind.Proposer rows))
  unfolding verdict
  proposers_verdict rows =
      outcome_same old.proposers moved.proposers old.newest_epoch moved.newest_epoch epoch (λ e. held (proposer_answers e answers)) newest proposers stands.proposers basis
      ∙ ap (λ (n : ℕ). outcome_of (nat_le n (epoch + 1) && rests_on (held (proposer_answers epoch answers)) basis)) stands.newest

  pub attesters_verdict : (rows : List AttesterRow) → outcome_of (nat_le moved.newest_epoch (epoch + 1) && rests_on (held_at moved.attesters moved.newest_epoch epoch) basis) ≡ verdict answers (answer_at epoch basis (kind.Attester rows))
  unfolding verdict
  attesters_verdict rows =
      outcome_same old.attesters moved.attesters old.newest_epoch moved.newest_epoch epoch (λ e. held (attester_answers e answers)) newest attesters stands.attesters basis
      ∙ ap (λ (n : ℕ). outcome_of (nat_le n (epoch + 1) && rests_on (held (attester_answers epoch answers)) basis)) stands.newest
