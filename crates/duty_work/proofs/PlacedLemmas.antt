-- What is due has its places, where each vote duty of the answers that were taken has.
use Rattle.std.proofs.Common.{◌≡◌, ℕ, ◌/◌, ◌⊎◌, inl, inr, Bool, true, false, cond, ◌&&◌, List, [], ◌∷◌, ◌++◌, filter, map, Option, Some, None, refl, sym, ◌∙◌, ap, append_assoc, subst}
use Rattle.std.specs.Prelude.{◌||◌, if◌then◌else◌, not, nat_eq, nat_le, nat_lt}
use Rattle.std.specs.List.{list_all, list_any}
use Rattle.std.specs.List.Sorted.{IsPermutation}
use Rattle.std.proofs.lemmas.Bool.{and_parts, cases_eq}
use Rattle.std.proofs.lemmas.List.{append-nil}
use Rattle.std.proofs.lemmas.List.Sorted.{list_any-IsPermutation}
use Rattle.edge_kit.specs.declared.bytes.PubKey.{PubKey}
use Rattle.node_calls.specs.declared.answer.AttesterRow.{AttesterRow}
use Rattle.node_calls.specs.declared.answer.ProposerRow.{ProposerRow}
use Rattle.duty_schedule.specs.Answers.{TakenAnswer, attester_answers, held, is_kept, same_basis}
use Rattle.duty_schedule.specs.Due.{IsDue, is_active, kept_attesters, rows_of}
use Rattle.duty_schedule.specs.Holding.{next_held}
use Rattle.duty_schedule.specs.declared.answer.Basis.{Basis}
use Rattle.duty_schedule.specs.declared.answer.DutyAnswer.{DutyAnswer}
use Rattle.duty_schedule.specs.declared.rows.Duty.{Duty}
use Rattle.duty_schedule.specs.declared.rows.Duty.TheVariants as duty
use Rattle.duty_schedule.specs.declared.rows.DutyRows.{DutyRows}
use Rattle.duty_schedule.specs.declared.rows.DutyRows.TheVariants as kind
use Rattle.duty_schedule.proofs.HeldLemmas.{answer_at, attesters_elsewhere, attesters_here, attesters_none, attesters_of_proposers, held-append, one_kind}
use Rattle.duty_plans.specs.declared.ended.Aggregation.{Aggregation}
use Rattle.duty_plans.specs.declared.ended.Aggregation.TheVariants as votes
use Rattle.duty_plans.specs.declared.ended.Ended.{Ended}
use Rattle.duty_plans.specs.declared.ended.Unsent.{Unsent}
use Rattle.duty_plans.specs.declared.setup.DutySetup.{DutySetup}
use Rattle.duty_plans.specs.declared.task.Task.{Task}
use Rattle.duty_plans.specs.declared.task.Task.TheVariants as task
use Rattle.duty_plans.specs.Choices.{aggregate_by, aggregate_of, aggregate_tasks, choice_by, choice_of, choose_tasks}
use Rattle.duty_plans.specs.Tasks.{again_by, again_of, again_tasks, fresh}
use Rattle.duty_plans.specs.Votes.{asks_for, data_tasks, vote_by, vote_task, vote_tasks}
use Rattle.duty_turns.specs.Turns.{blocks_in, choices_of, is_block, votes_in}
use Rattle.duty_workers.specs.Places as workers
use Rattle.duty_asks.specs.Placed.{are_placed, has_place, have_places}
use Rattle.duty_asks.proofs.PlaceLemmas.{both_true}

-- ---- all elements of a list

pub all_kept : {X : Type 0} (p q : X → Bool) (xs : List X) → list_all p xs ≡ true → list_all p (filter q xs) ≡ true
all_kept p q [] h = refl
all_kept {X} p q (x ∷ xs) h = at (q x) (all_kept p q xs (and_parts (p x) (list_all p xs) h).1) where
  at : (t : Bool) → list_all p (filter q xs) ≡ true → list_all p (cond t (x ∷ filter q xs) (filter q xs)) ≡ true
  at true rest = both_true (p x) (list_all p (filter q xs)) (and_parts (p x) (list_all p xs) h).0 rest
  at false rest = rest

all_joined : {X : Type 0} (p : X → Bool) (xs ys : List X) → list_all p xs ≡ true → list_all p ys ≡ true → list_all p (xs ++ ys) ≡ true
all_joined p [] ys h k = k
all_joined p (x ∷ xs) ys h k =
    let q = and_parts (p x) (list_all p xs) h in
    both_true (p x) (list_all p (xs ++ ys)) q.0 (all_joined p xs ys q.1 k)

none_fails : {X : Type 0} (p : X → Bool) (xs : List X) → list_all p xs ≡ true → list_any (λ x. not (p x)) xs ≡ false
none_fails p [] h = refl
none_fails p (x ∷ xs) h =
    let q = and_parts (p x) (list_all p xs) h in
    ap (λ (b : Bool). not b || list_any (λ y. not (p y)) xs) q.0 ∙ none_fails p xs q.1

all_pass : {X : Type 0} (p : X → Bool) (xs : List X) → list_any (λ x. not (p x)) xs ≡ false → list_all p xs ≡ true
all_pass p [] h = refl
all_pass p (x ∷ xs) h = at (p x) refl (all_pass p xs) where
  at : (t : Bool) → p x ≡ t → (list_any (λ y. not (p y)) xs ≡ false → list_all p xs ≡ true) → (p x && list_all p xs) ≡ true
  at true e rest = both_true (p x) (list_all p xs) e (rest (ap (λ (b : Bool). not b || list_any (λ y. not (p y)) xs) (sym e) ∙ h))
  at false e rest = absurd (let bad : true ≡ false = ap (λ (b : Bool). not b || list_any (λ y. not (p y)) xs) (sym e) ∙ h in cc)

all_moved : {X : Type 0} (p : X → Bool) (xs ys : List X) → IsPermutation xs ys → list_all p xs ≡ true → list_all p ys ≡ true
all_moved p xs ys moved h = all_pass p ys (sym (list_any-IsPermutation (λ x. not (p x)) xs ys moved) ∙ none_fails p xs h)

-- ---- the held answers

abbrev HeldPlaced : List TakenAnswer → Type 0
HeldPlaced answers = (epoch : ℕ) → list_all has_place (rows_of (held (attester_answers epoch answers))) ≡ true

next_placed : (before : Option (DutyAnswer AttesterRow)) (basis : Basis) (rows : List AttesterRow) → list_all has_place (rows_of before) ≡ true → list_all has_place rows ≡ true
    → list_all has_place (rows_of (Some (next_held before (one_kind basis rows)))) ≡ true
next_placed None basis rows h k = k
next_placed (Some before) basis rows h k = at (same_basis before.basis basis) where
  at : (t : Bool) → list_all has_place (rows_of (Some (cond t before (one_kind basis rows)))) ≡ true
  at true = h
  at false = k

placed_by : (answers : List TakenAnswer) (epoch : ℕ) (basis : Basis) (rows : DutyRows) → HeldPlaced answers → have_places rows ≡ true → HeldPlaced (answers ++ answer_at epoch basis rows ∷ [])
placed_by answers epoch basis (kind.Proposer rows) p h = λ other.
    subst (λ (l : List (DutyAnswer AttesterRow)). list_all has_place (rows_of (held l)) ≡ true) (sym (attesters_of_proposers answers epoch basis rows other)) (p other)
placed_by answers epoch basis (kind.Attester rows) p h = λ other. at other (cases_eq other epoch) where
  new : List TakenAnswer
  new = answers ++ answer_at epoch basis (kind.Attester rows) ∷ []

  here : list_all has_place (rows_of (held (attester_answers epoch new))) ≡ true
  here =
      subst (λ (l : List (DutyAnswer AttesterRow)). list_all has_place (rows_of (held l)) ≡ true) (sym (attesters_here answers epoch basis rows))
      (subst (λ (o : Option (DutyAnswer AttesterRow)). list_all has_place (rows_of o) ≡ true) (sym (held-append (attester_answers epoch answers) (one_kind basis rows)))
      (next_placed (held (attester_answers epoch answers)) basis rows (p epoch) h))

  at : (other : ℕ) → (other ≡ epoch) ⊎ (other ≡ epoch → ⊥) → list_all has_place (rows_of (held (attester_answers other new))) ≡ true
  at other (inl e) = subst (λ (n : ℕ). list_all has_place (rows_of (held (attester_answers n new))) ≡ true) (sym e) here
  at other (inr apart) = subst (λ (l : List (DutyAnswer AttesterRow)). list_all has_place (rows_of (held l)) ≡ true) (sym (attesters_elsewhere answers epoch basis rows other apart)) (p other)

placed_behind : (front rest : List TakenAnswer) → HeldPlaced front → are_placed rest ≡ true → HeldPlaced (front ++ rest)
placed_behind front [] p h = subst (λ (l : List TakenAnswer). HeldPlaced l) (sym (append-nil front)) p
placed_behind front (a ∷ rest) p h =
    let q = and_parts (have_places a.rows) (are_placed rest) h in
    subst (λ (l : List TakenAnswer). HeldPlaced l) (append_assoc front (a ∷ []) rest) (placed_behind (front ++ a ∷ []) rest (placed_by front a.epoch a.basis a.rows p q.0) q.1)

held_placed : (answers : List TakenAnswer) → are_placed answers ≡ true → HeldPlaced answers
held_placed answers h = placed_behind [] answers (λ epoch. subst (λ (o : Option (DutyAnswer AttesterRow)). list_all has_place (rows_of o) ≡ true) (sym (attesters_none epoch)) refl) h

kept_placed : (answers : List TakenAnswer) (slot : ℕ) → are_placed answers ≡ true → list_all has_place (kept_attesters answers slot) ≡ true
unfolding kept_attesters
kept_placed answers slot h = at (is_kept answers (slot / 32)) where
  at : (t : Bool) → list_all has_place (cond t (rows_of (held (attester_answers (slot / 32) answers))) []) ≡ true
  at true = held_placed answers h (slot / 32)
  at false = refl

-- ---- what is due

place_same : (row : AttesterRow) → has_place row ≡ true → workers.has_place row ≡ true
place_same row h =
    let q = and_parts (nat_le row.committee_length 2048) (nat_lt row.validator_committee_index row.committee_length) h in
    both_true (nat_lt row.validator_committee_index row.committee_length) (nat_le row.committee_length 2048) q.1 q.0

votes_placed : (rows : List AttesterRow) → list_all has_place rows ≡ true → workers.are_placed (map duty.Vote rows) ≡ true
votes_placed [] h = refl
votes_placed (row ∷ rows) h =
    let q = and_parts (has_place row) (list_all has_place rows) h in
    both_true (workers.has_place row) (workers.are_placed (map duty.Vote rows)) (place_same row q.0) (votes_placed rows q.1)

blocks_placed : (rows : List ProposerRow) → workers.are_placed (map duty.Block rows) ≡ true
blocks_placed [] = refl
blocks_placed (row ∷ rows) = blocks_placed rows

pub due_placed : (answers : List TakenAnswer) (slot : ℕ) (active : List PubKey) (ds : List Duty) → IsDue answers slot active ds → are_placed answers ≡ true → workers.are_placed ds ≡ true
due_placed answers slot active ds due h =
    let of_kept = all_kept has_place (λ row. nat_eq row.slot slot && is_active active row.pubkey) (kept_attesters answers slot) (kept_placed answers slot h) in
    let votes : list_all has_place due.votes ≡ true = all_moved has_place _ due.votes due.are_votes.same_rows of_kept in
    subst (λ (l : List Duty). workers.are_placed l ≡ true) (sym due.are_both)
    (all_joined workers.is_placed (map duty.Block due.blocks) (map duty.Vote due.votes) (blocks_placed due.blocks) (votes_placed due.votes votes))

pub kind_placed : (q : Duty → Bool) (ds : List Duty) → workers.are_placed ds ≡ true → workers.are_placed (filter q ds) ≡ true
kind_placed q ds h = all_kept workers.is_placed q ds h

pub fresh_placed : (ds : List Duty) → workers.are_placed ds ≡ true → workers.are_placed_tasks (fresh ds) ≡ true
fresh_placed [] h = refl
fresh_placed (d ∷ ds) h =
    let q = and_parts (workers.is_placed d) (workers.are_placed ds) h in
    both_true (workers.is_placed d) (workers.are_placed_tasks (fresh ds)) q.0 (fresh_placed ds q.1)

kept_by : (d : Duty) (o : Option Unsent) → workers.is_placed d ≡ true → workers.are_placed_tasks (again_by d o) ≡ true
kept_by d None h = refl
kept_by d (Some unsent) h = both_true (workers.is_placed d) true h refl

pub again_placed : (ds : List Duty) (ends : List Ended) → workers.are_placed ds ≡ true → workers.are_placed_tasks (again_tasks ds ends) ≡ true
again_placed [] ends h = refl
again_placed (d ∷ ds) [] h = refl
again_placed (d ∷ ds) (e ∷ ends) h =
    let q = and_parts (workers.is_placed d) (workers.are_placed ds) h in
    all_joined workers.is_placed_task (again_of d e) (again_tasks ds ends) (kept_by d e.unsent q.0) (again_placed ds ends q.1)

pub both_placed : (ds blocks votes : List Duty) → blocks ≡ blocks_in ds → votes ≡ votes_in ds → workers.are_placed ds ≡ true → workers.are_placed (blocks ++ votes) ≡ true
both_placed ds blocks votes first second h =
    all_joined workers.is_placed blocks votes
    (subst (λ (l : List Duty). workers.are_placed l ≡ true) (sym first) (kind_placed is_block ds h))
    (subst (λ (l : List Duty). workers.are_placed l ≡ true) (sym second) (kind_placed (λ d. not (is_block d)) ds h))

pub data_placed : (ds : List Duty) → workers.are_placed ds ≡ true → workers.are_placed_tasks (data_tasks ds) ≡ true
data_placed [] h = refl
data_placed (duty.Vote row ∷ ds) h =
    let q = and_parts (workers.has_place row) (workers.are_placed ds) h in
    let others : List Task = filter (λ t. not (asks_for row t)) (data_tasks ds) in
    both_true (workers.has_place row) (workers.are_placed_tasks others) q.0 (all_kept workers.is_placed_task (λ t. not (asks_for row t)) (data_tasks ds) (data_placed ds q.1))
data_placed (duty.Block row ∷ ds) h = data_placed ds h

vote_placed : (d : Duty) (o : Option Aggregation) → workers.is_placed d ≡ true → workers.are_placed_tasks (vote_by d o) ≡ true
vote_placed (duty.Vote row) (Some (votes.Voted details)) h = both_true (workers.has_place row) true h refl
vote_placed (duty.Vote row) (Some (votes.Chosen details proof)) h = refl
vote_placed (duty.Vote row) None h = refl
vote_placed (duty.Block row) o h = refl

pub cast_placed : (ds : List Duty) (ends : List Ended) → workers.are_placed ds ≡ true → workers.are_placed_tasks (vote_tasks ds ends) ≡ true
cast_placed [] ends h = refl
cast_placed (d ∷ ds) [] h = refl
cast_placed (d ∷ ds) (e ∷ ends) h =
    let q = and_parts (workers.is_placed d) (workers.are_placed ds) h in
    all_joined workers.is_placed_task (vote_task d e) (vote_tasks ds ends) (vote_placed d e.aggregation q.0) (cast_placed ds ends q.1)

choice_placed : (d : Duty) (o : Option Aggregation) → workers.is_placed d ≡ true → workers.are_placed_tasks (choice_by d o) ≡ true
choice_placed (duty.Vote row) (Some (votes.Voted details)) h = both_true (workers.has_place row) true h refl
choice_placed (duty.Vote row) (Some (votes.Chosen details proof)) h = refl
choice_placed (duty.Vote row) None h = refl
choice_placed (duty.Block row) o h = refl

choices_placed : (ds : List Duty) (ends : List Ended) → workers.are_placed ds ≡ true → workers.are_placed_tasks (choose_tasks ds ends) ≡ true
choices_placed [] ends h = refl
choices_placed (d ∷ ds) [] h = refl
choices_placed (d ∷ ds) (e ∷ ends) h =
    let q = and_parts (workers.is_placed d) (workers.are_placed ds) h in
    all_joined workers.is_placed_task (choice_of d e) (choose_tasks ds ends) (choice_placed d e.aggregation q.0) (choices_placed ds ends q.1)

pub made_placed : (setup : DutySetup) (ds : List Duty) (ends : List Ended) → workers.are_placed ds ≡ true → workers.are_placed_tasks (choices_of setup ds ends) ≡ true
made_placed setup ds ends h = at setup.aggregate where
  at : (b : Bool) → workers.are_placed_tasks (if b then choose_tasks ds ends else []) ≡ true
  at true = choices_placed ds ends h
  at false = refl

aggregate_placed : (t : Task) (o : Option Aggregation) → workers.is_placed_task t ≡ true → workers.are_placed_tasks (aggregate_by t o) ≡ true
aggregate_placed (task.Choose row details) (Some (votes.Chosen asked proof)) h = both_true (workers.has_place row) true h refl
aggregate_placed (task.Choose row details) (Some (votes.Voted asked)) h = refl
aggregate_placed (task.Choose row details) None h = refl
aggregate_placed (task.Fresh d) o h = refl
aggregate_placed (task.Again d unsent) o h = refl
aggregate_placed (task.Data row) o h = refl
aggregate_placed (task.Vote row details) o h = refl
aggregate_placed (task.Aggregate row details proof) o h = refl

pub aggregates_placed : (ts : List Task) (ends : List Ended) → workers.are_placed_tasks ts ≡ true → workers.are_placed_tasks (aggregate_tasks ts ends) ≡ true
aggregates_placed [] ends h = refl
aggregates_placed (t ∷ ts) [] h = refl
aggregates_placed (t ∷ ts) (e ∷ ends) h =
    let q = and_parts (workers.is_placed_task t) (workers.are_placed_tasks ts) h in
    all_joined workers.is_placed_task (aggregate_of t e) (aggregate_tasks ts ends) (aggregate_placed t e.aggregation q.0) (aggregates_placed ts ends q.1)
