-- The tasks that follow from how others ended, and their reasons.
use Rattle.std.proofs.Common.{◌≡◌, ◌⊎◌, inl, inr, ℕ, Bool, true, false, List, [], ◌∷◌, ◌++◌, length, Option, Some, None, refl, sym, ◌∙◌, ap, subst, arith}
use Rattle.std.specs.Prelude.{if◌then◌else◌, not, Contains, IfSome, filter}
use Rattle.std.proofs.lemmas.List.Elements.{Contains-append_left, Contains-append_cases}
use Rattle.edge_kit.specs.declared.bytes.PubKey.{PubKey}
use Rattle.edge_kit.specs.declared.bytes.Sig.{Sig}
use Rattle.phase0_types.specs.declared.attestation.AttestationData.{AttestationData}
use Rattle.protect_record.proofs.MemberLemmas.{contains_cases, contains_first, contains_later, contains_none}
use Rattle.protect_record.proofs.UniteLemmas.{contains_from_filter}
use Rattle.node_calls.specs.declared.answer.AttesterRow.{AttesterRow}
use Rattle.duty_schedule.specs.Answers.{TakenAnswer}
use Rattle.duty_schedule.specs.declared.rows.Duty.{Duty}
use Rattle.duty_schedule.specs.declared.rows.Duty.TheVariants as duty
use Rattle.duty_plans.specs.declared.ended.Aggregation.{Aggregation}
use Rattle.duty_plans.specs.declared.ended.Aggregation.TheVariants as votes
use Rattle.duty_plans.specs.declared.ended.Ended.{Ended}
use Rattle.duty_plans.specs.declared.ended.Unsent.{Unsent}
use Rattle.duty_plans.specs.declared.setup.DutySetup.{DutySetup}
use Rattle.duty_plans.specs.declared.task.Task.{Task}
use Rattle.duty_plans.specs.declared.task.Task.TheVariants as task
use Rattle.duty_plans.specs.declared.work.SlotWork.{SlotWork}
use Rattle.duty_plans.specs.Choices.{aggregate_by, aggregate_of, aggregate_tasks, choice_by, choice_of, choose_tasks, ends_after}
use Rattle.duty_plans.specs.Steps.{DutyStep}
use Rattle.duty_plans.specs.Tasks.{again_by, again_of, again_tasks, fresh, tasks_by}
use Rattle.duty_plans.specs.Votes.{answer_of, asks_for, data_tasks, end_by, vote_answers, vote_by, vote_ends, vote_task, vote_tasks}
use Rattle.duty_turns.specs.Times.{again_start, aggregates_start, votes_start}
use Rattle.duty_turns.specs.TurnSteps.{TurnStep, Fits, Due, LooksUp, Worked, Works}
use Rattle.duty_turns.specs.Turns.{blocks_in, choices_of, is_block, votes_in}
use Rattle.aggregation_law.specs.Reasons.{GotData, HadEnd, HasReason, IsFirstTry, IsPair, WasAnswered, WasChosen, WasDue, WasLeft, WasTime}
use Rattle.aggregation_law.proofs.GivenLemmas.{IsAnswer, IsVoted, data_answers}
use Rattle.aggregation_law.proofs.LaneLemmas.{pair_done}
use Rattle.aggregation_law.proofs.QuestionLemmas.{answer_cases, answer_pair, voted_by}

-- ---- more steps

pub due_more_one : (xs ys : List TurnStep) (slot : ℕ) (d : Duty) → WasDue xs slot d → WasDue (xs ++ ys) slot d
due_more_one xs ys slot d h = record {
  answers = h.answers;
  active = h.active;
  due = h.due;
  step = Contains-append_left xs ys (LooksUp h.answers slot h.active, Due h.due) h.step;
  among = h.among;
}

pub end_more : (xs ys : List TurnStep) (work : SlotWork) (t : Task) (e : Ended) → HadEnd xs work t e → HadEnd (xs ++ ys) work t e
end_more xs ys work t e h = record {
  place = h.place;
  tasks = h.tasks;
  lanes = h.lanes;
  ends = h.ends;
  step = Contains-append_left xs ys (Works work h.place h.tasks, Worked h.lanes (Some h.ends)) h.step;
  pair = h.pair;
}

pub time_more : (xs ys : List TurnStep) (genesis slot moment : ℕ) → WasTime xs genesis slot moment → WasTime (xs ++ ys) genesis slot moment
time_more xs ys genesis slot moment h = record { reached = h.reached; step = Contains-append_left xs ys _ h.step; in_slot = h.in_slot }

left_more_one : (xs ys : List TurnStep) (work : SlotWork) (d : Duty) (unsent : Unsent) → WasLeft xs work d unsent → WasLeft (xs ++ ys) work d unsent
left_more_one xs ys work d unsent h = record { first = h.first; is = h.is; ended = h.ended; had = end_more xs ys work h.first h.ended h.had; left = h.left }

answered_more : (xs ys : List TurnStep) (work : SlotWork) (row : AttesterRow) (details : AttestationData) → WasAnswered xs work row details → WasAnswered (xs ++ ys) work row details
answered_more xs ys work row details h = record { asked = h.asked; same = h.same; ended = h.ended; had = end_more xs ys work (task.Data h.asked) h.ended h.had; goes_on = h.goes_on; own = h.own }

data_more : (xs ys : List TurnStep) (work : SlotWork) (row : AttesterRow) (details : AttestationData) → GotData xs work row details → GotData (xs ++ ys) work row details
data_more xs ys work row details h = record { given = h.given; ended = h.ended; had = end_more xs ys work (task.Vote row h.given) h.ended h.had; goes_on = h.goes_on }

chosen_more : (xs ys : List TurnStep) (work : SlotWork) (row : AttesterRow) (details : AttestationData) (proof : Sig) → WasChosen xs work row details proof → WasChosen (xs ++ ys) work row details proof
chosen_more xs ys work row details proof h = record { asked = h.asked; ended = h.ended; had = end_more xs ys work (task.Choose row h.asked) h.ended h.had; goes_on = h.goes_on }

pub reason_more : (setup : DutySetup) (xs ys : List TurnStep) (work : SlotWork) (t : Task) → HasReason setup xs work t → HasReason setup (xs ++ ys) work t
reason_more setup xs ys work (task.Fresh (duty.Block row)) h = due_more_one xs ys work.slot (duty.Block row) h
reason_more setup xs ys work (task.Fresh (duty.Vote row)) h = h
reason_more setup xs ys work (task.Data row) h = (due_more_one xs ys work.slot (duty.Vote row) h.0, time_more xs ys setup.genesis_time work.slot (votes_start setup.genesis_time work.slot) h.1)
reason_more setup xs ys work (task.Vote row details) h = (due_more_one xs ys work.slot (duty.Vote row) h.0, time_more xs ys setup.genesis_time work.slot (votes_start setup.genesis_time work.slot) h.1, answered_more xs ys work row details h.2)
reason_more setup xs ys work (task.Again d unsent) h = (time_more xs ys setup.genesis_time work.slot (again_start setup.genesis_time work.slot) h.0, left_more_one xs ys work d unsent h.1)
reason_more setup xs ys work (task.Choose row details) h = (h.0, data_more xs ys work row details h.1)
reason_more setup xs ys work (task.Aggregate row details proof) h = (time_more xs ys setup.genesis_time work.slot (aggregates_start setup.genesis_time work.slot) h.0, chosen_more xs ys work row details proof h.1)

-- ---- what is due

abbrev pub IsFound : List TurnStep → ℕ → List Duty → Type 0
IsFound before slot ds = (d : Duty) → Contains ds d → WasDue before slot d

pub due_found : (before : List TurnStep) (answers : List TakenAnswer) (slot : ℕ) (active : List PubKey) (ds : List Duty) → Contains before (LooksUp answers slot active, Due ds) → IsFound before slot ds
due_found before answers slot active ds step d c = record { answers = answers; active = active; due = ds; step = step; among = c }

pub due_more : (xs ys : List TurnStep) (slot : ℕ) (ds : List Duty) → IsFound xs slot ds → IsFound (xs ++ ys) slot ds
due_more xs ys slot ds h d c = due_more_one xs ys slot d (h d c)

-- a task of these duties is one of them
fresh_one : (ds : List Duty) (t : Task) → Contains (fresh ds) t → (d : Duty) × Contains ds d × (task.Fresh d ≡ t)
fresh_one [] t c = contains_none t c
fresh_one (d ∷ ds) t c = by_cases (λ r. fresh_one ds t r) (contains_cases (task.Fresh d) (fresh ds) t c) where
  by_cases : (Contains (fresh ds) t → (x : Duty) × Contains ds x × (task.Fresh x ≡ t)) → (task.Fresh d ≡ t) ⊎ Contains (fresh ds) t → (x : Duty) × Contains (d ∷ ds) x × (task.Fresh x ≡ t)
  by_cases more (inl e) = (d, contains_first d ds, e)
  by_cases more (inr r) = let one = more r in (one.0, contains_later d ds one.0 one.1, one.2)

-- a question of these duties is that of a vote of them
pub data_one : (ds : List Duty) (t : Task) → Contains (data_tasks ds) t → (row : AttesterRow) × Contains ds (duty.Vote row) × (task.Data row ≡ t)
data_one [] t c = contains_none t c
data_one (duty.Block b ∷ ds) t c = let one = data_one ds t c in (one.0, contains_later (duty.Block b) ds (duty.Vote one.0) one.1, one.2)
data_one (duty.Vote v ∷ ds) t c = by_cases (λ r. data_one ds t r) (contains_cases (task.Data v) others t c) where
  others : List Task
  others = filter (λ u. not (asks_for v u)) (data_tasks ds)

  by_cases : (Contains (data_tasks ds) t → (row : AttesterRow) × Contains ds (duty.Vote row) × (task.Data row ≡ t)) → (task.Data v ≡ t) ⊎ Contains others t
      → (row : AttesterRow) × Contains (duty.Vote v ∷ ds) (duty.Vote row) × (task.Data row ≡ t)
  by_cases more (inl e) = (v, contains_first (duty.Vote v) ds, e)
  by_cases more (inr r) = let one = more (contains_from_filter (λ u. not (asks_for v u)) (data_tasks ds) t r).0 in (one.0, contains_later (duty.Vote v) ds (duty.Vote one.0) one.1, one.2)

module _ (setup : DutySetup) (before : List TurnStep) (work : SlotWork) where
  block_reason : (d : Duty) → is_block d ≡ true → WasDue before work.slot d → HasReason setup before work (task.Fresh d)
  block_reason (duty.Block row) is due = due
  block_reason (duty.Vote row) is due = absurd (let bad : false ≡ true = is in cc)

  pub block_reasons : (ds : List Duty) → IsFound before work.slot ds → (t : Task) → Contains (fresh (blocks_in ds)) t → HasReason setup before work t
  block_reasons ds due t c =
      let one = fresh_one (blocks_in ds) t c in
      let from = contains_from_filter is_block ds one.0 one.1 in
      subst (λ (x : Task). HasReason setup before work x) one.2 (block_reason one.0 from.1 (due one.0 from.0))

  pub data_reasons : (ds : List Duty) → IsFound before work.slot ds → WasTime before setup.genesis_time work.slot (votes_start setup.genesis_time work.slot) → (t : Task) → Contains (data_tasks (votes_in ds)) t → HasReason setup before work t
  data_reasons ds due time t c =
      let one = data_one (votes_in ds) t c in
      let from = contains_from_filter (λ d. not (is_block d)) ds (duty.Vote one.0) one.1 in
      subst (λ (x : Task). HasReason setup before work x) one.2 (due (duty.Vote one.0) from.0, time)

-- ---- what follows of each

followed : {A : Type 0} (next : A → Ended → List Task) (xs : List A) (ends : List Ended) (t : Task) → Contains (tasks_by next xs ends) t → (x : A) × (e : Ended) × IsPair xs ends x e × Contains (next x e) t
followed next [] ends t c = contains_none t c
followed next (x ∷ xs) [] t c = contains_none t c
followed {A} next (x ∷ xs) (e ∷ ends) t c = by_cases (λ h. followed next xs ends t h) (Contains-append_cases (next x e) (tasks_by next xs ends) t c) where
  by_cases : (Contains (tasks_by next xs ends) t → (y : A) × (f : Ended) × IsPair xs ends y f × Contains (next y f) t) → Contains (next x e) t ⊎ Contains (tasks_by next xs ends) t
      → (y : A) × (f : Ended) × IsPair (x ∷ xs) (e ∷ ends) y f × Contains (next y f) t
  by_cases more (inl h) = (x, e, inl (refl, refl), h)
  by_cases more (inr h) = let one = more h in (one.0, one.1, inr one.2, one.3)

pub only_one : {A : Type 0} (x y : A) → Contains (x ∷ []) y → x ≡ y
only_one x y c = by_cases (contains_cases x [] y c) where
  by_cases : (x ≡ y) ⊎ Contains [] y → x ≡ y
  by_cases (inl e) = e
  by_cases (inr h) = contains_none y h

-- ---- votes

module _ (setup : DutySetup) (before : List TurnStep) (work : SlotWork) where
  -- a vote for what its answer went on with was answered by its committee's question
  was_answered : (place : ℕ) (tasks : List Task) (lanes : List (List DutyStep)) (told : List Ended) → Contains before (Works work place tasks, Worked lanes (Some told)) → (row : AttesterRow) (a : Ended) → a ≡ answer_of tasks told (duty.Vote row)
      → (details : AttestationData) → a.aggregation ≡ Some (votes.Voted details) → WasAnswered before work row details
  was_answered place tasks lanes told step row a from details is =
      let v = voted_by tasks told row details (ap (λ (x : Ended). x.aggregation) (sym from) ∙ is) in
      record {
        asked = v.asked;
        same = v.same;
        ended = v.ended;
        had = record { place = place; tasks = tasks; lanes = lanes; ends = told; step = step; pair = v.pair };
        goes_on = v.goes_on;
        own = v.own;
      }

  vote_reason : (row : AttesterRow) (a : Ended) (o : Option Aggregation) (t : Task) → WasDue before work.slot (duty.Vote row) → WasTime before setup.genesis_time work.slot (votes_start setup.genesis_time work.slot)
      → ((details : AttestationData) → a.aggregation ≡ Some (votes.Voted details) → WasAnswered before work row details) → a.aggregation ≡ o → Contains (vote_by (duty.Vote row) o) t → HasReason setup before work t
  vote_reason row a (Some (votes.Voted details)) t due time answered is c = subst (λ (x : Task). HasReason setup before work x) (only_one (task.Vote row details) t c) (due, time, answered details is)
  vote_reason row a (Some (votes.Chosen details proof)) t due time answered is c = contains_none t c
  vote_reason row a None t due time answered is c = contains_none t c

  pub vote_reasons : (ds : List Duty) (place : ℕ) (lanes : List (List DutyStep)) (told : List Ended) → IsFound before work.slot ds → WasTime before setup.genesis_time work.slot (votes_start setup.genesis_time work.slot)
      → Contains before (Works work place (data_tasks (votes_in ds)), Worked lanes (Some told)) → (t : Task) → Contains (vote_tasks (votes_in ds) (vote_answers (votes_in ds) told)) t → HasReason setup before work t
  vote_reasons ds place lanes told due time step t c =
      let tasks = data_tasks (votes_in ds) in
      let from = followed vote_task (votes_in ds) (vote_answers (votes_in ds) told) t c in
      let own = answer_pair (answer_of tasks told) ds from.0 from.1 from.2 in
      let P : Duty → Type 0 = λ d. Contains (vote_by d from.1.aggregation) t in
      vote_reason own.0 from.1 from.1.aggregation t (due (duty.Vote own.0) own.3) time (was_answered place tasks lanes told step own.0 from.1 own.2) refl (subst P own.1 from.3)

-- ---- how votes ended

-- of a vote it is known what is to be voted, if anything is
abbrev pub IsAskedBy : Duty → Option Aggregation → Type 0
IsAskedBy (duty.Vote row) o = IfSome o IsVoted
IsAskedBy (duty.Block row) o = ⊥

-- each of these is a vote, and nothing is left of its question, which goes on with data, if with anything
abbrev pub AreAsked : List Duty → List Ended → Type 0
AreAsked vs asked = (d : Duty) (a : Ended) → IsPair vs asked d a → (a.unsent ≡ None) × IsAskedBy d a.aggregation

pub are_asked : (work : SlotWork) (place : ℕ) (ds : List Duty) (lanes : List (List DutyStep)) (told : List Ended) → Fits (Works work place (data_tasks (votes_in ds))) (Worked lanes (Some told))
    → AreAsked (votes_in ds) (vote_answers (votes_in ds) told)
are_asked work place ds lanes told fit d a p =
    let tasks = data_tasks (votes_in ds) in
    let own = answer_pair (answer_of tasks told) ds d a p in
    let answer = answer_cases own.0 tasks told IsAnswer (λ by. (refl, tt)) (λ asked e pair same mine. let done = pair_done work place tasks lanes told (task.Data asked) e fit pair in data_answers work asked done.2.own e done.2.follows) in
    let mine : IsAnswer a = subst IsAnswer (sym own.2) answer in
    (mine.0, subst (λ (x : Duty). IsAskedBy x a.aggregation) (sym own.1) mine.1)

-- a question of this vote ended so, and the vote was not cast
abbrev WasUncast : List Duty → List Ended → Duty → Ended → Type 0
WasUncast vs asked d e = IsPair vs asked d e × (e.aggregation ≡ None)

-- this vote was cast, and ended so
record WasCast (tasks : List Task) (cast : List Ended) (d : Duty) (e : Ended) : Type 0 where
  row : AttesterRow
  details : AttestationData
  is : d ≡ duty.Vote row
  pair : IsPair tasks cast (task.Vote row details) e

cast_later : (t : Task) (tasks : List Task) (x : Ended) (cast : List Ended) (d : Duty) (e : Ended) → WasCast tasks cast d e → WasCast (t ∷ tasks) (x ∷ cast) d e
cast_later t tasks x cast d e h = record { row = h.row; details = h.details; is = h.is; pair = inr h.pair }

-- a vote ended as its question, where that goes on with nothing, or as it was cast
vote_ended : (vs : List Duty) (asked cast : List Ended) (d : Duty) (e : Ended) → AreAsked vs asked → length cast ≡ length (vote_tasks vs asked) → IsPair vs (vote_ends asked cast) d e
    → WasUncast vs asked d e ⊎ WasCast (vote_tasks vs asked) cast d e
vote_ended [] asked cast d e all each p = absurd p
vote_ended (v ∷ vs) [] cast d e all each p = absurd p
vote_ended (v ∷ vs) (a ∷ asked) cast d e all each p = by_cases v a.aggregation cast refl (all v a (inl (refl, refl))).1 (λ own n q. vote_ended vs asked own d e (λ x y r. all x y (inr r)) n q) each p where
  later : {A B : Type 0} → (x : Duty) → (A → B) → WasUncast vs asked d e ⊎ A → WasUncast (x ∷ vs) (a ∷ asked) d e ⊎ B
  later x next (inl h) = inl (inr h.0, h.1)
  later x next (inr h) = inr (next h)

  by_cases : (x : Duty) (o : Option Aggregation) (own : List Ended) → a.aggregation ≡ o → IsAskedBy x o
      → ((more : List Ended) → length more ≡ length (vote_tasks vs asked) → IsPair vs (vote_ends asked more) d e → WasUncast vs asked d e ⊎ WasCast (vote_tasks vs asked) more d e)
      → length own ≡ length (vote_by x o ++ vote_tasks vs asked) → IsPair (x ∷ vs) (end_by o a own ∷ vote_ends asked (ends_after o own)) d e
      → WasUncast (x ∷ vs) (a ∷ asked) d e ⊎ WasCast (vote_by x o ++ vote_tasks vs asked) own d e
  by_cases (duty.Vote row) None own is may rest n (inl q) = inl (inl q, subst (λ (y : Ended). y.aggregation ≡ None) q.1 is)
  by_cases (duty.Vote row) None own is may rest n (inr q) = later (duty.Vote row) (λ h. h) (rest own n q)
  by_cases (duty.Vote row) (Some (votes.Voted details)) [] is may rest n q = absurd (omega (arith, n))
  by_cases (duty.Vote row) (Some (votes.Voted details)) (c ∷ own) is may rest n (inl q) = inr (record { row = row; details = details; is = sym q.0; pair = inl (refl, q.1) })
  by_cases (duty.Vote row) (Some (votes.Voted details)) (c ∷ own) is may rest n (inr q) = later (duty.Vote row) (cast_later (task.Vote row details) (vote_tasks vs asked) c own d e) (rest own (omega (arith, n)) q)
  by_cases (duty.Vote row) (Some (votes.Chosen details proof)) own is may rest n q = absurd may
  by_cases (duty.Block row) o own is may rest n q = absurd may

-- ---- how duties ended

-- the first try of this duty ended so
pub record WasTried (before : List TurnStep) (work : SlotWork) (d : Duty) (e : Ended) : Type 0 where
  first : Task
  is : IsFirstTry d first
  had : HadEnd before work first e

-- nothing is left, and nothing follows
abbrev pub IsOver : Ended → Type 0
IsOver e = (e.unsent ≡ None) × (e.aggregation ≡ None)

-- each of these duties was tried, and that ended so, or nothing follows of its end
abbrev pub Had : List TurnStep → SlotWork → List Duty → List Ended → Type 0
Had before work ds ends = (d : Duty) (e : Ended) → IsPair ds ends d e → WasTried before work d e ⊎ IsOver e

pub had_more : (xs ys : List TurnStep) (work : SlotWork) (ds : List Duty) (ends : List Ended) → Had xs work ds ends → Had (xs ++ ys) work ds ends
had_more xs ys work ds ends h d e p = by_cases (h d e p) where
  by_cases : WasTried xs work d e ⊎ IsOver e → WasTried (xs ++ ys) work d e ⊎ IsOver e
  by_cases (inl tried) = inl (record { first = tried.first; is = tried.is; had = end_more xs ys work tried.first e tried.had })
  by_cases (inr done) = inr done

block_pair : (ds : List Duty) (ends : List Ended) (d : Duty) (e : Ended) → IsPair (blocks_in ds) ends d e → IsFirstTry d (task.Fresh d) × IsPair (fresh (blocks_in ds)) ends (task.Fresh d) e
block_pair [] ends d e p = absurd p
block_pair (duty.Vote v ∷ ds) ends d e p = block_pair ds ends d e p
block_pair (duty.Block b ∷ ds) [] d e p = absurd p
block_pair (duty.Block b ∷ ds) (x ∷ ends) d e (inl p) = (subst (λ (y : Duty). IsFirstTry y (task.Fresh y)) p.0 refl, inl (ap task.Fresh p.0, p.1))
block_pair (duty.Block b ∷ ds) (x ∷ ends) d e (inr p) = let more = block_pair ds ends d e p in (more.0, inr more.1)

pair_split : (xs ys : List Duty) (es fs : List Ended) (d : Duty) (e : Ended) → length es ≡ length (fresh xs) → IsPair (xs ++ ys) (es ++ fs) d e → IsPair xs es d e ⊎ IsPair ys fs d e
pair_split [] ys [] fs d e n p = inr p
pair_split [] ys (y ∷ es) fs d e n p = absurd (omega (arith, n))
pair_split (x ∷ xs) ys [] fs d e n p = absurd (omega (arith, n))
pair_split (x ∷ xs) ys (y ∷ es) fs d e n (inl p) = inl (inl p)
pair_split (x ∷ xs) ys (y ∷ es) fs d e n (inr p) = by_cases (pair_split xs ys es fs d e (omega (arith, n)) p) where
  by_cases : IsPair xs es d e ⊎ IsPair ys fs d e → IsPair (x ∷ xs) (y ∷ es) d e ⊎ IsPair ys fs d e
  by_cases (inl q) = inl (inr q)
  by_cases (inr q) = inr q

module _ (before : List TurnStep) (work : SlotWork) where
  block_had : (ds : List Duty) (place : ℕ) (lanes : List (List DutyStep)) (proposed : List Ended) → Contains before (Works work place (fresh (blocks_in ds)), Worked lanes (Some proposed)) → Had before work (blocks_in ds) proposed
  block_had ds place lanes proposed step d e p =
      let own = block_pair ds proposed d e p in
      inl (record { first = task.Fresh d; is = own.0; had = record { place = place; tasks = fresh (blocks_in ds); lanes = lanes; ends = proposed; step = step; pair = own.1 } })

  vote_had : (vs : List Duty) (asked : List Ended) (place : ℕ) (lanes : List (List DutyStep)) (cast : List Ended) → AreAsked vs asked → length cast ≡ length (vote_tasks vs asked) → Contains before (Works work place (vote_tasks vs asked), Worked lanes (Some cast))
      → Had before work vs (vote_ends asked cast)
  vote_had vs asked place lanes cast all each step d e p = by_cases (vote_ended vs asked cast d e all each p) where
    by_cases : WasUncast vs asked d e ⊎ WasCast (vote_tasks vs asked) cast d e → WasTried before work d e ⊎ IsOver e
    by_cases (inl h) = inr ((all d e h.0).0, h.1)
    by_cases (inr h) = inl (record {
      first = task.Vote h.row h.details;
      is = subst (λ (y : Duty). IsFirstTry y (task.Vote h.row h.details)) (sym h.is) (h.details, refl);
      had = record { place = place; tasks = vote_tasks vs asked; lanes = lanes; ends = cast; step = step; pair = h.pair };
    })

  pub had_both : (ds : List Duty) (asked : List Ended) (first second : ℕ) (made voted : List (List DutyStep)) (proposed cast : List Ended) → Contains before (Works work first (fresh (blocks_in ds)), Worked made (Some proposed))
      → length proposed ≡ length (fresh (blocks_in ds)) → AreAsked (votes_in ds) asked → Contains before (Works work second (vote_tasks (votes_in ds) asked), Worked voted (Some cast)) → length cast ≡ length (vote_tasks (votes_in ds) asked)
      → Had before work (blocks_in ds ++ votes_in ds) (proposed ++ vote_ends asked cast)
  had_both ds asked first second made voted proposed cast one each all two count d e p = by_cases (pair_split (blocks_in ds) (votes_in ds) proposed (vote_ends asked cast) d e each p) where
    by_cases : IsPair (blocks_in ds) proposed d e ⊎ IsPair (votes_in ds) (vote_ends asked cast) d e → WasTried before work d e ⊎ IsOver e
    by_cases (inl q) = block_had ds first made proposed one d e q
    by_cases (inr q) = vote_had (votes_in ds) asked second voted cast all count two d e q

-- ---- what is left

-- what is tried once more
abbrev pub Left : List TurnStep → SlotWork → Task → Type 0
Left before work (task.Again d unsent) = WasLeft before work d unsent
Left before work t = ⊥

module _ (before : List TurnStep) (work : SlotWork) where
  again_left : (d : Duty) (e : Ended) (o : Option Unsent) (t : Task) → e.unsent ≡ o → WasTried before work d e ⊎ IsOver e → Contains (again_by d o) t → Left before work t
  again_left d e None t is had c = contains_none t c
  again_left d e (Some unsent) t is (inl had) c = subst (λ (x : Task). Left before work x) (only_one (task.Again d unsent) t c) (record { first = had.first; is = had.is; ended = e; had = had.had; left = is })
  again_left d e (Some unsent) t is (inr done) c = absurd (let bad : None ≡ Some unsent = sym done.0 ∙ is in cc)

  pub left_all : (ds : List Duty) (ends : List Ended) → Had before work ds ends → (t : Task) → Contains (again_tasks ds ends) t → Left before work t
  left_all ds ends had t c = let from = followed again_of ds ends t c in again_left from.0 from.1 from.1.unsent t refl (had from.0 from.1 from.2) from.3

left_on : (xs ys : List TurnStep) (work : SlotWork) (t : Task) → Left xs work t → Left (xs ++ ys) work t
left_on xs ys work (task.Again d unsent) h = left_more_one xs ys work d unsent h
left_on xs ys work t h = absurd h

pub left_more : (xs ys : List TurnStep) (work : SlotWork) (tasks : List Task) → ((t : Task) → Contains tasks t → Left xs work t) → (t : Task) → Contains tasks t → Left (xs ++ ys) work t
left_more xs ys work tasks h t c = left_on xs ys work t (h t c)

pub left_reason : (setup : DutySetup) (before : List TurnStep) (work : SlotWork) (t : Task) → WasTime before setup.genesis_time work.slot (again_start setup.genesis_time work.slot) → Left before work t → HasReason setup before work t
left_reason setup before work (task.Again d unsent) time h = (time, h)
left_reason setup before work t time h = absurd h

-- ---- choices

module _ (setup : DutySetup) (before : List TurnStep) (work : SlotWork) where
  choice_reason : (d : Duty) (e : Ended) (o : Option Aggregation) (t : Task) → setup.aggregate ≡ true → e.aggregation ≡ o → WasTried before work d e ⊎ IsOver e → Contains (choice_by d o) t → HasReason setup before work t
  choice_reason (duty.Vote row) e (Some (votes.Voted details)) t wanted is (inl had) c =
      let got = subst (λ (k : Task). HadEnd before work k e) had.is.1 had.had in
      subst (λ (x : Task). HasReason setup before work x) (only_one (task.Choose row details) t c) (wanted, record { given = had.is.0; ended = e; had = got; goes_on = is })
  choice_reason (duty.Vote row) e (Some (votes.Voted details)) t wanted is (inr done) c = absurd (let bad : None ≡ Some (votes.Voted details) = sym done.1 ∙ is in cc)
  choice_reason (duty.Vote row) e (Some (votes.Chosen details proof)) t wanted is had c = contains_none t c
  choice_reason (duty.Vote row) e None t wanted is had c = contains_none t c
  choice_reason (duty.Block row) e o t wanted is had c = contains_none t c

  pub choice_reasons : (ds : List Duty) (ends : List Ended) → Had before work ds ends → (t : Task) → Contains (choices_of setup ds ends) t → HasReason setup before work t
  choice_reasons ds ends had t c = by setup.aggregate refl c where
    by : (b : Bool) → setup.aggregate ≡ b → Contains (if b then choose_tasks ds ends else []) t → HasReason setup before work t
    by true wanted h = let from = followed choice_of ds ends t h in choice_reason from.0 from.1 from.1.aggregation t wanted refl (had from.0 from.1 from.2) from.3
    by false wanted h = contains_none t h

-- ---- aggregates

-- what is published
abbrev pub Chose : List TurnStep → SlotWork → Task → Type 0
Chose before work (task.Aggregate row details proof) = WasChosen before work row details proof
Chose before work t = ⊥

aggregate_one : (before : List TurnStep) (work : SlotWork) (choice : Task) (e : Ended) (o : Option Aggregation) (t : Task) → e.aggregation ≡ o → HadEnd before work choice e → Contains (aggregate_by choice o) t → Chose before work t
aggregate_one before work (task.Choose row asked) e (Some (votes.Chosen details proof)) t is had c =
    subst (λ (x : Task). Chose before work x) (only_one (task.Aggregate row details proof) t c) (record { asked = asked; ended = e; had = had; goes_on = is })
aggregate_one before work (task.Choose row asked) e (Some (votes.Voted details)) t is had c = contains_none t c
aggregate_one before work (task.Choose row asked) e None t is had c = contains_none t c
aggregate_one before work choice e o t is had c = contains_none t c

pub aggregate_chose : (before : List TurnStep) (work : SlotWork) (place : ℕ) (choices : List Task) (lanes : List (List DutyStep)) (chosen : List Ended) → Contains before (Works work place choices, Worked lanes (Some chosen))
    → (t : Task) → Contains (aggregate_tasks choices chosen) t → Chose before work t
aggregate_chose before work place choices lanes chosen step t c =
    let from = followed aggregate_of choices chosen t c in
    aggregate_one before work from.0 from.1 from.1.aggregation t refl (record { place = place; tasks = choices; lanes = lanes; ends = chosen; step = step; pair = from.2 }) from.3

chose_on : (xs ys : List TurnStep) (work : SlotWork) (t : Task) → Chose xs work t → Chose (xs ++ ys) work t
chose_on xs ys work (task.Aggregate row details proof) h = chosen_more xs ys work row details proof h
chose_on xs ys work t h = absurd h

pub chose_all : (xs ys : List TurnStep) (work : SlotWork) (tasks : List Task) → ((t : Task) → Contains tasks t → Chose xs work t) → (t : Task) → Contains tasks t → Chose (xs ++ ys) work t
chose_all xs ys work tasks h t c = chose_on xs ys work t (h t c)

pub chose_reason : (setup : DutySetup) (before : List TurnStep) (work : SlotWork) (t : Task) → WasTime before setup.genesis_time work.slot (aggregates_start setup.genesis_time work.slot) → Chose before work t → HasReason setup before work t
chose_reason setup before work (task.Aggregate row details proof) time h = (time, h)
chose_reason setup before work t time h = absurd h
