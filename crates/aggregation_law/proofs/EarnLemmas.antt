-- Each aggregate that is posted is earned.
use Rattle.std.proofs.Common.{◌≡◌, ◌⊎◌, inl, inr, ℕ, true, List, [], ◌∷◌, ◌++◌, Option, Some, Result, sym, ◌∙◌, subst}
use Rattle.std.specs.Prelude.{Contains, IfSome}
use Rattle.std.proofs.lemmas.List.Elements.{Contains-append_cases}
use Rattle.edge_kit.specs.declared.bytes.Sig.{Sig}
use Rattle.phase0_types.specs.declared.attestation.AttestationData.{AttestationData}
use Rattle.protect_record.proofs.MemberLemmas.{contains_first, contains_later, contains_none}
use Rattle.phase0_blocks.specs.declared.signed.Signed.{Signed}
use Rattle.duty_types.specs.declared.aggregate.AggregateAndProof.{AggregateAndProof}
use Rattle.desk_machine.specs.declared.open_grant.OpenGrant.{OpenGrant}
use Rattle.node_calls.specs.declared.answer.AttesterRow.{AttesterRow}
use Rattle.node_calls.specs.declared.ask.Ask.TheVariants as ask
use Rattle.node_calls.specs.declared.post.Post.TheVariants as post
use Rattle.duty_schedule.specs.Aggregators.{is_aggregator}
use Rattle.duty_schedule.specs.declared.rows.Duty.{Duty}
use Rattle.duty_schedule.specs.declared.rows.Duty.TheVariants as duty
use Rattle.call_plans.specs.Plans.{Ask as Step, Done, Stop, Follows}
use Rattle.duty_plans.specs.declared.ended.Aggregation.{Aggregation}
use Rattle.duty_plans.specs.declared.ended.Aggregation.TheVariants as votes
use Rattle.duty_plans.specs.declared.ended.Ended.{Ended}
use Rattle.duty_plans.specs.declared.ended.Unsent.{Unsent}
use Rattle.duty_plans.specs.declared.setup.DutySetup.{DutySetup}
use Rattle.duty_plans.specs.declared.task.Task.{Task}
use Rattle.duty_plans.specs.declared.task.Task.TheVariants as task
use Rattle.duty_plans.specs.declared.work.SlotWork.{SlotWork}
use Rattle.duty_plans.specs.Ends.{is_repeated}
use Rattle.duty_plans.specs.Guards.{granted_in}
use Rattle.duty_plans.specs.Owning.{IsOwn}
use Rattle.duty_plans.specs.Repeats.{GoesOnWith, HadLeave}
use Rattle.duty_plans.specs.Steps.{DutyCall, DutyStep, Answered, Asks, Posts, desk_calls}
use Rattle.duty_plans.specs.Tasks.{IsOwnTask, IsOwnUnsent, duty_of, owner_of, unsent_message}
use Rattle.duty_plans.proofs.AggregateLemmas.{cast_goes, task_goes}
use Rattle.duty_plans.proofs.DutyLemmas.{task_own}
use Rattle.duty_plans.proofs.LeftLemmas.{task_left}
use Rattle.duty_turns.specs.declared.held.DutyEnd.{DutyEnd}
use Rattle.duty_turns.specs.Standing.{Standing}
use Rattle.duty_turns.specs.TurnSteps.{TurnCall, TurnPlan, TurnReply, TurnStep, Fits, Worked, Works}
use Rattle.duty_turns.specs.Turns.{turns_plan}
use Rattle.aggregation_law.specs.Earned.{AreEarned, IsEarned, IsEarnedCall, IsEarnedStep, WasProved, WasSaid}
use Rattle.aggregation_law.specs.Reasons.{AreReasoned, GotData, HadEnd, HasReason, IsPair, IsReasoned, WasAnswered, WasChosen, WasDue, WasLeft}
use Rattle.aggregation_law.proofs.LaneLemmas.{AllFit, call_at, lane_step, took}
use Rattle.aggregation_law.proofs.SoundLemmas.{turns_reasoned}
use Rattle.aggregation_law.proofs.TaskLemmas.{only_one, reason_more}

pair_among : (tasks : List Task) (ends : List Ended) (t : Task) (e : Ended) → IsPair tasks ends t e → Contains tasks t
pair_among [] ends t e p = absurd p
pair_among (x ∷ tasks) [] t e p = absurd p
pair_among (x ∷ tasks) (y ∷ ends) t e (inl p) = subst (λ (k : Task). Contains (x ∷ tasks) k) p.0 (contains_first x tasks)
pair_among (x ∷ tasks) (y ∷ ends) t e (inr p) = contains_later x tasks t (pair_among tasks ends t e p)

same_data : (x y : AttestationData) → Some (votes.Voted x) ≡ Some (votes.Voted y) → x ≡ y
same_data x y h = cc

module _ (setup : DutySetup) where
  -- each task that was done in these steps had a reason in them
  abbrev AllReasons : List TurnStep → Type 0
  AllReasons steps = (work : SlotWork) (place : ℕ) (tasks : List Task) (r : TurnReply) (t : Task) → Contains steps (Works work place tasks, r) → Contains tasks t → HasReason setup steps work t

  module _ (before : List TurnStep) (fit : AllFit before) (all : AllReasons before) (work : SlotWork) where
    reason_of : (t : Task) (e : Ended) → HadEnd before work t e → HasReason setup before work t
    reason_of t e h = all work h.place h.tasks (Worked h.lanes (Some h.ends)) t h.step (pair_among h.tasks h.ends t e h.pair)

    -- what a vote for data with which its committee's question went on rests on
    record Rests (row : AttesterRow) (details : AttestationData) : Type 0 where
      due : WasDue before work.slot (duty.Vote row)
      said : WasSaid before work row details

    answered_of : (row : AttesterRow) (details : AttestationData) → WasDue before work.slot (duty.Vote row) → WasAnswered before work row details → Rests row details
    answered_of row details due a =
        let own = took before fit work (task.Data a.asked) a.ended a.had in
        let P : Option Aggregation → Type 0 = λ o. IfSome o (GoesOnWith work (task.Data a.asked) own.own) in
        let with_it = subst P a.goes_on (task_goes work (task.Data a.asked) own.own a.ended tt own.follows) in
        let Asked : ℕ → Type 0 = λ i. Contains own.own (Asks (ask.Data work.slot i), Answered with_it.1.tried) in
        record {
          due = due;
          said = record { own = own.own; taken = own.taken; tried = with_it.1.tried; asked = subst Asked a.same with_it.1.asked; said = with_it.1.said; same = a.own };
        }

    -- so a vote that was cast does
    cast_of : (row : AttesterRow) (details : AttestationData) (e : Ended) → HadEnd before work (task.Vote row details) e → Rests row details
    cast_of row details e had = let why = reason_of (task.Vote row details) e had in answered_of row details why.0 why.2

    got_of : (row : AttesterRow) (details : AttestationData) → GotData before work row details → Rests row details
    got_of row details g =
        let own = took before fit work (task.Vote row g.given) g.ended g.had in
        let same = same_data g.given details (sym (cast_goes work row g.given own.own g.ended own.follows) ∙ g.goes_on) in
        subst (λ (x : AttestationData). Rests row x) same (cast_of row g.given g.ended g.had)

    -- what a choice rests on
    record Chosen (row : AttesterRow) (details : AttestationData) (proof : Sig) : Type 0 where
      wanted : setup.aggregate ≡ true
      due : WasDue before work.slot (duty.Vote row)
      said : WasSaid before work row details
      proved : WasProved before work row proof
      chosen : is_aggregator proof row.committee_length ≡ true

    chosen_of : (row : AttesterRow) (details : AttestationData) (proof : Sig) → WasChosen before work row details proof → Chosen row details proof
    chosen_of row details proof c =
        let why = reason_of (task.Choose row c.asked) c.ended c.had in
        let got = got_of row c.asked why.1 in
        let own = took before fit work (task.Choose row c.asked) c.ended c.had in
        let goes = task_goes work (task.Choose row c.asked) own.own c.ended got.said.same own.follows in
        let P : Option Aggregation → Type 0 = λ o. IfSome o (GoesOnWith work (task.Choose row c.asked) own.own) in
        let with_it = subst P c.goes_on goes in
        record {
          wanted = why.0;
          due = got.due;
          said = subst (λ (x : AttestationData). WasSaid before work row x) (sym with_it.0) got.said;
          proved = record { own = own.own; taken = own.taken; proved = with_it.2 };
          chosen = with_it.1;
        }

    -- what is left of a task that is own is its duty's
    left_own : (t : Task) (e : Ended) (unsent : Unsent) → IsOwnTask work.altair t → HadEnd before work t e → e.unsent ≡ Some unsent → IsOwnUnsent work.altair (duty_of t) unsent
    left_own t e unsent is_own had is =
        let own = took before fit work t e had in
        let left = task_left work t own.own e is_own own.follows in
        let P : Option Unsent → Type 0 = λ o. IfSome o (λ x. (is_repeated e.result ≡ true) × IsOwnUnsent work.altair (duty_of t) x × HadLeave (granted_in (desk_calls own.own)) (owner_of (duty_of t)) (unsent_message work.domains x)) in
        (subst P is left).1

    again_own : (d : Duty) (unsent : Unsent) → WasLeft before work d unsent → IsOwnUnsent work.altair d unsent
    again_own (duty.Block row) unsent h = left_own (task.Fresh (duty.Block row)) h.ended unsent tt (subst (λ (t : Task). HadEnd before work t h.ended) h.is h.had) h.left
    again_own (duty.Vote row) unsent h =
        let had = subst (λ (t : Task). HadEnd before work t h.ended) h.is.1 h.had in
        left_own (task.Vote row h.is.0) h.ended unsent (cast_of row h.is.0 h.ended had).said.same had h.left

    -- each task that has a reason is own
    own_task : (t : Task) → HasReason setup before work t → IsOwnTask work.altair t
    own_task (task.Fresh d) h = tt
    own_task (task.Again d unsent) h = again_own d unsent h.1
    own_task (task.Data row) h = tt
    own_task (task.Vote row details) h = h.2.own
    own_task (task.Choose row details) h = (got_of row details h.1).said.same
    own_task (task.Aggregate row details proof) h = let c = chosen_of row details proof h.1 in (c.said.same, c.chosen)

    earned_post : (t : Task) (grant : OpenGrant) (signed : Signed AggregateAndProof) → HasReason setup before work t → IsOwn work t (Posts grant (post.Aggregate signed)) → IsEarned setup before work grant signed.message
    earned_post (task.Aggregate row details proof) grant signed h own =
        let c = chosen_of row details proof h.1 in
        record { row = row; details = details; proof = proof; wanted = c.wanted; time = h.0; due = c.due; said = c.said; proved = c.proved; chosen = c.chosen; own = own.0; leave = own.1 }
    earned_post (task.Fresh (duty.Block row)) grant signed h own = absurd own
    earned_post (task.Fresh (duty.Vote row)) grant signed h own = absurd own
    earned_post (task.Again (duty.Block row) unsent) grant signed h own = absurd own
    earned_post (task.Again (duty.Vote row) unsent) grant signed h own = absurd own
    earned_post (task.Data row) grant signed h own = absurd own
    earned_post (task.Vote row details) grant signed h own = absurd own
    earned_post (task.Choose row details) grant signed h own = absurd own

    earned_call : (t : Task) (c : DutyCall) → HasReason setup before work t → IsOwn work t c → IsEarnedCall setup before work c
    earned_call t (Posts grant (post.Aggregate signed)) h own = earned_post t grant signed h own
    earned_call t c h own = tt

    earned_works : (place : ℕ) (tasks : List Task) (lanes : List (List DutyStep)) (ends : Option (List Ended)) → Fits (Works work place tasks) (Worked lanes ends) → IsReasoned setup before (Works work place tasks)
        → IsEarnedStep setup before (Works work place tasks, Worked lanes ends)
    earned_works place tasks lanes ends fits may lane s in_lane in_steps =
        let one = lane_step work place tasks ends lanes lane s fits.0 in_lane in_steps in
        let why = may one.one one.among in
        let own = task_own work one.one one.own one.ended (own_task one.one why) one.follows in
        earned_call one.one s.0 why (call_at (IsOwn work one.one) one.own s own one.is_in)

  earned_one : (before : List TurnStep) → AllFit before → AllReasons before → (c : TurnCall) (r : TurnReply) → Fits c r → IsReasoned setup before c → IsEarnedStep setup before (c, r)
  earned_one before fit all (Works work place tasks) (Worked lanes ends) fits may = earned_works before fit all work place tasks lanes ends fits may
  earned_one before fit all c r fits may = tt

  -- ---- step after step

  fit_on : (before : List TurnStep) (s : TurnStep) → AllFit before → Fits s.0 s.1 → AllFit (before ++ s ∷ [])
  fit_on before s fit fits c r h = by_cases (Contains-append_cases before (s ∷ []) (c, r) h) where
    by_cases : Contains before (c, r) ⊎ Contains (s ∷ []) (c, r) → Fits c r
    by_cases (inl there) = fit c r there
    by_cases (inr here) = subst (λ (x : TurnStep). Fits x.0 x.1) (only_one s (c, r) here) fits

  reasons_on : (before : List TurnStep) (s : TurnStep) → AllReasons before → IsReasoned setup before s.0 → AllReasons (before ++ s ∷ [])
  reasons_on before s all may work place tasks r t h among = by_cases (Contains-append_cases before (s ∷ []) (Works work place tasks, r) h) where
    by_cases : Contains before (Works work place tasks, r) ⊎ Contains (s ∷ []) (Works work place tasks, r) → HasReason setup (before ++ s ∷ []) work t
    by_cases (inl there) = reason_more setup before (s ∷ []) work t (all work place tasks r t there among)
    by_cases (inr here) =
        let P : TurnStep → Type 0 = λ x. IsReasoned setup before x.0 in
        reason_more setup before (s ∷ []) work t (subst P (only_one s (Works work place tasks, r) here) may t among)

  abbrev EachFits : List TurnStep → Type 0
  EachFits [] = Unit {0}
  EachFits (s ∷ steps) = Fits s.0 s.1 × EachFits steps

  each_fits : {X : Type 0} (p : TurnPlan X) (steps : List TurnStep) (v : Option X) → Follows Fits p steps v → EachFits steps
  each_fits p [] v f = tt
  each_fits (Done x) (s ∷ steps) v f = absurd f
  each_fits Stop (s ∷ steps) v f = absurd f
  each_fits (Step c k) (s ∷ steps) v f =
      let P : TurnCall → Type 0 = λ d. Fits d s.1 in
      (subst P (sym f.0) f.1, each_fits (k s.1) steps v f.2)

  earn : (before steps : List TurnStep) → AllFit before → AllReasons before → EachFits steps → AreReasoned setup before steps → AreEarned setup before steps
  earn before [] fit all fits may = tt
  earn before (s ∷ steps) fit all fits may =
      (earned_one before fit all s.0 s.1 fits.0 may.0, earn (before ++ s ∷ []) steps (fit_on before s fit fits.0) (reasons_on before s all may.0) fits.1 may.1)

pub turns_earned : (setup : DutySetup) (n : ℕ) (s : Standing) (steps : List TurnStep) (v : Option (Result (Unit {0}) DutyEnd)) → Follows Fits (turns_plan setup n s) steps v → AreEarned setup [] steps
turns_earned setup n s steps v f =
    earn setup [] steps (λ c r h. contains_none (c, r) h) (λ work place tasks r t h among. contains_none (Works work place tasks, r) h) (each_fits setup (turns_plan setup n s) steps v f) (turns_reasoned setup n s steps v f)
