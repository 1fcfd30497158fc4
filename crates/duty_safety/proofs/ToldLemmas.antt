-- A turn that drops nothing tells of all that was due.
use Rattle.std.proofs.Common.{◌≡◌, ◌+◌, ℕ, suc, Bool, true, false, List, [], ◌∷◌, ◌++◌, length, map, Option, Some, None, Ok, Err, refl, sym, ◌∙◌, ap, subst, arith, append_assoc}
use Rattle.std.specs.Prelude.{if◌then◌else◌}
use Rattle.std.proofs.lemmas.List.{length-append, length-map}
use Rattle.edge_kit.specs.declared.bytes.PubKey.{PubKey}
use Rattle.slash_defs.specs.declared.message.Message.{Message}
use Rattle.desk_machine.specs.declared.call.DeskCall.{DeskCall}
use Rattle.desk_machine.specs.declared.call.DeskCall.TheVariants as call
use Rattle.desk_machine.specs.declared.call.DeskReply.{DeskReply}
use Rattle.desk_machine.specs.declared.call.DeskReply.TheVariants as reply
use Rattle.node_calls.specs.declared.answer.AttesterRow.{AttesterRow}
use Rattle.node_calls.specs.declared.answer.ProposerRow.{ProposerRow}
use Rattle.duty_schedule.specs.Answers.{TakenAnswer}
use Rattle.duty_schedule.specs.Due.{IsDue}
use Rattle.duty_schedule.specs.declared.rows.Duty.{Duty}
use Rattle.duty_schedule.specs.declared.rows.Duty.TheVariants as duty
use Rattle.call_plans.specs.Plans.{Ask as Step, Done, Stop, Follows}
use Rattle.call_plans.proofs.PlanLemmas.{follows_split}
use Rattle.duty_plans.proofs.SlotLemmas.{each_done}
use Rattle.duty_plans.specs.Steps.{Calls, DutyStep, Replies}
use Rattle.duty_plans.specs.declared.ended.Ended.{Ended}
use Rattle.duty_plans.specs.declared.result.DutyResult.{DutyResult}
use Rattle.duty_plans.specs.declared.task.Task.{Task}
use Rattle.duty_plans.specs.declared.task.Task.TheVariants as task
use Rattle.duty_plans.specs.Choices.{aggregate_tasks, ends_after, reports}
use Rattle.duty_plans.specs.Ends.{left_after, merged, results_of}
use Rattle.duty_plans.specs.Tasks.{again_tasks, fresh}
use Rattle.duty_plans.specs.Votes.{answer_of, data_tasks, vote_answers, vote_ends, vote_tasks}
use Rattle.duty_plans.specs.declared.setup.DutySetup.{DutySetup}
use Rattle.duty_plans.specs.declared.work.SlotWork.{SlotWork}
use Rattle.duty_turns.specs.declared.held.DutyEnd.TheVariants as end
use Rattle.duty_turns.specs.Lanes.{DidShares, HasEach, dealt}
use Rattle.duty_turns.specs.Lines.{aggregate_lines, duty_lines}
use Rattle.duty_turns.specs.Recording.{allowed_of, recorded}
use Rattle.duty_turns.specs.Standing.{Standing}
use Rattle.duty_turns.specs.Times.{again_start, aggregates_start, is_first_slot, next_slot, slot_start, votes_start}
use Rattle.duty_turns.specs.TurnSteps.{Fits, TurnCall, TurnPlan, TurnReply, TurnStep, LooksUp, Own, Owned, Refreshes, RefreshesLanes, Waits, Works, Writes, Due, Refreshed, LanesRefreshed, Woke, Worked, Wrote}
use Rattle.duty_turns.specs.Turns.{Next, NextPlan, active_of, asked_plan, at_slot, blocks_in, calls, casts, casts_for, choices_of, finish_plan, lanes_refreshed, own_reply, puts, records, records_allowed, records_votes, refreshed, refreshes, refreshes_lanes, is_worth_compacting, report_plan, shortens, sized, unless_short, votes_in, waits, with_active, woken, work_of, works}
use Rattle.duty_safety.specs.OnTime.{AllWaits, IsWait, Wait, again_on_time, aggregates_on_time, cast_plan, chooses_on_time, done_plan, gathers_on_time, left_on_time, listed_on_time, on_time_turn, ready_on_time, told_on_time, tried_on_time}
use Rattle.duty_safety.specs.Told.{AllDone, AllTold, AreGathered, AreKept, ArePublished, AreRecorded, AreTried, EachDoneIn, ToldIfNext}
use Rattle.duty_safety.proofs.AskedLemmas.{At, asked_stays}

-- ---- what follows a call

stop_never : {X : Type 0} (steps : List TurnStep) (x : X) → Follows Fits Stop steps (Some x) → ⊥
stop_never [] x h = h
stop_never (s ∷ steps) x h = h

-- each lane's share of the tasks was done
each_lane : (work : SlotWork) (lanes lane place : ℕ) (tasks : List Task) (ends : List Ended) (made : List (List DutyStep)) → DidShares work place tasks (Some ends) lanes lane made
    → EachDoneIn work lanes lane place tasks ends made
each_lane work lanes lane place tasks ends [] h = tt
each_lane work lanes lane place tasks ends (steps ∷ others) h =
    (each_done work (dealt lanes lane place tasks) steps (dealt lanes lane place ends) h.0, each_lane work lanes (lane + 1) place tasks ends others h.1)

works_so : {X : Type 0} (work : SlotWork) (place : ℕ) (tasks : List Task) (f : List Ended → TurnPlan X) (steps : List TurnStep) (x : X) → Follows Fits (works work place tasks f) steps (Some x)
    → (made : List (List DutyStep)) × (ends : List Ended) × (rest : List TurnStep) × (steps ≡ (Works work place tasks, Worked made (Some ends)) ∷ rest)
    × AllDone work place tasks made ends × HasEach tasks (Some ends) × Follows Fits (f ends) rest (Some x)
works_so work place tasks f [] x h = absurd h
works_so work place tasks f ((c, Worked made (Some ends)) ∷ rest) x h =
    let all : AllDone work place tasks made ends = record { some = h.1.2; each = each_lane work (length made) 0 place tasks ends made h.1.0 } in
    (made, ends, rest, ap (λ (d : TurnCall). (d, Worked made (Some ends)) ∷ rest) h.0, all, h.1.1, h.2)
works_so work place tasks f ((c, r) ∷ rest) x h = absurd (stop_never rest x h.2)

waits_so : {X : Type 0} (moment : ℕ) (f : ℕ → TurnPlan X) (steps : List TurnStep) (x : X) → Follows Fits (waits moment f) steps (Some x)
    → (reached : ℕ) × (rest : List TurnStep) × (steps ≡ (Waits moment, Woke reached) ∷ rest) × Follows Fits (f reached) rest (Some x)
waits_so moment f [] x h = absurd h
waits_so moment f ((c, Woke reached) ∷ rest) x h = (reached, rest, ap (λ (d : TurnCall). (d, Woke reached) ∷ rest) h.0, h.2)
waits_so moment f ((c, r) ∷ rest) x h = absurd (stop_never rest x h.2)

-- the desk replied to a call of the loop's own
calls_so : {X : Type 0} (c : DeskCall) (f : DeskReply → TurnPlan X) (steps : List TurnStep) (x : X) → Follows Fits (calls c f) steps (Some x)
    → (r : DeskReply) × (rest : List TurnStep) × (steps ≡ (Own (Calls c), Owned (Replies r)) ∷ rest) × Follows Fits (f r) rest (Some x)
calls_so c f [] x h = absurd h
calls_so c f ((d, Owned (Replies r)) ∷ rest) x h = (r, rest, ap (λ (e : TurnCall). (e, Owned (Replies r)) ∷ rest) h.0, h.2)
calls_so c f ((d, r) ∷ rest) x h = absurd h.1

unless_short_so : {X : Type 0} (r : DeskReply) (next : TurnPlan X) (steps : List TurnStep) (x : X) → Follows Fits (unless_short r next) steps (Some x) → Follows Fits next steps (Some x)
unless_short_so reply.OutOfMemory next steps x h = absurd (stop_never steps x h)
unless_short_so r next steps x h = h

not_next : (steps : List TurnStep) (t : Standing) → Follows Fits (Done (Err end.Write)) steps (Some (Ok t)) → ⊥
not_next [] t h = cc
not_next (s ∷ steps) t h = h

-- a text was written whole, and it went on
puts_so : (text : List ℕ) (next : NextPlan) (steps : List TurnStep) (t : Standing) → Follows Fits (puts text next) steps (Some (Ok t))
    → (rest : List TurnStep) × (steps ≡ (Writes text, Wrote true text) ∷ rest) × Follows Fits next rest (Some (Ok t))
puts_so text next [] t h = absurd h
puts_so text next ((c, Wrote true piece) ∷ rest) t h =
    (rest, ap (λ (d : TurnCall). (d, Wrote true piece) ∷ rest) h.0 ∙ ap (λ (p : List ℕ). (Writes text, Wrote true p) ∷ rest) h.1, h.2)
puts_so text next ((c, r) ∷ rest) t h = absurd (not_next rest t h.2)

-- ---- votes that are recorded together, and then cast

-- the first of these steps are such, and the others follow a plan
record Split {X : Type 0} (kind : List TurnStep → Type 0) (next : TurnPlan X) (steps : List TurnStep) (x : X) : Type 0 where
  front : List TurnStep
  rest : List TurnStep
  are : steps ≡ front ++ rest
  is : kind front
  on : Follows Fits next rest (Some x)

records_so : {X : Type 0} (now : ℕ) (ms : List (PubKey × Message)) (next : TurnPlan X) (steps : List TurnStep) (x : X) → Follows Fits (records now ms next) steps (Some x) → Split (AreKept now ms) next steps x
records_so now [] next steps x h = record { front = []; rest = steps; are = refl; is = refl; on = h }
records_so now (m ∷ ms) next steps x h =
    let kept = calls_so (call.Record (m ∷ ms) now) (λ r. unless_short r next) steps x h in
    let step : TurnStep = (Own (Calls (call.Record (m ∷ ms) now)), Owned (Replies kept.0)) in
    record { front = step ∷ []; rest = kept.1; are = kept.2; is = (kept.0, refl); on = unless_short_so kept.0 next kept.1 x kept.3 }

-- the desk told how all keys stand, and was asked to keep the messages of those that may sign
told_so : {X : Type 0} (work : SlotWork) (t : Task) (tasks : List Task) (r : DeskReply) (next : TurnPlan X) (steps rest : List TurnStep) (x : X) → steps ≡ (Own (Calls call.Keys), Owned (Replies r)) ∷ rest
    → Follows Fits (records_allowed work (t ∷ tasks) r next) rest (Some x) → Split (AreRecorded work (t ∷ tasks)) next steps x
told_so work t tasks (reply.Keys listed) next steps rest x e h =
    let kept = records_so work.moment (recorded work.domains (allowed_of listed) (t ∷ tasks)) next rest x h in
    let step : TurnStep = (Own (Calls call.Keys), Owned (Replies (reply.Keys listed))) in
    record { front = step ∷ kept.front; rest = kept.rest; are = e ∙ ap (λ (l : List TurnStep). step ∷ l) kept.are; is = (listed, kept.front, refl, kept.is); on = kept.on }
told_so work t tasks r next steps rest x e h = absurd (stop_never rest x h)

recorded_so : {X : Type 0} (work : SlotWork) (tasks : List Task) (next : TurnPlan X) (steps : List TurnStep) (x : X) → Follows Fits (records_votes work tasks next) steps (Some x) → Split (AreRecorded work tasks) next steps x
recorded_so work [] next steps x h = record { front = []; rest = steps; are = refl; is = refl; on = h }
recorded_so work (t ∷ tasks) next steps x h =
    let told = calls_so call.Keys (λ r. records_allowed work (t ∷ tasks) r next) steps x h in
    told_so work t tasks told.0 next steps told.1 x told.2 told.3

record Cast {X : Type 0} (work : SlotWork) (place : ℕ) (votes : List Duty) (f : List Ended → TurnPlan X) (steps : List TurnStep) (x : X) : Type 0 where
  asking : List (List DutyStep)
  told : List Ended
  asked : List Ended
  records : List TurnStep
  voting : List (List DutyStep)
  cast : List Ended
  rest : List TurnStep
  are : steps ≡ (Works work place (data_tasks votes), Worked asking (Some told)) ∷ (records ++ (Works work place (vote_tasks votes asked), Worked voting (Some cast)) ∷ rest)
  questions : AllDone work place (data_tasks votes) asking told
  answers_are : asked ≡ vote_answers votes told
  each : length asked ≡ length votes
  kept : AreRecorded work (vote_tasks votes asked) records
  done : AllDone work place (vote_tasks votes asked) voting cast
  on : Follows Fits (f (vote_ends asked cast)) rest (Some x)

-- a step, then some, and then another step
step_between : (a b : TurnStep) (p q m r s : List TurnStep) → p ≡ a ∷ q → q ≡ m ++ r → r ≡ b ∷ s → p ≡ a ∷ (m ++ b ∷ s)
step_between a b p q m r s e f g = cc

casts_so : {X : Type 0} (work : SlotWork) (place : ℕ) (votes : List Duty) (f : List Ended → TurnPlan X) (steps : List TurnStep) (x : X) → Follows Fits (casts work place votes f) steps (Some x) → Cast work place votes f steps x
casts_so {X} work place votes f steps x h =
    let told = works_so work place (data_tasks votes) (λ ends. casts_for work place votes f (vote_answers votes ends)) steps x h in
    let asked = vote_answers votes told.1 in
    let tasks = vote_tasks votes asked in
    let after : List Ended → TurnPlan X = λ cast. f (vote_ends asked cast) in
    let kept = recorded_so work tasks (works work place tasks after) told.2 x told.6 in
    let cast = works_so work place tasks after kept.rest x kept.on in
    let first : TurnStep = (Works work place (data_tasks votes), Worked told.0 (Some told.1)) in
    let second : TurnStep = (Works work place tasks, Worked cast.0 (Some cast.1)) in
    record {
      asking = told.0;
      told = told.1;
      asked = asked;
      records = kept.front;
      voting = cast.0;
      cast = cast.1;
      rest = cast.2;
      are = step_between first second steps told.2 kept.front kept.rest cast.2 told.3 kept.are cast.3;
      questions = told.4;
      answers_are = refl;
      each = length-map votes (answer_of (data_tasks votes) told.1);
      kept = kept.is;
      done = cast.4;
      on = cast.6;
    }

-- ---- blocks and votes are all that is due

blocks_of : (bs : List ProposerRow) (vs : List AttesterRow) → blocks_in (map duty.Block bs ++ map duty.Vote vs) ≡ map duty.Block bs
blocks_of [] [] = refl
blocks_of [] (v ∷ vs) = blocks_of [] vs
blocks_of (b ∷ bs) vs = ap (λ l. duty.Block b ∷ l) (blocks_of bs vs)

votes_of : (bs : List ProposerRow) (vs : List AttesterRow) → votes_in (map duty.Block bs ++ map duty.Vote vs) ≡ map duty.Vote vs
votes_of [] [] = refl
votes_of [] (v ∷ vs) = ap (λ l. duty.Vote v ∷ l) (votes_of [] vs)
votes_of (b ∷ bs) vs = votes_of bs vs

all_due : (answers : List TakenAnswer) (slot : ℕ) (active : List PubKey) (ds : List Duty) → IsDue answers slot active ds → blocks_in ds ++ votes_in ds ≡ ds
all_due answers slot active ds due =
    let P : List Duty → Type 0 = λ l. blocks_in l ++ votes_in l ≡ l in
    let bs = map duty.Block due.blocks in
    subst P (sym due.are_both) (ap (λ l. l ++ votes_in (bs ++ map duty.Vote due.votes)) (blocks_of due.blocks due.votes) ∙ ap (λ l. bs ++ l) (votes_of due.blocks due.votes))

-- one end each
fresh_count : (ds : List Duty) (ends : List Ended) → length ends ≡ length (fresh ds) → length ends ≡ length ds
fresh_count ds ends h = h ∙ length-map ds task.Fresh

vote_count : (asked cast : List Ended) → length (vote_ends asked cast) ≡ length asked
vote_count [] cast = refl
vote_count (e ∷ asked) cast = ap suc (vote_count asked (ends_after e.aggregation cast))

as_many : (ds : List Duty) (proposed asked cast : List Ended) → length proposed ≡ length (fresh (blocks_in ds)) → length asked ≡ length (votes_in ds) → blocks_in ds ++ votes_in ds ≡ ds
    → length (proposed ++ vote_ends asked cast) ≡ length ds
as_many ds proposed asked cast left right all =
    let both = ap (λ (l : List Duty). length l) all in
    let one = fresh_count (blocks_in ds) proposed left in
    let two : length (vote_ends asked cast) ≡ length (votes_in ds) = vote_count asked cast ∙ right in
    omega (arith, length-append proposed (vote_ends asked cast), length-append (blocks_in ds) (votes_in ds))

count_merged : (ends again : List Ended) → length (merged ends again) ≡ length ends
count_merged [] again = refl
count_merged (e ∷ ends) again = ap suc (count_merged ends (left_after e.unsent again))

tried_count : (setup : DutySetup) (slot : ℕ) (work : SlotWork) (ends : List Ended) (tasks : List Task) (steps : List TurnStep) (results : List DutyResult) → AreTried setup slot work ends tasks steps results
    → length results ≡ length ends
tried_count setup slot work ends [] steps results h = ap (λ (l : List DutyResult). length l) h.1 ∙ length-map ends (λ e. e.result)
tried_count setup slot work ends (t ∷ tasks) steps results h = ap (λ (l : List DutyResult). length l) h.6 ∙ count_merged ends h.2

-- ---- aggregates

-- what was published of these tasks, and that a line of each choice was written; more may follow
record Reported (setup : DutySetup) (s : Standing) (choices : List Task) (chosen : List Ended) (tasks : List Task) (steps : List TurnStep) : Type 0 where
  published : List TurnStep
  ends : List Ended
  behind : List TurnStep
  are : steps ≡ published ++ (Writes (aggregate_lines s.slot choices (reports chosen ends)), Wrote true (aggregate_lines s.slot choices (reports chosen ends))) ∷ behind
  done : ArePublished setup s.slot (work_of setup s) tasks published ends

two_steps : (a b : TurnStep) (p q r : List TurnStep) → p ≡ a ∷ q → q ≡ b ∷ r → p ≡ (a ∷ b ∷ []) ++ r
two_steps a b p q r e f = e ∙ ap (λ (l : List TurnStep). a ∷ l) f

reported_so : (setup : DutySetup) (s : Standing) (choices : List Task) (chosen : List Ended) (tasks : List Task) (steps : List TurnStep) (t : Standing) → Follows Fits (gathers_on_time setup s choices chosen tasks) steps (Some (Ok t))
    → Reported setup s choices chosen tasks steps
reported_so setup s choices chosen [] steps t f =
    let last = at_slot (next_slot s.slot) s in
    let text = aggregate_lines s.slot choices (reports chosen []) in
    let put = puts_so text (finish_plan setup s.slot last) steps t f in
    record { published = []; ends = []; behind = put.0; are = put.1; done = (refl, refl) }
reported_so setup s choices chosen (k ∷ tasks) steps t f =
    let moment = aggregates_start setup.genesis_time s.slot in
    let work = work_of setup s in
    let last = at_slot (next_slot s.slot) s in
    let woke = waits_so moment (λ reached. aggregates_on_time setup s choices chosen (k ∷ tasks)) steps (Ok t) f in
    let ended = works_so work 0 (k ∷ tasks) (λ ends. report_plan setup s.slot choices (reports chosen ends) last) woke.1 (Ok t) woke.3 in
    let text = aggregate_lines s.slot choices (reports chosen ended.1) in
    let put = puts_so text (finish_plan setup s.slot last) ended.2 t ended.6 in
    let first : TurnStep = (Waits moment, Woke woke.0) in
    let second : TurnStep = (Works work 0 (k ∷ tasks), Worked ended.0 (Some ended.1)) in
    record {
      published = first ∷ second ∷ [];
      ends = ended.1;
      behind = put.0;
      are = two_steps first second steps woke.1 ((Writes text, Wrote true text) ∷ put.0) woke.2 (ended.3 ∙ ap (λ (l : List TurnStep). second ∷ l) put.1);
      done = (woke.0, ended.0, refl, ended.4, ended.5);
    }

record Gathered (setup : DutySetup) (s : Standing) (choices : List Task) (steps : List TurnStep) : Type 0 where
  gathers : List TurnStep
  behind : List TurnStep
  are : steps ≡ gathers ++ behind
  gathered : AreGathered setup s.slot (work_of setup s) choices gathers

-- a step, then some, a last one, and more
one_more : (a b : TurnStep) (p q xs r : List TurnStep) → p ≡ a ∷ q → q ≡ xs ++ b ∷ r → p ≡ (a ∷ (xs ++ b ∷ [])) ++ r
one_more a b p q xs r e f = e ∙ ap (λ (l : List TurnStep). a ∷ l) (f ∙ sym (append_assoc xs (b ∷ []) r))

gathered_so : (setup : DutySetup) (s : Standing) (choices : List Task) (steps : List TurnStep) (t : Standing) → Follows Fits (chooses_on_time setup s choices) steps (Some (Ok t)) → Gathered setup s choices steps
gathered_so setup s [] steps t f = record { gathers = []; behind = steps; are = refl; gathered = refl }
gathered_so setup s (c ∷ choices) steps t f =
    let work = work_of setup s in
    let made = works_so work 0 (c ∷ choices) (λ chosen. gathers_on_time setup s (c ∷ choices) chosen (aggregate_tasks (c ∷ choices) chosen)) steps (Ok t) f in
    let told = reported_so setup s (c ∷ choices) made.1 (aggregate_tasks (c ∷ choices) made.1) made.2 t made.6 in
    let text = aggregate_lines s.slot (c ∷ choices) (reports made.1 told.ends) in
    let first : TurnStep = (Works work 0 (c ∷ choices), Worked made.0 (Some made.1)) in
    let last : TurnStep = (Writes text, Wrote true text) in
    record {
      gathers = first ∷ (told.published ++ last ∷ []);
      behind = told.behind;
      are = one_more first last steps made.2 told.published told.behind made.3 told.are;
      gathered = (made.0, made.1, told.published, told.ends, text, refl, made.4, made.5, told.done, refl);
    }

-- ---- what was left

record Closed (setup : DutySetup) (s : Standing) (ds : List Duty) (ends : List Ended) (tasks : List Task) (steps : List TurnStep) : Type 0 where
  tries : List TurnStep
  results : List DutyResult
  gathers : List TurnStep
  behind : List TurnStep
  are : steps ≡ tries ++ (Writes (duty_lines s.slot ds results), Wrote true (duty_lines s.slot ds results)) ∷ (gathers ++ behind)
  tried : AreTried setup s.slot (work_of setup s) ends tasks tries results
  gathered : AreGathered setup s.slot (work_of setup s) (choices_of setup ds ends) gathers

-- a line of each duty was written, and aggregates followed
record Lined (setup : DutySetup) (s : Standing) (ds : List Duty) (ends : List Ended) (results : List DutyResult) (steps : List TurnStep) : Type 0 where
  gathers : List TurnStep
  behind : List TurnStep
  are : steps ≡ (Writes (duty_lines s.slot ds results), Wrote true (duty_lines s.slot ds results)) ∷ (gathers ++ behind)
  gathered : AreGathered setup s.slot (work_of setup s) (choices_of setup ds ends) gathers

lined_so : (setup : DutySetup) (s : Standing) (ds : List Duty) (ends : List Ended) (results : List DutyResult) (steps : List TurnStep) (t : Standing) → Follows Fits (told_on_time setup s ds ends results) steps (Some (Ok t)) → Lined setup s ds ends results steps
lined_so setup s ds ends results steps t f =
    let text = duty_lines s.slot ds results in
    let choices = choices_of setup ds ends in
    let put = puts_so text (chooses_on_time setup s choices) steps t f in
    let all = gathered_so setup s choices put.0 t put.2 in
    record { gathers = all.gathers; behind = all.behind; are = put.1 ∙ ap (λ (l : List TurnStep). (Writes text, Wrote true text) ∷ l) all.are; gathered = all.gathered }

closed_so : (setup : DutySetup) (s : Standing) (ds : List Duty) (ends : List Ended) (tasks : List Task) (steps : List TurnStep) (t : Standing) → Follows Fits (left_on_time setup s ds ends tasks) steps (Some (Ok t)) → Closed setup s ds ends tasks steps
closed_so setup s ds ends [] steps t f =
    let lined = lined_so setup s ds ends (results_of ends) steps t f in
    record { tries = []; results = results_of ends; gathers = lined.gathers; behind = lined.behind; are = lined.are; tried = (refl, refl); gathered = lined.gathered }
closed_so setup s ds ends (k ∷ tasks) steps t f =
    let moment = again_start setup.genesis_time s.slot in
    let work = work_of setup s in
    let woke = waits_so moment (λ reached. tried_on_time setup s ds ends (k ∷ tasks)) steps (Ok t) f in
    let again = works_so work 0 (k ∷ tasks) (λ a. told_on_time setup s ds ends (merged ends a)) woke.1 (Ok t) woke.3 in
    let lined = lined_so setup s ds ends (merged ends again.1) again.2 t again.6 in
    let text = duty_lines s.slot ds (merged ends again.1) in
    let first : TurnStep = (Waits moment, Woke woke.0) in
    let second : TurnStep = (Works work 0 (k ∷ tasks), Worked again.0 (Some again.1)) in
    record {
      tries = first ∷ second ∷ [];
      results = merged ends again.1;
      gathers = lined.gathers;
      behind = lined.behind;
      are = two_steps first second steps woke.1 ((Writes text, Wrote true text) ∷ (lined.gathers ++ lined.behind)) woke.2 (again.3 ∙ ap (λ (l : List TurnStep). second ∷ l) lined.are);
      tried = (woke.0, again.0, again.1, refl, again.4, again.5, refl);
      gathered = lined.gathered;
    }

-- ---- from the look-up on

-- steps after one another
in_order : (o a b c d : TurnStep) (p q r m s t : List TurnStep) → p ≡ a ∷ q → q ≡ b ∷ r → r ≡ c ∷ (m ++ d ∷ s) → s ≡ t → o ∷ p ≡ o ∷ a ∷ b ∷ c ∷ (m ++ d ∷ t)
in_order o a b c d p q r m s t e f g h = cc

told_due : (setup : DutySetup) (s : Standing) (active : List PubKey) (ds : List Duty) (steps : List TurnStep) (t : Standing) → IsDue s.answers s.slot active ds → Follows Fits (done_plan setup s ds) steps (Some (Ok t))
    → AllTold setup s.slot ((LooksUp s.answers s.slot active, Due ds) ∷ steps)
told_due setup s active ds steps t due f =
    let work = work_of setup s in
    let moment = votes_start setup.genesis_time s.slot in
    let place = length (blocks_in ds) in
    let both : List Duty = blocks_in ds ++ votes_in ds in
    let blocks = works_so work 0 (fresh (blocks_in ds)) (λ proposed. waits moment (λ reached. cast_plan setup s ds proposed)) steps (Ok t) f in
    let woke = waits_so moment (λ reached. cast_plan setup s ds blocks.1) blocks.2 (Ok t) blocks.6 in
    let votes = casts_so work place (votes_in ds) (λ ends. again_on_time setup s both (blocks.1 ++ ends)) woke.1 (Ok t) woke.3 in
    let ends : List Ended = blocks.1 ++ vote_ends votes.asked votes.cast in
    let close = closed_so setup s both ends (again_tasks both ends) votes.rest t votes.on in
    let text = duty_lines s.slot both close.results in
    let all = all_due s.answers s.slot active ds due in
    let tried = subst (λ (l : List Duty). AreTried setup s.slot work ends (again_tasks l ends) close.tries close.results) all close.tried in
    let gathered = subst (λ (l : List Duty). AreGathered setup s.slot work (choices_of setup l ends) close.gathers) all close.gathered in
    let looked : TurnStep = (LooksUp s.answers s.slot active, Due ds) in
    let first : TurnStep = (Works work 0 (fresh (blocks_in ds)), Worked blocks.0 (Some blocks.1)) in
    let second : TurnStep = (Waits moment, Woke woke.0) in
    let third : TurnStep = (Works work place (data_tasks (votes_in ds)), Worked votes.asking (Some votes.told)) in
    let fourth : TurnStep = (Works work place (vote_tasks (votes_in ds) votes.asked), Worked votes.voting (Some votes.cast)) in
    record {
      front = [];
      answers = s.answers;
      active = active;
      due = ds;
      work = work;
      made = blocks.0;
      proposed = blocks.1;
      reached = woke.0;
      asking = votes.asking;
      told = votes.told;
      asked = votes.asked;
      records = votes.records;
      voting = votes.voting;
      cast = votes.cast;
      tries = close.tries;
      results = close.results;
      text = text;
      gathers = close.gathers;
      behind = close.behind;
      are = in_order looked first second third fourth steps blocks.2 woke.1 votes.records votes.rest (close.tries ++ (Writes text, Wrote true text) ∷ (close.gathers ++ close.behind)) blocks.3 woke.2 votes.are close.are;
      found = due;
      work_slot = refl;
      blocks = blocks.4;
      questions = votes.questions;
      answers_are = votes.answers_are;
      kept = votes.kept;
      votes = votes.done;
      tried = tried;
      lines = ap (λ (l : List Duty). duty_lines s.slot l close.results) all;
      gathered = gathered;
      each = tried_count setup s.slot work ends (again_tasks ds ends) close.tries close.results tried ∙ as_many ds blocks.1 votes.asked votes.cast blocks.5 votes.each all;
    }

-- ---- up to the look-up

-- what a plan's steps tell, where it gives a value
abbrev Tells : DutySetup → ℕ → NextPlan → Type 0
Tells setup slot p = (steps : List TurnStep) (x : Next) → Follows Fits p steps (Some x) → ToldIfNext setup slot steps x

more_told : (setup : DutySetup) (slot : ℕ) (xs ys : List TurnStep) (x : Next) → ToldIfNext setup slot ys x → ToldIfNext setup slot (xs ++ ys) x
more_told setup slot xs ys (Err ended) h = tt
more_told setup slot xs ys (Ok t) h = record {
  front = xs ++ h.front;
  answers = h.answers;
  active = h.active;
  due = h.due;
  work = h.work;
  made = h.made;
  proposed = h.proposed;
  reached = h.reached;
  asking = h.asking;
  told = h.told;
  asked = h.asked;
  records = h.records;
  voting = h.voting;
  cast = h.cast;
  tries = h.tries;
  results = h.results;
  text = h.text;
  gathers = h.gathers;
  behind = h.behind;
  are = ap (λ (l : List TurnStep). xs ++ l) h.are ∙ sym (append_assoc xs h.front _);
  found = h.found;
  work_slot = h.work_slot;
  blocks = h.blocks;
  questions = h.questions;
  answers_are = h.answers_are;
  kept = h.kept;
  votes = h.votes;
  tried = h.tried;
  lines = h.lines;
  gathered = h.gathered;
  each = h.each;
}

module _ (setup : DutySetup) (slot : ℕ) where
  stop_tells : Tells setup slot Stop
  stop_tells steps x h = absurd (stop_never steps x h)

  ask_tells : (c : TurnCall) (k : TurnReply → NextPlan) → ((r : TurnReply) → Tells setup slot (k r)) → Tells setup slot (Step c k)
  ask_tells c k on [] x h = absurd h
  ask_tells c k on (s ∷ steps) x h = more_told setup slot (s ∷ []) steps x (on s.1 steps x h.2)

  if_tells : (b : Bool) (p q : NextPlan) → Tells setup slot p → Tells setup slot q → Tells setup slot (if b then p else q)
  if_tells true p q h k = h
  if_tells false p q h k = k

  done_tells : (steps : List TurnStep) (x : Next) → Follows Fits (Done (Err end.Write)) steps (Some x) → ToldIfNext setup slot steps x
  done_tells steps (Err ended) h = tt
  done_tells steps (Ok t) h = absurd (not_next steps t h)

  unless_short_tells : (r : DeskReply) (p : NextPlan) → Tells setup slot p → Tells setup slot (unless_short r p)
  unless_short_tells reply.OutOfMemory p h = stop_tells
  unless_short_tells r p h = h

  sized_tells : (r : DeskReply) (p : NextPlan) → Tells setup slot p → Tells setup slot (sized r p)
  sized_tells (reply.Size size weight) p h = if_tells (is_worth_compacting size weight) (calls call.Compact (λ r. unless_short r p)) p
      (ask_tells (Own (Calls call.Compact)) (λ r. unless_short (own_reply r) p) (λ r. unless_short_tells (own_reply r) p h)) h
  sized_tells r p h = stop_tells

  shortens_tells : (s : Standing) (p : NextPlan) → Tells setup slot p → Tells setup slot (shortens s p)
  shortens_tells s p h = if_tells (is_first_slot s.slot) (calls call.Size (λ r. sized r p)) p
      (ask_tells (Own (Calls call.Size)) (λ r. sized (own_reply r) p) (λ r. sized_tells (own_reply r) p h)) h

  refreshed_tells : (r : TurnReply) (p : NextPlan) → Tells setup slot p → Tells setup slot (refreshed r p)
  refreshed_tells (Refreshed true replies) p h = h
  refreshed_tells r p h = stop_tells

  lanes_refreshed_tells : (r : TurnReply) (p : NextPlan) → Tells setup slot p → Tells setup slot (lanes_refreshed r p)
  lanes_refreshed_tells (LanesRefreshed true replies) p h = h
  lanes_refreshed_tells r p h = stop_tells

  woken_tells : (r : TurnReply) (p : NextPlan) → Tells setup slot p → Tells setup slot (woken r (λ reached. p))
  woken_tells (Woke reached) p h = h
  woken_tells r p h = stop_tells

  ready_tells : (active : List PubKey) (o : Option Standing) → At slot o → Tells setup slot (ready_on_time setup active o)
  ready_tells active None e steps x h = done_tells steps x h
  ready_tells active (Some s) e steps (Err ended) h = tt
  ready_tells active (Some s) e [] (Ok t) h = absurd h
  ready_tells active (Some s) e ((c, Due ds) ∷ steps) (Ok t) h =
      let told = told_due setup (with_active active s) active ds steps t h.1 h.2 in
      let P : TurnCall → Type 0 = λ d. AllTold setup s.slot ((d, Due ds) ∷ steps) in
      let Q : ℕ → Type 0 = λ n. AllTold setup n ((c, Due ds) ∷ steps) in
      subst Q e (subst P (sym h.0) told)
  ready_tells active (Some s) e ((c, r) ∷ steps) (Ok t) h = absurd (stop_never steps (Ok t) h.2)

abbrev Always : Wait
Always moment reached = Unit {0}

always : (steps : List TurnStep) → AllWaits Always steps
always [] = tt
always ((c, r) ∷ steps) = (one c r, always steps) where
  one : (d : TurnCall) (q : TurnReply) → IsWait Always (d, q)
  one (Waits moment) (Woke reached) = tt
  one d q = tt

listed_tells : (setup : DutySetup) (s : Standing) (r : DeskReply) → Tells setup s.slot (listed_on_time setup s r)
listed_tells setup s (reply.Keys listed) steps x h =
    let active = active_of listed in
    let split = follows_split Fits (asked_plan setup listed active s) (ready_on_time setup active) steps x h in
    let at = (asked_stays Always s.slot setup listed active s refl split.0 (Some split.2) split.4 (always split.0)).1 in
    let P : List TurnStep → Type 0 = λ l. ToldIfNext setup s.slot l x in
    subst P (sym split.3) (more_told setup s.slot split.0 split.1 x (ready_tells setup s.slot active split.2 at split.1 x split.5))
listed_tells setup s r steps x h = absurd (stop_never steps x h)

turn_tells : (setup : DutySetup) (s : Standing) → Tells setup s.slot (on_time_turn setup s)
turn_tells setup s =
    let listed = calls call.Keys (listed_on_time setup s) in
    let rest = refreshes_lanes (shortens s listed) in
    let part = refreshes rest in
    ask_tells setup s.slot (Waits (slot_start setup.genesis_time s.slot)) (λ r. woken r (λ reached. part)) (λ r. woken_tells setup s.slot r part
    (ask_tells setup s.slot Refreshes (λ q. refreshed q rest) (λ q. refreshed_tells setup s.slot q rest
    (ask_tells setup s.slot RefreshesLanes (λ q. lanes_refreshed q (shortens s listed)) (λ q. lanes_refreshed_tells setup s.slot q (shortens s listed) (shortens_tells setup s.slot s listed
    (ask_tells setup s.slot (Own (Calls call.Keys)) (λ w. listed_on_time setup s (own_reply w)) (λ w. listed_tells setup s (own_reply w)))))))))

pub all_told : (setup : DutySetup) (s : Standing) (steps : List TurnStep) (t : Standing) → Follows Fits (on_time_turn setup s) steps (Some (Ok t)) → AllTold setup s.slot steps
all_told setup s steps t f = turn_tells setup s steps (Ok t) f
