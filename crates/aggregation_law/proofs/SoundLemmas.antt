-- Turns, whose tasks each have a reason in the steps before.
use Rattle.std.proofs.Common.{◌≡◌, ℕ, zero, suc, Bool, true, false, List, [], ◌∷◌, ◌++◌, length, Option, Some, None, Result, Ok, Err, refl, sym, subst, append_assoc, append-nil}
use Rattle.std.specs.Prelude.{if◌then◌else◌, Contains}
use Rattle.std.proofs.lemmas.List.Elements.{Contains-append_left, Contains-append_right}
use Rattle.edge_kit.specs.declared.bytes.PubKey.{PubKey}
use Rattle.slash_defs.specs.declared.book.Book.{Book}
use Rattle.slash_defs.specs.declared.book.File.{File}
use Rattle.slash_defs.specs.declared.message.Message.{Message}
use Rattle.protect_record.proofs.MemberLemmas.{contains_first}
use Rattle.desk_machine.specs.declared.call.KeyStanding.{KeyStanding}
use Rattle.desk_machine.specs.declared.call.DeskCall.{DeskCall}
use Rattle.desk_machine.specs.declared.call.DeskCall.TheVariants as call
use Rattle.desk_machine.specs.declared.call.DeskReply.{DeskReply}
use Rattle.desk_machine.specs.declared.call.DeskReply.TheVariants as reply
use Rattle.node_calls.specs.declared.ask.Ask.{Ask}
use Rattle.node_calls.specs.declared.ask.Ask.TheVariants as ask
use Rattle.node_calls.specs.declared.answer.Answer.{Answer}
use Rattle.node_calls.specs.declared.answer.Answer.TheVariants as answer
use Rattle.node_fallback.specs.declared.no_node.NoAnswer.{NoAnswer}
use Rattle.node_fallback.specs.declared.no_node.NoAnswer.TheVariants as none
use Rattle.duty_schedule.specs.declared.rows.Duty.{Duty}
use Rattle.call_plans.specs.Plans.{Done, Stop, Ask as Step, bind, Follows}
use Rattle.call_plans.proofs.PlanLemmas.{cut_now}
use Rattle.duty_pruning.specs.Pruning.{pruning_file}
use Rattle.duty_plans.specs.Steps.{Asks, Calls, DutyStep}
use Rattle.duty_plans.specs.declared.ended.Ended.{Ended}
use Rattle.duty_plans.specs.declared.result.DutyResult.{DutyResult}
use Rattle.duty_plans.specs.declared.task.Task.{Task}
use Rattle.duty_plans.specs.Choices.{aggregate_tasks, reports}
use Rattle.duty_plans.specs.Ends.{merged, results_of}
use Rattle.duty_plans.specs.Tasks.{again_tasks, fresh}
use Rattle.duty_plans.specs.Votes.{data_tasks, vote_answers, vote_ends, vote_tasks}
use Rattle.duty_plans.specs.declared.setup.DutySetup.{DutySetup}
use Rattle.duty_plans.specs.declared.work.SlotWork.{SlotWork}
use Rattle.duty_turns.specs.Lines.{aggregate_lines, duty_lines, none_line}
use Rattle.duty_turns.specs.Recording.{allowed_of, recorded}
use Rattle.duty_turns.specs.Standing.{Standing, indices_of, with_attesters, with_fork, with_indices, with_proposers}
use Rattle.duty_turns.specs.Times.{again_start, aggregates_start, epoch_of, is_first_slot, is_missed, next_slot, slot_start, votes_start}
use Rattle.duty_turns.specs.TurnSteps.{TurnCall, TurnPlan, TurnReply, TurnStep, Fits, Due, LanesRefreshed, LooksUp, Own, Refreshed, Refreshes, RefreshesLanes, Waits, Woke, Worked, Works, Writes, Wrote}
use Rattle.duty_turns.specs.Turns.{Next, NextPlan, PartPlan, active_of, after_wait, again_plan, aggregates_plan, left_plan, tried_plan, answered_plan, ask_plan, asked_plan, asks, at_moment, at_slot, attesters_plan, blocks_in, by_32, calls, casts, casts_for, choices_of, chooses_plan, close_plan, due_plan, duties_plan, epoch_plan, epochs_plan, exported, exports, failed_plan, finish_plan, found, gathers_plan, index_plan, is_worth_compacting, keys_of_turn, lanes_refreshed, listed_plan, lived_plan, liveness_plan, merges, missing_epochs, missing_keys, next_turn, noted, notes_of, notes_plan, on_standing, own_answer, own_reply, prunes, puts, ready_plan, records, records_allowed, records_votes, refreshed, refreshes, refreshes_lanes, renew_plan, renewed_now, renewed_plan, renews, report_plan, shortens, sized, then_on, to_renew, told_plan, turn_plan, turns_plan, unless_short, voters_plan, votes_in, votes_plan, waits, watch_plan, with_active, woken, woken_plan, work_of, worked, works, writes, written, wrote}
use Rattle.duty_turns.specs.declared.held.DutyEnd.{DutyEnd}
use Rattle.duty_turns.specs.declared.held.DutyEnd.TheVariants as end
use Rattle.aggregation_law.specs.Reasons.{AreReasoned, HasReason, IsReasoned, WasTime}
use Rattle.aggregation_law.proofs.TaskLemmas.{AreAsked, Chose, Had, IsFound, Left, aggregate_chose, are_asked, block_reasons, choice_reasons, chose_all, chose_reason, data_reasons, due_found, due_more, had_both, had_more, left_all, left_more, left_reason, time_more, vote_reasons}

module _ (setup : DutySetup) where
  -- whatever steps of the plan are taken after these, each task has its reason
  abbrev So : {X : Type 0} → List TurnStep → TurnPlan X → Type 0
  So {X} before p = (steps : List TurnStep) (v : Option X) → Follows Fits p steps v → AreReasoned setup before steps

  -- after any steps
  abbrev Sound : {X : Type 0} → TurnPlan X → Type 0
  Sound p = (before : List TurnStep) → So before p

  abbrev IsIdle : TurnCall → Type 0
  IsIdle c = (before : List TurnStep) → IsReasoned setup before c

  done_sound : {X : Type 0} (x : X) → Sound (Done x)
  done_sound x before [] v f = tt
  done_sound x before (s ∷ steps) v f = absurd f

  stop_sound : {X : Type 0} → Sound {X = X} Stop
  stop_sound before [] v f = tt
  stop_sound before (s ∷ steps) v f = absurd f

  ask_so : {X : Type 0} (before : List TurnStep) (c : TurnCall) (k : TurnReply → TurnPlan X) → IsReasoned setup before c → ((r : TurnReply) → Fits c r → So (before ++ (c, r) ∷ []) (k r)) → So before (Step c k)
  ask_so before c k may on [] v f = tt
  ask_so before c k may on ((d, r) ∷ steps) v f =
      let P : TurnCall → Type 0 = λ e. AreReasoned setup before ((e, r) ∷ steps) in
      subst P (sym f.0) (may, on r f.1 steps v f.2)

  ask_sound : {X : Type 0} (c : TurnCall) (k : TurnReply → TurnPlan X) → IsIdle c → ((r : TurnReply) → Sound (k r)) → Sound (Step c k)
  ask_sound c k may on before = ask_so before c k (may before) (λ r fit. on r (before ++ (c, r) ∷ []))

  bind_so : {X Y : Type 0} (before : List TurnStep) (p : TurnPlan X) (next : X → TurnPlan Y) → So before p
      → ((mid : List TurnStep) (x : X) → Follows Fits p mid (Some x) → So (before ++ mid) (next x)) → So before (bind p next)
  bind_so before (Done x) next h on steps v f =
      let P : List TurnStep → Type 0 = λ l. So l (next x) in
      subst P (append-nil before) (on [] x refl) steps v f
  bind_so before Stop next h on steps v f = stop_sound before steps v f
  bind_so before (Step c k) next h on [] v f = tt
  bind_so {X} before (Step c k) next h on ((d, r) ∷ steps) v f =
      let P : TurnCall → Type 0 = λ e. AreReasoned setup before ((e, r) ∷ steps) in
      let Q : X → List TurnStep → Type 0 = λ x l. So l (next x) in
      let first = h ((c, r) ∷ []) None (refl, f.1, cut_now Fits (k r)) in
      let later : So (before ++ (c, r) ∷ []) (k r) = λ more w g. (h ((c, r) ∷ more) w (refl, f.1, g)).1 in
      let rest = bind_so (before ++ (c, r) ∷ []) (k r) next later (λ mid x g. subst (Q x) (sym (append_assoc before ((c, r) ∷ []) mid)) (on ((c, r) ∷ mid) x (refl, f.1, g))) steps v f.2 in
      subst P (sym f.0) (first.0, rest)

  if_sound : {X : Type 0} (b : Bool) (p q : TurnPlan X) → Sound p → Sound q → Sound (if b then p else q)
  if_sound true p q h k = h
  if_sound false p q h k = k

  -- ---- one call, and then by its reply

  refreshed_sound : {X : Type 0} (next : TurnPlan X) → Sound next → (r : TurnReply) → Sound (refreshed r next)
  refreshed_sound next h (Refreshed true replies) = h
  refreshed_sound next h r = stop_sound

  lanes_refreshed_sound : {X : Type 0} (next : TurnPlan X) → Sound next → (r : TurnReply) → Sound (lanes_refreshed r next)
  lanes_refreshed_sound next h (LanesRefreshed true replies) = h
  lanes_refreshed_sound next h r = stop_sound

  refreshes_sound : {X : Type 0} (next : TurnPlan X) → Sound next → Sound (refreshes next)
  refreshes_sound next h = ask_sound Refreshes (λ r. refreshed r next) (λ before. tt) (refreshed_sound next h)

  refreshes_lanes_sound : {X : Type 0} (next : TurnPlan X) → Sound next → Sound (refreshes_lanes next)
  refreshes_lanes_sound next h = ask_sound RefreshesLanes (λ r. lanes_refreshed r next) (λ before. tt) (lanes_refreshed_sound next h)

  asks_sound : {X : Type 0} (a : Ask) (next : Result Answer NoAnswer → TurnPlan X) → ((r : Result Answer NoAnswer) → Sound (next r)) → Sound (asks a next)
  asks_sound a next h = ask_sound (Own (Asks a)) (λ r. next (own_answer r)) (λ before. tt) (λ r. h (own_answer r))

  calls_sound : {X : Type 0} (c : DeskCall) (next : DeskReply → TurnPlan X) → IsIdle (Own (Calls c)) → ((r : DeskReply) → Sound (next r)) → Sound (calls c next)
  calls_sound c next may h = ask_sound (Own (Calls c)) (λ r. next (own_reply r)) may (λ r. h (own_reply r))

  -- ---- what is asked of the nodes outside the duties

  written_part : (p : PartPlan) → Sound p → (r : TurnReply) → Sound (written r p)
  written_part p h (Wrote true piece) = h
  written_part p h r = done_sound None

  line_part : (text : List ℕ) (s : Standing) → Sound {X = Option Standing} (writes text (Done (Some s)))
  line_part text s = ask_sound (Writes text) (λ r. written r (Done (Some s))) (λ before. tt) (written_part (Done (Some s)) (done_sound (Some s)))

  on_part : (next : Standing → PartPlan) → ((s : Standing) → Sound (next s)) → (o : Option Standing) → Sound (on_standing next o)
  on_part next h (Some s) = h s
  on_part next h None = done_sound None

  then_part : (p : PartPlan) (next : Standing → PartPlan) → Sound p → ((s : Standing) → Sound (next s)) → Sound (then_on p next)
  then_part p next h on before = bind_so before p (on_standing next) (h before) (λ mid o f. on_part next on o (before ++ mid))

  answered_part : (take_in : Answer → Standing → Standing) (without s : Standing) (r : Result Answer NoAnswer) → Sound (answered_plan take_in without s r)
  answered_part take_in without s (Ok a) = done_sound (Some (take_in a s))
  answered_part take_in without s (Err (none.NoNode causes)) = line_part (none_line s.slot) without
  answered_part take_in without s (Err none.OutOfMemory) = stop_sound

  ask_part : (a : Ask) (take_in : Answer → Standing → Standing) (without s : Standing) → Sound (ask_plan a take_in without s)
  ask_part a take_in without s = asks_sound a (answered_plan take_in without s) (answered_part take_in without s)

  index_part : (groups : List (List PubKey)) (s : Standing) → Sound (index_plan groups s)
  index_part [] s = done_sound (Some s)
  index_part (keys ∷ more) s = then_part (ask_plan (ask.Validators keys) with_indices (to_renew s) s) (index_plan more) (ask_part (ask.Validators keys) with_indices (to_renew s) s) (index_part more)

  renewed_part : (active : List PubKey) (s : Standing) → Sound (renewed_plan active s)
  renewed_part active s =
      let groups = by_32 (length active) active in
      if_sound (renews active s) (renew_plan active s) (Done (Some s))
      (then_part (ask_plan ask.Fork with_fork (to_renew s) (renewed_now s)) (index_plan groups) (ask_part ask.Fork with_fork (to_renew s) (renewed_now s)) (index_part groups)) (done_sound (Some s))

  attesters_part : (at : ℕ) (indices : List ℕ) (s : Standing) → Sound (attesters_plan at indices s)
  attesters_part at [] s = done_sound (Some s)
  attesters_part at (i ∷ indices) s = ask_part (ask.Attester at (i ∷ indices)) (with_attesters at (i ∷ indices)) s s

  duties_part : (active : List PubKey) (s : Standing) → Sound (duties_plan active s)
  duties_part active s =
      let at = epoch_of s.slot in
      then_part (ask_plan (ask.Proposer at) (with_proposers at) s s) (voters_plan active) (ask_part (ask.Proposer at) (with_proposers at) s s)
      (λ t. attesters_part (epoch_of t.slot) (indices_of t.indices active) t)

  noted_part : (p : PartPlan) → Sound p → (r : DeskReply) → Sound (noted r p)
  noted_part p h reply.OutOfMemory = stop_sound
  noted_part p h r = h

  notes_part : (at now : ℕ) (notes : List (PubKey × Bool)) (s : Standing) → Sound (notes_plan at now notes s)
  notes_part at now [] s = done_sound (Some s)
  notes_part at now (n ∷ notes) s =
      let rest = notes_plan at now notes s in
      calls_sound (call.Answer n.0 at n.1 now) (λ r. noted r rest) (λ before. tt) (noted_part rest (notes_part at now notes s))

  lived_part : (at now : ℕ) (keys : List PubKey) (s : Standing) (r : Result Answer NoAnswer) → Sound (lived_plan at now keys s r)
  lived_part at now keys s (Ok (answer.Liveness rows)) = notes_part at now (notes_of s.indices keys rows) s
  lived_part at now keys s (Ok a) = stop_sound
  lived_part at now keys s (Err (none.NoNode causes)) = line_part (none_line s.slot) s
  lived_part at now keys s (Err none.OutOfMemory) = stop_sound

  liveness_part : (at now : ℕ) (keys : List PubKey) (indices : List ℕ) (s : Standing) → Sound (liveness_plan at now keys indices s)
  liveness_part at now keys [] s = done_sound (Some s)
  liveness_part at now keys (i ∷ indices) s = asks_sound (ask.Liveness at (i ∷ indices)) (lived_plan at now keys s) (lived_part at now keys s)

  epochs_part : (now : ℕ) (listed : List (PubKey × KeyStanding)) (epochs : List ℕ) (s : Standing) → Sound (epochs_plan now listed epochs s)
  epochs_part now listed [] s = done_sound (Some s)
  epochs_part now listed (at ∷ epochs) s =
      let keys = missing_keys at listed in
      then_part (epoch_plan now listed at s) (epochs_plan now listed epochs) (liveness_part at now keys (indices_of s.indices keys) s) (epochs_part now listed epochs)

  watch_part : (watches : Bool) (listed : List (PubKey × KeyStanding)) (s : Standing) → Sound (watch_plan watches listed s)
  watch_part watches listed s =
      let now = epoch_of s.slot in
      if_sound watches (epochs_plan now listed (missing_epochs now listed) s) (Done (Some s)) (epochs_part now listed (missing_epochs now listed) s) (done_sound (Some s))

  asked_part : (setup : DutySetup) (listed : List (PubKey × KeyStanding)) (active : List PubKey) (s : Standing) → Sound (asked_plan setup listed active s)
  asked_part setup listed active s =
      then_part (then_on (renewed_plan active s) (duties_plan active)) (watch_plan setup.watch listed)
      (then_part (renewed_plan active s) (duties_plan active) (renewed_part active s) (duties_part active)) (watch_part setup.watch listed)

  -- ---- calls of the desk that let the turn go on

  unless_short_so : (before : List TurnStep) (p : NextPlan) → So before p → (r : DeskReply) → So before (unless_short r p)
  unless_short_so before p h reply.OutOfMemory = stop_sound before
  unless_short_so before p h r = h

  unless_short_sound : (p : NextPlan) → Sound p → (r : DeskReply) → Sound (unless_short r p)
  unless_short_sound p h r before = unless_short_so before p (h before) r

  sized_sound : (p : NextPlan) → Sound p → (r : DeskReply) → Sound (sized r p)
  sized_sound p h (reply.Size size weight) =
      if_sound (is_worth_compacting size weight) (calls call.Compact (λ r. unless_short r p)) p (calls_sound call.Compact (λ r. unless_short r p) (λ before. tt) (unless_short_sound p h)) h
  sized_sound p h r = stop_sound

  shortens_sound : (s : Standing) (p : NextPlan) → Sound p → Sound (shortens s p)
  shortens_sound s p h = if_sound (is_first_slot s.slot) (calls call.Size (λ r. sized r p)) p (calls_sound call.Size (λ r. sized r p) (λ before. tt) (sized_sound p h)) h

  failed_sound : (s : Standing) (r : DeskReply) → Sound (failed_plan s r)
  failed_sound s (reply.HasFailed true) = done_sound (Err end.Disk)
  failed_sound s r = done_sound (Ok s)

  -- ---- what is old is forgotten

  merges_sound : (file : File) (books : List (PubKey × Book)) (next : NextPlan) → Sound next → Sound (merges file books next)
  merges_sound file [] next h = h
  merges_sound file (b ∷ books) next h = calls_sound (call.Merge file) (λ r. unless_short r next) (λ before. tt) (unless_short_sound next h)

  exported_sound : (keep epoch : ℕ) (next : NextPlan) → Sound next → (r : DeskReply) → Sound (exported keep epoch r next)
  exported_sound keep epoch next h (reply.Exported file) = merges_sound (pruning_file keep epoch file) (pruning_file keep epoch file).books next h
  exported_sound keep epoch next h r = unless_short_sound next h r

  exports_sound : (keep epoch : ℕ) (keys : List PubKey) (next : NextPlan) → Sound next → Sound (exports keep epoch keys next)
  exports_sound keep epoch [] next h = h
  exports_sound keep epoch (key ∷ keys) next h = calls_sound (call.Export (key ∷ keys)) (λ r. exported keep epoch r next) (λ before. tt) (exported_sound keep epoch next h)

  prunes_sound : (keep_epochs : Option ℕ) (slot : ℕ) (active : Option (List PubKey)) (next : NextPlan) → Sound next → Sound (prunes keep_epochs slot active next)
  prunes_sound None slot active next h = h
  prunes_sound (Some keep) slot None next h = h
  prunes_sound (Some keep) slot (Some active) next h = exports_sound keep (epoch_of slot) (keys_of_turn slot active) next h

  -- ---- the end of a turn

  finish_sound : (slot : ℕ) (s : Standing) → Sound (finish_plan setup slot s)
  finish_sound slot s = prunes_sound setup.keep_epochs slot s.active (calls call.HasFailed (failed_plan s)) (calls_sound call.HasFailed (failed_plan s) (λ before. tt) (failed_sound s))

  wrote_so : (before : List TurnStep) (next : NextPlan) (r : TurnReply) → ((piece : List ℕ) → So before next) → So before (wrote r next)
  wrote_so before next (Wrote true piece) h = h piece
  wrote_so before next r h = done_sound (Err end.Write) before

  puts_so : (before : List TurnStep) (text : List ℕ) (next : NextPlan) → ((r : TurnReply) → So (before ++ (Writes text, r) ∷ []) next) → So before (puts text next)
  puts_so before text next h = ask_so before (Writes text) (λ r. wrote r next) tt (λ r fit. wrote_so (before ++ (Writes text, r) ∷ []) next r (λ piece. h r))

  close_sound : (slot : ℕ) (ds : List Duty) (results : List DutyResult) (s : Standing) → Sound (close_plan setup slot ds results s)
  close_sound slot ds results s before = puts_so before (duty_lines slot ds results) (finish_plan setup slot s) (λ r. finish_sound slot s (before ++ (Writes (duty_lines slot ds results), r) ∷ []))

  report_sound : (slot : ℕ) (choices : List Task) (found : List (Option DutyResult)) (s : Standing) → Sound (report_plan setup slot choices found s)
  report_sound slot choices found s before = puts_so before (aggregate_lines slot choices found) (finish_plan setup slot s) (λ r. finish_sound slot s (before ++ (Writes (aggregate_lines slot choices found), r) ∷ []))

  -- ---- by what stands in the steps before

  if_so : {X : Type 0} (before : List TurnStep) (b : Bool) (p q : TurnPlan X) → (b ≡ true → So before p) → (b ≡ false → So before q) → So before (if b then p else q)
  if_so before true p q h k = h refl
  if_so before false p q h k = k refl

  woken_so : {X : Type 0} (before : List TurnStep) (moment : ℕ) (next : ℕ → TurnPlan X) → ((reached : ℕ) → So (before ++ (Waits moment, Woke reached) ∷ []) (next reached))
      → (r : TurnReply) → So (before ++ (Waits moment, r) ∷ []) (woken r next)
  woken_so before moment next h (Woke reached) = h reached
  woken_so before moment next h r = stop_sound (before ++ (Waits moment, r) ∷ [])

  waits_so : {X : Type 0} (before : List TurnStep) (moment : ℕ) (next : ℕ → TurnPlan X) → ((reached : ℕ) → So (before ++ (Waits moment, Woke reached) ∷ []) (next reached)) → So before (waits moment next)
  waits_so before moment next h = ask_so before (Waits moment) (λ r. woken r next) tt (λ r fit. woken_so before moment next h r)

  waits_sound : {X : Type 0} (moment : ℕ) (next : ℕ → TurnPlan X) → ((reached : ℕ) → Sound (next reached)) → Sound (waits moment next)
  waits_sound moment next h before = waits_so before moment next (λ reached. h reached (before ++ (Waits moment, Woke reached) ∷ []))

  worked_so : {X : Type 0} (before : List TurnStep) (work : SlotWork) (place : ℕ) (tasks : List Task) (next : List Ended → TurnPlan X)
      → ((lanes : List (List DutyStep)) (ends : List Ended) → Fits (Works work place tasks) (Worked lanes (Some ends)) → So (before ++ (Works work place tasks, Worked lanes (Some ends)) ∷ []) (next ends))
      → (r : TurnReply) → Fits (Works work place tasks) r → So (before ++ (Works work place tasks, r) ∷ []) (worked r next)
  worked_so before work place tasks next h (Worked lanes (Some ends)) fit = h lanes ends fit
  worked_so before work place tasks next h r fit = stop_sound (before ++ (Works work place tasks, r) ∷ [])

  works_so : {X : Type 0} (before : List TurnStep) (work : SlotWork) (place : ℕ) (tasks : List Task) (next : List Ended → TurnPlan X) → ((t : Task) → Contains tasks t → HasReason setup before work t)
      → ((lanes : List (List DutyStep)) (ends : List Ended) → Fits (Works work place tasks) (Worked lanes (Some ends)) → So (before ++ (Works work place tasks, Worked lanes (Some ends)) ∷ []) (next ends)) → So before (works work place tasks next)
  works_so before work place tasks next may h = ask_so before (Works work place tasks) (λ r. worked r next) may (λ r fit. worked_so before work place tasks next h r fit)

  last_of : (before : List TurnStep) (s : TurnStep) → Contains (before ++ s ∷ []) s
  last_of before s = Contains-append_right before (s ∷ []) s (contains_first s [])

  -- ---- aggregates

  aggregates_so : (before : List TurnStep) (s : Standing) (choices : List Task) (chosen : List Ended) (tasks : List Task) (reached : ℕ) → ((t : Task) → Contains tasks t → Chose before (work_of setup s) t)
      → Contains before (Waits (aggregates_start setup.genesis_time s.slot), Woke reached) → So before (aggregates_plan setup s choices chosen tasks reached)
  aggregates_so before s choices chosen tasks reached chose woke =
      let moment = aggregates_start setup.genesis_time s.slot in
      let work = work_of setup s in
      let next = after_wait setup.genesis_time moment reached s in
      let last = at_slot (next_slot s.slot) s in
      let after : List Ended → NextPlan = λ ends. report_plan setup s.slot choices (reports chosen ends) last in
      if_so before (is_missed setup.genesis_time s.slot moment reached) (report_plan setup s.slot choices (reports chosen []) next) (works work 0 tasks after)
      (λ late. report_sound s.slot choices (reports chosen []) next before)
      (λ in_time. works_so before work 0 tasks after (λ t c. chose_reason setup before work t (record { reached = reached; step = woke; in_slot = in_time }) (chose t c))
      (λ lanes ends fit. report_sound s.slot choices (reports chosen ends) last (before ++ (Works work 0 tasks, Worked lanes (Some ends)) ∷ [])))

  gathers_so : (before : List TurnStep) (s : Standing) (choices : List Task) (chosen : List Ended) (tasks : List Task) → ((t : Task) → Contains tasks t → Chose before (work_of setup s) t)
      → So before (gathers_plan setup s choices chosen tasks)
  gathers_so before s choices chosen [] chose = report_sound s.slot choices (reports chosen []) (at_slot (next_slot s.slot) s) before
  gathers_so before s choices chosen (t ∷ tasks) chose =
      let moment = aggregates_start setup.genesis_time s.slot in
      waits_so before moment (aggregates_plan setup s choices chosen (t ∷ tasks)) (λ reached. let woke : TurnStep = (Waits moment, Woke reached) in
      aggregates_so (before ++ woke ∷ []) s choices chosen (t ∷ tasks) reached (chose_all before (woke ∷ []) (work_of setup s) (t ∷ tasks) chose) (last_of before woke))

  chooses_so : (before : List TurnStep) (s : Standing) (choices : List Task) → ((t : Task) → Contains choices t → HasReason setup before (work_of setup s) t) → So before (chooses_plan setup s choices)
  chooses_so before s [] may = finish_sound s.slot (at_slot (next_slot s.slot) s) before
  chooses_so before s (t ∷ choices) may =
      let work = work_of setup s in
      works_so before work 0 (t ∷ choices) (λ chosen. gathers_plan setup s (t ∷ choices) chosen (aggregate_tasks (t ∷ choices) chosen)) may
      (λ lanes chosen fit. let made : TurnStep = (Works work 0 (t ∷ choices), Worked lanes (Some chosen)) in
      gathers_so (before ++ made ∷ []) s (t ∷ choices) chosen (aggregate_tasks (t ∷ choices) chosen) (aggregate_chose (before ++ made ∷ []) work 0 (t ∷ choices) lanes chosen (last_of before made)))

  told_so : (before : List TurnStep) (s : Standing) (ds : List Duty) (ends : List Ended) (results : List DutyResult) → Had before (work_of setup s) ds ends → So before (told_plan setup s ds ends results)
  told_so before s ds ends results had =
      let text = duty_lines s.slot ds results in
      puts_so before text (chooses_plan setup s (choices_of setup ds ends)) (λ r. let put : TurnStep = (Writes text, r) in
      chooses_so (before ++ put ∷ []) s (choices_of setup ds ends) (choice_reasons setup (before ++ put ∷ []) (work_of setup s) ds ends (had_more before (put ∷ []) (work_of setup s) ds ends had)))

  -- ---- duties

  tried_so : (before : List TurnStep) (s : Standing) (ds : List Duty) (ends : List Ended) (tasks : List Task) (reached : ℕ) → Had before (work_of setup s) ds ends → ((t : Task) → Contains tasks t → Left before (work_of setup s) t)
      → Contains before (Waits (again_start setup.genesis_time s.slot), Woke reached) → So before (tried_plan setup s ds ends tasks reached)
  tried_so before s ds ends tasks reached had left woke =
      let moment = again_start setup.genesis_time s.slot in
      let work = work_of setup s in
      let next = after_wait setup.genesis_time moment reached s in
      let after : List Ended → NextPlan = λ again. told_plan setup s ds ends (merged ends again) in
      if_so before (is_missed setup.genesis_time s.slot moment reached) (close_plan setup s.slot ds (results_of ends) next) (works work 0 tasks after)
      (λ late. close_sound s.slot ds (results_of ends) next before)
      (λ in_time. works_so before work 0 tasks after (λ t c. left_reason setup before work t (record { reached = reached; step = woke; in_slot = in_time }) (left t c))
      (λ lanes again fit. let made : TurnStep = (Works work 0 tasks, Worked lanes (Some again)) in
      told_so (before ++ made ∷ []) s ds ends (merged ends again) (had_more before (made ∷ []) work ds ends had)))

  left_so : (before : List TurnStep) (s : Standing) (ds : List Duty) (ends : List Ended) (tasks : List Task) → Had before (work_of setup s) ds ends → ((t : Task) → Contains tasks t → Left before (work_of setup s) t)
      → So before (left_plan setup s ds ends tasks)
  left_so before s ds ends [] had left = told_so before s ds ends (results_of ends) had
  left_so before s ds ends (t ∷ tasks) had left =
      let moment = again_start setup.genesis_time s.slot in
      let work = work_of setup s in
      waits_so before moment (tried_plan setup s ds ends (t ∷ tasks)) (λ reached. let woke : TurnStep = (Waits moment, Woke reached) in
      tried_so (before ++ woke ∷ []) s ds ends (t ∷ tasks) reached (had_more before (woke ∷ []) work ds ends had) (left_more before (woke ∷ []) work (t ∷ tasks) left) (last_of before woke))

  -- the desk is asked to keep messages together, and what comes next has its reasons whatever steps come between
  records_so : (before : List TurnStep) (now : ℕ) (ms : List (PubKey × Message)) (next : NextPlan) → ((mid : List TurnStep) → So (before ++ mid) next) → So before (records now ms next)
  records_so before now [] next h = subst (λ (l : List TurnStep). So l next) (append-nil before) (h [])
  records_so before now (m ∷ ms) next h =
      let c : TurnCall = Own (Calls (call.Record (m ∷ ms) now)) in
      ask_so before c (λ r. unless_short (own_reply r) next) tt (λ r fit. unless_short_so (before ++ (c, r) ∷ []) next (h ((c, r) ∷ [])) (own_reply r))

  records_allowed_so : (before : List TurnStep) (work : SlotWork) (tasks : List Task) (next : NextPlan) → ((mid : List TurnStep) → So (before ++ mid) next) → (r : DeskReply) → So before (records_allowed work tasks r next)
  records_allowed_so before work tasks next h (reply.Keys listed) = records_so before work.moment (recorded work.domains (allowed_of listed) tasks) next h
  records_allowed_so before work tasks next h r = stop_sound before

  records_votes_so : (before : List TurnStep) (work : SlotWork) (tasks : List Task) (next : NextPlan) → ((mid : List TurnStep) → So (before ++ mid) next) → So before (records_votes work tasks next)
  records_votes_so before work [] next h = subst (λ (l : List TurnStep). So l next) (append-nil before) (h [])
  records_votes_so before work (t ∷ tasks) next h =
      let c : TurnCall = Own (Calls call.Keys) in
      ask_so before c (λ r. records_allowed work (t ∷ tasks) (own_reply r) next) tt (λ r fit.
      records_allowed_so (before ++ (c, r) ∷ []) work (t ∷ tasks) next (λ mid. subst (λ (l : List TurnStep). So l next) (sym (append_assoc before ((c, r) ∷ []) mid)) (h ((c, r) ∷ mid))) (own_reply r))

  -- the blocks of a slot were proposed
  abbrev Proposed : List TurnStep → Standing → List Duty → List (List DutyStep) → List Ended → Type 0
  Proposed before s ds made proposed = Contains before (Works (work_of setup s) 0 (fresh (blocks_in ds)), Worked made (Some proposed)) × (length proposed ≡ length (fresh (blocks_in ds)))

  -- it was asked what the committees of its votes are to vote
  abbrev Asked : List TurnStep → Standing → List Duty → List (List DutyStep) → List Ended → Type 0
  Asked before s ds lanes told = Contains before (Works (work_of setup s) (length (blocks_in ds)) (data_tasks (votes_in ds)), Worked lanes (Some told)) × AreAsked (votes_in ds) (vote_answers (votes_in ds) told)

  cast_so : (before : List TurnStep) (s : Standing) (ds : List Duty) (made lanes : List (List DutyStep)) (proposed told : List Ended) → IsFound before s.slot ds → Proposed before s ds made proposed → Asked before s ds lanes told
      → WasTime before setup.genesis_time s.slot (votes_start setup.genesis_time s.slot)
      → So before (works (work_of setup s) (length (blocks_in ds)) (vote_tasks (votes_in ds) (vote_answers (votes_in ds) told))
      (λ cast. again_plan setup s (blocks_in ds ++ votes_in ds) (proposed ++ vote_ends (vote_answers (votes_in ds) told) cast)))
  cast_so before s ds made lanes proposed told due done was time =
      let work = work_of setup s in
      let place = length (blocks_in ds) in
      let asked = vote_answers (votes_in ds) told in
      let tasks = vote_tasks (votes_in ds) asked in
      let all : List Duty = blocks_in ds ++ votes_in ds in
      works_so before work place tasks (λ cast. again_plan setup s all (proposed ++ vote_ends asked cast)) (vote_reasons setup before work ds place lanes told due time was.0)
      (λ voted cast fit. let step : TurnStep = (Works work place tasks, Worked voted (Some cast)) in
      let here : List TurnStep = before ++ step ∷ [] in
      let ends : List Ended = proposed ++ vote_ends asked cast in
      let blocks = Contains-append_left before (step ∷ []) (Works work 0 (fresh (blocks_in ds)), Worked made (Some proposed)) done.0 in
      let had = had_both here work ds asked 0 place made voted proposed cast blocks done.1 was.1 (last_of before step) fit.1 in
      left_so here s all ends (again_tasks all ends) had (left_all here work all ends had))

  votes_so : (before : List TurnStep) (s : Standing) (ds : List Duty) (made : List (List DutyStep)) (proposed : List Ended) (reached : ℕ) → IsFound before s.slot ds → Proposed before s ds made proposed
      → Contains before (Waits (votes_start setup.genesis_time s.slot), Woke reached) → So before (votes_plan setup s ds proposed reached)
  votes_so before s ds made proposed reached due done woke =
      let moment = votes_start setup.genesis_time s.slot in
      let work = work_of setup s in
      let place = length (blocks_in ds) in
      let votes = votes_in ds in
      let next = at_moment setup.genesis_time moment reached s in
      let after : List Ended → NextPlan = λ cast. again_plan setup s (blocks_in ds ++ votes) (proposed ++ cast) in
      if_so before (is_missed setup.genesis_time s.slot moment reached) (close_plan setup s.slot (blocks_in ds) (results_of proposed) next) (casts work place votes after)
      (λ late. close_sound s.slot (blocks_in ds) (results_of proposed) next before)
      (λ in_time. let time : WasTime before setup.genesis_time s.slot moment = record { reached = reached; step = woke; in_slot = in_time } in
      let casting : List Ended → NextPlan = λ asked. works work place (vote_tasks votes asked) (λ cast. after (vote_ends asked cast)) in
      works_so before work place (data_tasks votes) (λ ends. casts_for work place votes after (vote_answers votes ends)) (data_reasons setup before work ds due time)
      (λ lanes told fit. let step : TurnStep = (Works work place (data_tasks votes), Worked lanes (Some told)) in
      let here : List TurnStep = before ++ step ∷ [] in
      let asked = vote_answers votes told in
      let all = are_asked work place ds lanes told fit in
      records_votes_so here work (vote_tasks votes asked) (casting asked) (λ mid.
      let found = due_more here mid s.slot ds (due_more before (step ∷ []) s.slot ds due) in
      let blocks = Contains-append_left here mid (Works work 0 (fresh (blocks_in ds)), Worked made (Some proposed)) (Contains-append_left before (step ∷ []) (Works work 0 (fresh (blocks_in ds)), Worked made (Some proposed)) done.0) in
      let asking = Contains-append_left here mid step (last_of before step) in
      cast_so (here ++ mid) s ds made lanes proposed told found (blocks, done.1) (asking, all) (time_more here mid setup.genesis_time s.slot moment (time_more before (step ∷ []) setup.genesis_time s.slot moment time)))))

  due_so : (before : List TurnStep) (s : Standing) (ds : List Duty) → IsFound before s.slot ds → So before (due_plan setup s ds)
  due_so before s ds due =
      let moment = votes_start setup.genesis_time s.slot in
      let work = work_of setup s in
      works_so before work 0 (fresh (blocks_in ds)) (λ proposed. waits moment (votes_plan setup s ds proposed)) (block_reasons setup before work ds due)
      (λ lanes proposed fit. let made : TurnStep = (Works work 0 (fresh (blocks_in ds)), Worked lanes (Some proposed)) in
      let here : List TurnStep = before ++ made ∷ [] in
      waits_so here moment (votes_plan setup s ds proposed) (λ reached. let woke : TurnStep = (Waits moment, Woke reached) in
      votes_so (here ++ woke ∷ []) s ds lanes proposed reached (due_more here (woke ∷ []) s.slot ds (due_more before (made ∷ []) s.slot ds due))
      (Contains-append_left here (woke ∷ []) made (last_of before made), fit.1) (last_of here woke)))

  found_so : (before : List TurnStep) (s : Standing) (active : List PubKey) (r : TurnReply)
      → So (before ++ (LooksUp s.answers s.slot active, r) ∷ []) (found r (due_plan setup (with_active active s)))
  found_so before s active (Due ds) =
      let looked : TurnStep = (LooksUp s.answers s.slot active, Due ds) in
      due_so (before ++ looked ∷ []) (with_active active s) ds (due_found (before ++ looked ∷ []) s.answers s.slot active ds (last_of before looked))
  found_so before s active r = stop_sound (before ++ (LooksUp s.answers s.slot active, r) ∷ [])

  ready_sound : (active : List PubKey) (o : Option Standing) → Sound (ready_plan setup active o)
  ready_sound active None before = done_sound (Err end.Write) before
  ready_sound active (Some s) before = ask_so before (LooksUp s.answers s.slot active) (λ r. found r (due_plan setup (with_active active s))) tt (λ r fit. found_so before s active r)

  -- ---- a turn

  listed_sound : (s : Standing) (r : DeskReply) → Sound (listed_plan setup s r)
  listed_sound s (reply.Keys listed) before =
      let active = active_of listed in
      bind_so before (asked_plan setup listed active s) (ready_plan setup active) (asked_part setup listed active s before) (λ mid o f. ready_sound active o (before ++ mid))
  listed_sound s r before = stop_sound before

  woken_sound : (s : Standing) (reached : ℕ) → Sound (woken_plan setup s reached)
  woken_sound s reached =
      let next = at_moment setup.genesis_time (slot_start setup.genesis_time s.slot) reached s in
      let keys = calls call.Keys (listed_plan setup s) in
      let part = shortens s keys in
      if_sound (is_missed setup.genesis_time s.slot (slot_start setup.genesis_time s.slot) reached) (close_plan setup s.slot [] [] next) (refreshes (refreshes_lanes part))
      (close_sound s.slot [] [] next)
      (refreshes_sound (refreshes_lanes part) (refreshes_lanes_sound part (shortens_sound s keys (calls_sound call.Keys (listed_plan setup s) (λ before. tt) (listed_sound s)))))

  turn_sound : (s : Standing) → Sound (turn_plan setup s)
  turn_sound s = waits_sound (slot_start setup.genesis_time s.slot) (woken_plan setup s) (woken_sound s)

  -- ---- turn after turn

  next_sound : (plan : Standing → TurnPlan (Result (Unit {0}) DutyEnd)) → ((t : Standing) → Sound (plan t)) → (x : Next) → Sound (next_turn plan x)
  next_sound plan h (Ok t) = h t
  next_sound plan h (Err ended) = done_sound (Err ended)

  turns_sound : (n : ℕ) (s : Standing) → Sound (turns_plan setup n s)
  turns_sound zero s before = done_sound (Ok tt) before
  turns_sound (suc n) s before =
      bind_so before (turn_plan setup s) (next_turn (turns_plan setup n)) (turn_sound s before) (λ mid x f. next_sound (turns_plan setup n) (λ t. turns_sound n t) x (before ++ mid))

pub turns_reasoned : (setup : DutySetup) (n : ℕ) (s : Standing) (steps : List TurnStep) (v : Option (Result (Unit {0}) DutyEnd)) → Follows Fits (turns_plan setup n s) steps v → AreReasoned setup [] steps
turns_reasoned setup n s steps v f = turns_sound setup n s [] steps v f
