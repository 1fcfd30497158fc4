-- A turn merges only what forgets what is old of a file that the desk exported just before.
use Rattle.std.proofs.Common.{◌≡◌, ℕ, Bool, true, false, List, [], ◌∷◌, ◌++◌, length, Option, Some, None, Result, Ok, Err, refl, sym, subst}
use Rattle.std.specs.Prelude.{if◌then◌else◌}
use Rattle.edge_kit.specs.declared.bytes.PubKey.{PubKey}
use Rattle.slash_defs.specs.declared.book.Book.{Book}
use Rattle.slash_defs.specs.declared.book.File.{File}
use Rattle.slash_defs.specs.declared.message.Message.{Message}
use Rattle.desk_machine.specs.declared.call.KeyStanding.{KeyStanding}
use Rattle.desk_machine.specs.declared.call.DeskCall.{DeskCall}
use Rattle.desk_machine.specs.declared.call.DeskCall.TheVariants as call
use Rattle.desk_machine.specs.declared.call.DeskReply.{DeskReply}
use Rattle.desk_machine.specs.declared.call.DeskReply.TheVariants as reply
use Rattle.node_calls.specs.declared.ask.Ask.{Ask}
use Rattle.node_calls.specs.declared.ask.Ask.TheVariants as ask
use Rattle.node_calls.specs.declared.answer.Answer.{Answer}
use Rattle.node_calls.specs.declared.answer.Answer.TheVariants as answer
use Rattle.node_fallback.specs.declared.no_node.NoAnswer.{NoAnswer}
use Rattle.node_fallback.specs.declared.no_node.NoAnswer.TheVariants as none
use Rattle.duty_schedule.specs.Answers.{TakenAnswer}
use Rattle.duty_schedule.specs.declared.rows.Duty.{Duty}
use Rattle.call_plans.specs.Plans.{Done, Stop, Ask as Step, bind, Follows}
use Rattle.call_plans.proofs.PlanLemmas.{cut_now}
use Rattle.duty_pruning.specs.Pruning.{pruning_file}
use Rattle.duty_plans.specs.Steps.{Asks, Calls, Replies}
use Rattle.duty_plans.specs.declared.ended.Ended.{Ended}
use Rattle.duty_plans.specs.declared.result.DutyResult.{DutyResult}
use Rattle.duty_plans.specs.declared.task.Task.{Task}
use Rattle.duty_plans.specs.Choices.{aggregate_tasks, reports}
use Rattle.duty_plans.specs.Ends.{merged, results_of}
use Rattle.duty_plans.specs.Tasks.{again_tasks, fresh}
use Rattle.duty_plans.specs.Votes.{data_tasks, vote_answers, vote_ends, vote_tasks}
use Rattle.duty_plans.specs.declared.setup.DutySetup.{DutySetup}
use Rattle.duty_plans.specs.declared.work.SlotWork.{SlotWork}
use Rattle.duty_turns.specs.Lines.{aggregate_lines, duty_lines, none_line}
use Rattle.duty_turns.specs.Recording.{allowed_of, recorded}
use Rattle.duty_turns.specs.Standing.{Standing, indices_of, with_attesters, with_fork, with_indices, with_proposers}
use Rattle.duty_turns.specs.Times.{again_start, aggregates_start, epoch_of, is_first_slot, is_missed, next_slot, slot_start, votes_start}
use Rattle.duty_turns.specs.TurnSteps.{TurnCall, TurnPlan, TurnReply, TurnStep, Fits, Due, LanesRefreshed, LooksUp, Own, Owned, Refreshed, Refreshes, RefreshesLanes, Waits, Woke, Worked, Works, Writes, Wrote}
use Rattle.duty_turns.specs.Turns.{NextPlan, PartPlan, active_of, after_wait, again_plan, aggregates_plan, left_plan, tried_plan, answered_plan, ask_plan, asked_plan, asks, at_moment, at_slot, attesters_plan, blocks_in, by_32, calls, casts, casts_for, choices_of, chooses_plan, close_plan, due_plan, duties_plan, epoch_plan, epochs_plan, exported, exports, failed_plan, finish_plan, found, gathers_plan, index_plan, is_worth_compacting, keys_of_turn, lanes_refreshed, listed_plan, lived_plan, liveness_plan, looks_up, merges, missing_epochs, missing_keys, noted, notes_of, notes_plan, on_standing, own_answer, own_reply, prunes, puts, ready_plan, records, records_allowed, records_votes, refreshed, refreshes, refreshes_lanes, renew_plan, renewed_now, renewed_plan, renews, report_plan, shortens, sized, then_on, to_renew, told_plan, turn_plan, unless_short, voters_plan, votes_in, votes_plan, waits, watch_plan, with_active, woken, woken_plan, work_of, worked, works, writes, written, wrote}
use Rattle.duty_turns.specs.declared.held.DutyEnd.{DutyEnd}
use Rattle.duty_turns.specs.declared.held.DutyEnd.TheVariants as end
use Rattle.duty_safety.proofs.AskedLemmas.{At, asked_stays}
use Rattle.duty_safety.specs.OnTime.{AllWaits, IsWait}
use Rattle.duty_safety.specs.Merging.{MayMerge, MergesOnly, exported_by}

module _ (keep_epochs : Option ℕ) (epoch : ℕ) where
  -- whatever steps of the plan are taken, after a step that exported this file, if it did
  abbrev Merging : {X : Type 0} → Option File → TurnPlan X → Type 0
  Merging {X} from p = (steps : List TurnStep) (v : Option X) → Follows Fits p steps v → MergesOnly keep_epochs epoch from steps

  -- after any step
  abbrev Quiet : {X : Type 0} → TurnPlan X → Type 0
  Quiet p = (from : Option File) → Merging from p

  abbrev MergesNothing : TurnCall → Type 0
  MergesNothing c = (from : Option File) → MayMerge keep_epochs epoch from c

  done_quiet : {X : Type 0} (x : X) → Quiet (Done x)
  done_quiet x from [] v f = tt
  done_quiet x from (s ∷ steps) v f = absurd f

  stop_quiet : {X : Type 0} → Quiet {X = X} Stop
  stop_quiet from [] v f = tt
  stop_quiet from (s ∷ steps) v f = absurd f

  ask_merging : {X : Type 0} (from : Option File) (c : TurnCall) (k : TurnReply → TurnPlan X) → MayMerge keep_epochs epoch from c → ((r : TurnReply) → Merging (exported_by (c, r)) (k r)) → Merging from (Step c k)
  ask_merging from c k may on [] v f = tt
  ask_merging from c k may on ((d, r) ∷ steps) v f =
      let P : TurnCall → Type 0 = λ e. MergesOnly keep_epochs epoch from ((e, r) ∷ steps) in
      subst P (sym f.0) (may, on r steps v f.2)

  ask_quiet : {X : Type 0} (c : TurnCall) (k : TurnReply → TurnPlan X) → MergesNothing c → ((r : TurnReply) → Quiet (k r)) → Quiet (Step c k)
  ask_quiet c k may on from = ask_merging from c k (may from) (λ r. on r (exported_by (c, r)))

  bind_merging : {X Y : Type 0} (p : TurnPlan X) (next : X → TurnPlan Y) (from : Option File) → Merging from p
      → ((mid : List TurnStep) (x : X) → Follows Fits p mid (Some x) → Quiet (next x)) → Merging from (bind p next)
  bind_merging (Done x) next from h on steps v f = on [] x refl from steps v f
  bind_merging Stop next from h on steps v f = stop_quiet from steps v f
  bind_merging (Step c k) next from h on [] v f = tt
  bind_merging {X} (Step c k) next from h on ((d, r) ∷ steps) v f =
      let P : TurnCall → Type 0 = λ e. MergesOnly keep_epochs epoch from ((e, r) ∷ steps) in
      let first = h ((c, r) ∷ []) None (refl, f.1, cut_now Fits (k r)) in
      let behind : Merging (exported_by (c, r)) (k r) = λ more w g. (h ((c, r) ∷ more) w (refl, f.1, g)).1 in
      let rest = bind_merging (k r) next (exported_by (c, r)) behind (λ mid x g. on ((c, r) ∷ mid) x (refl, f.1, g)) steps v f.2 in
      subst P (sym f.0) (first.0, rest)

  if_quiet : {X : Type 0} (b : Bool) (p q : TurnPlan X) → Quiet p → Quiet q → Quiet (if b then p else q)
  if_quiet true p q h k = h
  if_quiet false p q h k = k

  -- ---- one call, and then by its reply

  woken_quiet : {X : Type 0} (next : ℕ → TurnPlan X) → ((reached : ℕ) → Quiet (next reached)) → (r : TurnReply) → Quiet (woken r next)
  woken_quiet next h (Woke reached) = h reached
  woken_quiet next h r = stop_quiet

  refreshed_quiet : {X : Type 0} (next : TurnPlan X) → Quiet next → (r : TurnReply) → Quiet (refreshed r next)
  refreshed_quiet next h (Refreshed true replies) = h
  refreshed_quiet next h r = stop_quiet

  lanes_refreshed_quiet : {X : Type 0} (next : TurnPlan X) → Quiet next → (r : TurnReply) → Quiet (lanes_refreshed r next)
  lanes_refreshed_quiet next h (LanesRefreshed true replies) = h
  lanes_refreshed_quiet next h r = stop_quiet

  found_quiet : {X : Type 0} (next : List Duty → TurnPlan X) → ((ds : List Duty) → Quiet (next ds)) → (r : TurnReply) → Quiet (found r next)
  found_quiet next h (Due ds) = h ds
  found_quiet next h r = stop_quiet

  worked_quiet : {X : Type 0} (next : List Ended → TurnPlan X) → ((ends : List Ended) → Quiet (next ends)) → (r : TurnReply) → Quiet (worked r next)
  worked_quiet next h (Worked lanes (Some ends)) = h ends
  worked_quiet next h r = stop_quiet

  waits_quiet : {X : Type 0} (moment : ℕ) (next : ℕ → TurnPlan X) → ((reached : ℕ) → Quiet (next reached)) → Quiet (waits moment next)
  waits_quiet moment next h = ask_quiet (Waits moment) (λ r. woken r next) (λ from. tt) (woken_quiet next h)

  refreshes_quiet : {X : Type 0} (next : TurnPlan X) → Quiet next → Quiet (refreshes next)
  refreshes_quiet next h = ask_quiet Refreshes (λ r. refreshed r next) (λ from. tt) (refreshed_quiet next h)

  refreshes_lanes_quiet : {X : Type 0} (next : TurnPlan X) → Quiet next → Quiet (refreshes_lanes next)
  refreshes_lanes_quiet next h = ask_quiet RefreshesLanes (λ r. lanes_refreshed r next) (λ from. tt) (lanes_refreshed_quiet next h)

  asks_quiet : {X : Type 0} (a : Ask) (next : Result Answer NoAnswer → TurnPlan X) → ((r : Result Answer NoAnswer) → Quiet (next r)) → Quiet (asks a next)
  asks_quiet a next h = ask_quiet (Own (Asks a)) (λ r. next (own_answer r)) (λ from. tt) (λ r. h (own_answer r))

  calls_quiet : {X : Type 0} (c : DeskCall) (next : DeskReply → TurnPlan X) → MergesNothing (Own (Calls c)) → ((r : DeskReply) → Quiet (next r)) → Quiet (calls c next)
  calls_quiet c next may h = ask_quiet (Own (Calls c)) (λ r. next (own_reply r)) may (λ r. h (own_reply r))

  looks_up_quiet : {X : Type 0} (answers : List TakenAnswer) (slot : ℕ) (active : List PubKey) (next : List Duty → TurnPlan X) → ((ds : List Duty) → Quiet (next ds)) → Quiet (looks_up answers slot active next)
  looks_up_quiet answers slot active next h = ask_quiet (LooksUp answers slot active) (λ r. found r next) (λ from. tt) (found_quiet next h)

  works_quiet : {X : Type 0} (work : SlotWork) (place : ℕ) (tasks : List Task) (next : List Ended → TurnPlan X) → ((ends : List Ended) → Quiet (next ends)) → Quiet (works work place tasks next)
  works_quiet work place tasks next h = ask_quiet (Works work place tasks) (λ r. worked r next) (λ from. tt) (worked_quiet next h)

  -- ---- what is asked of the nodes outside the duties

  written_part : (p : PartPlan) → Quiet p → (r : TurnReply) → Quiet (written r p)
  written_part p h (Wrote true piece) = h
  written_part p h r = done_quiet None

  line_part : (text : List ℕ) (s : Standing) → Quiet {X = Option Standing} (writes text (Done (Some s)))
  line_part text s = ask_quiet (Writes text) (λ r. written r (Done (Some s))) (λ from. tt) (written_part (Done (Some s)) (done_quiet (Some s)))

  on_part : (next : Standing → PartPlan) → ((s : Standing) → Quiet (next s)) → (o : Option Standing) → Quiet (on_standing next o)
  on_part next h (Some s) = h s
  on_part next h None = done_quiet None

  then_part : (p : PartPlan) (next : Standing → PartPlan) → Quiet p → ((s : Standing) → Quiet (next s)) → Quiet (then_on p next)
  then_part p next h on from = bind_merging p (on_standing next) from (h from) (λ mid o f. on_part next on o)

  answered_part : (take_in : Answer → Standing → Standing) (without s : Standing) (r : Result Answer NoAnswer) → Quiet (answered_plan take_in without s r)
  answered_part take_in without s (Ok a) = done_quiet (Some (take_in a s))
  answered_part take_in without s (Err (none.NoNode causes)) = line_part (none_line s.slot) without
  answered_part take_in without s (Err none.OutOfMemory) = stop_quiet

  ask_part : (a : Ask) (take_in : Answer → Standing → Standing) (without s : Standing) → Quiet (ask_plan a take_in without s)
  ask_part a take_in without s = asks_quiet a (answered_plan take_in without s) (answered_part take_in without s)

  index_part : (groups : List (List PubKey)) (s : Standing) → Quiet (index_plan groups s)
  index_part [] s = done_quiet (Some s)
  index_part (keys ∷ more) s = then_part (ask_plan (ask.Validators keys) with_indices (to_renew s) s) (index_plan more) (ask_part (ask.Validators keys) with_indices (to_renew s) s) (index_part more)

  renewed_part : (active : List PubKey) (s : Standing) → Quiet (renewed_plan active s)
  renewed_part active s =
      let groups = by_32 (length active) active in
      if_quiet (renews active s) (renew_plan active s) (Done (Some s))
      (then_part (ask_plan ask.Fork with_fork (to_renew s) (renewed_now s)) (index_plan groups) (ask_part ask.Fork with_fork (to_renew s) (renewed_now s)) (index_part groups)) (done_quiet (Some s))

  attesters_part : (at : ℕ) (indices : List ℕ) (s : Standing) → Quiet (attesters_plan at indices s)
  attesters_part at [] s = done_quiet (Some s)
  attesters_part at (i ∷ indices) s = ask_part (ask.Attester at (i ∷ indices)) (with_attesters at (i ∷ indices)) s s

  duties_part : (active : List PubKey) (s : Standing) → Quiet (duties_plan active s)
  duties_part active s =
      let at = epoch_of s.slot in
      then_part (ask_plan (ask.Proposer at) (with_proposers at) s s) (voters_plan active) (ask_part (ask.Proposer at) (with_proposers at) s s)
      (λ t. attesters_part (epoch_of t.slot) (indices_of t.indices active) t)

  noted_part : (p : PartPlan) → Quiet p → (r : DeskReply) → Quiet (noted r p)
  noted_part p h reply.OutOfMemory = stop_quiet
  noted_part p h r = h

  notes_part : (at now : ℕ) (notes : List (PubKey × Bool)) (s : Standing) → Quiet (notes_plan at now notes s)
  notes_part at now [] s = done_quiet (Some s)
  notes_part at now (n ∷ notes) s =
      let rest = notes_plan at now notes s in
      calls_quiet (call.Answer n.0 at n.1 now) (λ r. noted r rest) (λ from. tt) (noted_part rest (notes_part at now notes s))

  lived_part : (at now : ℕ) (keys : List PubKey) (s : Standing) (r : Result Answer NoAnswer) → Quiet (lived_plan at now keys s r)
  lived_part at now keys s (Ok (answer.Liveness rows)) = notes_part at now (notes_of s.indices keys rows) s
  lived_part at now keys s (Ok a) = stop_quiet
  lived_part at now keys s (Err (none.NoNode causes)) = line_part (none_line s.slot) s
  lived_part at now keys s (Err none.OutOfMemory) = stop_quiet

  liveness_part : (at now : ℕ) (keys : List PubKey) (indices : List ℕ) (s : Standing) → Quiet (liveness_plan at now keys indices s)
  liveness_part at now keys [] s = done_quiet (Some s)
  liveness_part at now keys (i ∷ indices) s = asks_quiet (ask.Liveness at (i ∷ indices)) (lived_plan at now keys s) (lived_part at now keys s)

  epochs_part : (now : ℕ) (listed : List (PubKey × KeyStanding)) (epochs : List ℕ) (s : Standing) → Quiet (epochs_plan now listed epochs s)
  epochs_part now listed [] s = done_quiet (Some s)
  epochs_part now listed (at ∷ epochs) s =
      let keys = missing_keys at listed in
      then_part (epoch_plan now listed at s) (epochs_plan now listed epochs) (liveness_part at now keys (indices_of s.indices keys) s) (epochs_part now listed epochs)

  watch_part : (watches : Bool) (listed : List (PubKey × KeyStanding)) (s : Standing) → Quiet (watch_plan watches listed s)
  watch_part watches listed s =
      let now = epoch_of s.slot in
      if_quiet watches (epochs_plan now listed (missing_epochs now listed) s) (Done (Some s)) (epochs_part now listed (missing_epochs now listed) s) (done_quiet (Some s))

  asked_part : (setup : DutySetup) (listed : List (PubKey × KeyStanding)) (active : List PubKey) (s : Standing) → Quiet (asked_plan setup listed active s)
  asked_part setup listed active s =
      then_part (then_on (renewed_plan active s) (duties_plan active)) (watch_plan setup.watch listed)
      (then_part (renewed_plan active s) (duties_plan active) (renewed_part active s) (duties_part active)) (watch_part setup.watch listed)

  -- ---- calls of the desk that let the turn go on

  unless_short_quiet : (p : NextPlan) → Quiet p → (r : DeskReply) → Quiet (unless_short r p)
  unless_short_quiet p h reply.OutOfMemory = stop_quiet
  unless_short_quiet p h r = h

  sized_quiet : (p : NextPlan) → Quiet p → (r : DeskReply) → Quiet (sized r p)
  sized_quiet p h (reply.Size size weight) =
      if_quiet (is_worth_compacting size weight) (calls call.Compact (λ r. unless_short r p)) p (calls_quiet call.Compact (λ r. unless_short r p) (λ from. tt) (unless_short_quiet p h)) h
  sized_quiet p h r = stop_quiet

  shortens_quiet : (s : Standing) (p : NextPlan) → Quiet p → Quiet (shortens s p)
  shortens_quiet s p h = if_quiet (is_first_slot s.slot) (calls call.Size (λ r. sized r p)) p (calls_quiet call.Size (λ r. sized r p) (λ from. tt) (sized_quiet p h)) h

  failed_quiet : (s : Standing) (r : DeskReply) → Quiet (failed_plan s r)
  failed_quiet s (reply.HasFailed true) = done_quiet (Err end.Disk)
  failed_quiet s r = done_quiet (Ok s)

  -- ---- votes that are recorded together, and then cast

  records_quiet : (now : ℕ) (ms : List (PubKey × Message)) (p : NextPlan) → Quiet p → Quiet (records now ms p)
  records_quiet now [] p h = h
  records_quiet now (m ∷ ms) p h = calls_quiet (call.Record (m ∷ ms) now) (λ r. unless_short r p) (λ from. tt) (unless_short_quiet p h)

  records_free_quiet : (work : SlotWork) (tasks : List Task) (p : NextPlan) → Quiet p → (r : DeskReply) → Quiet (records_allowed work tasks r p)
  records_free_quiet work tasks p h (reply.Keys listed) = records_quiet work.moment (recorded work.domains (allowed_of listed) tasks) p h
  records_free_quiet work tasks p h r = stop_quiet

  records_votes_quiet : (work : SlotWork) (tasks : List Task) (p : NextPlan) → Quiet p → Quiet (records_votes work tasks p)
  records_votes_quiet work [] p h = h
  records_votes_quiet work (t ∷ tasks) p h = calls_quiet call.Keys (λ r. records_allowed work (t ∷ tasks) r p) (λ from. tt) (records_free_quiet work (t ∷ tasks) p h)

  casts_for_quiet : (work : SlotWork) (place : ℕ) (votes : List Duty) (next : List Ended → NextPlan) → ((ends : List Ended) → Quiet (next ends)) → (asked : List Ended) → Quiet (casts_for work place votes next asked)
  casts_for_quiet work place votes next h asked =
      let tasks = vote_tasks votes asked in
      let after : List Ended → NextPlan = λ cast. next (vote_ends asked cast) in
      records_votes_quiet work tasks (works work place tasks after) (works_quiet work place tasks after (λ cast. h (vote_ends asked cast)))

  casts_quiet : (work : SlotWork) (place : ℕ) (votes : List Duty) (next : List Ended → NextPlan) → ((ends : List Ended) → Quiet (next ends)) → Quiet (casts work place votes next)
  casts_quiet work place votes next h =
      works_quiet work place (data_tasks votes) (λ ends. casts_for work place votes next (vote_answers votes ends)) (λ ends. casts_for_quiet work place votes next h (vote_answers votes ends))

-- ---- what is old is forgotten

module _ (keep epoch : ℕ) (next : NextPlan) (h : Quiet (Some keep) epoch next) where
  merges_merging : (of file : File) (books : List (PubKey × Book)) → file ≡ pruning_file keep epoch of → Merging (Some keep) epoch (Some of) (merges file books next)
  merges_merging of file [] is = h (Some of)
  merges_merging of file (b ∷ books) is =
      ask_merging (Some keep) epoch (Some of) (Own (Calls (call.Merge file))) (λ r. unless_short (own_reply r) next) is
      (λ r. unless_short_quiet (Some keep) epoch next h (own_reply r) (exported_by (Own (Calls (call.Merge file)), r)))

  replied_merging : (keys : List PubKey) (r : DeskReply) → Merging (Some keep) epoch (exported_by (Own (Calls (call.Export keys)), Owned (Replies r))) (exported keep epoch r next)
  replied_merging keys (reply.Exported file) = merges_merging file (pruning_file keep epoch file) (pruning_file keep epoch file).books refl
  replied_merging keys r = unless_short_quiet (Some keep) epoch next h r (exported_by (Own (Calls (call.Export keys)), Owned (Replies r)))

  exported_merging : (keys : List PubKey) (r : TurnReply) → Merging (Some keep) epoch (exported_by (Own (Calls (call.Export keys)), r)) (exported keep epoch (own_reply r) next)
  exported_merging keys (Owned (Replies r)) = replied_merging keys r
  exported_merging keys r = stop_quiet (Some keep) epoch (exported_by (Own (Calls (call.Export keys)), r))

  exports_quiet : (keys : List PubKey) → Quiet (Some keep) epoch (exports keep epoch keys next)
  exports_quiet [] from = h from
  exports_quiet (key ∷ keys) from = ask_merging (Some keep) epoch from (Own (Calls (call.Export (key ∷ keys)))) (λ r. exported keep epoch (own_reply r) next) tt (exported_merging (key ∷ keys))

prunes_quiet : (keep_epochs : Option ℕ) (slot : ℕ) (active : Option (List PubKey)) (next : NextPlan) → Quiet keep_epochs (epoch_of slot) next → Quiet keep_epochs (epoch_of slot) (prunes keep_epochs slot active next)
prunes_quiet None slot active next h = h
prunes_quiet (Some keep) slot None next h = h
prunes_quiet (Some keep) slot (Some active) next h = exports_quiet keep (epoch_of slot) next h (keys_of_turn slot active)

-- ---- a turn

finish_quiet : (setup : DutySetup) (slot : ℕ) (s : Standing) → Quiet setup.keep_epochs (epoch_of slot) (finish_plan setup slot s)
finish_quiet setup slot s =
    prunes_quiet setup.keep_epochs slot s.active (calls call.HasFailed (failed_plan s))
    (calls_quiet setup.keep_epochs (epoch_of slot) call.HasFailed (failed_plan s) (λ from. tt) (failed_quiet setup.keep_epochs (epoch_of slot) s))

wrote_quiet : (keep_epochs : Option ℕ) (epoch : ℕ) (next : NextPlan) → Quiet keep_epochs epoch next → (r : TurnReply) → Quiet keep_epochs epoch (wrote r next)
wrote_quiet keep_epochs epoch next h (Wrote true piece) = h
wrote_quiet keep_epochs epoch next h r = done_quiet keep_epochs epoch (Err end.Write)

puts_quiet : (keep_epochs : Option ℕ) (epoch : ℕ) (text : List ℕ) (next : NextPlan) → Quiet keep_epochs epoch next → Quiet keep_epochs epoch (puts text next)
puts_quiet keep_epochs epoch text next h = ask_quiet keep_epochs epoch (Writes text) (λ r. wrote r next) (λ from. tt) (wrote_quiet keep_epochs epoch next h)

close_quiet : (setup : DutySetup) (slot : ℕ) (ds : List Duty) (results : List DutyResult) (s : Standing) → Quiet setup.keep_epochs (epoch_of slot) (close_plan setup slot ds results s)
close_quiet setup slot ds results s = puts_quiet setup.keep_epochs (epoch_of slot) (duty_lines slot ds results) (finish_plan setup slot s) (finish_quiet setup slot s)

report_quiet : (setup : DutySetup) (slot : ℕ) (choices : List Task) (found : List (Option DutyResult)) (s : Standing) → Quiet setup.keep_epochs (epoch_of slot) (report_plan setup slot choices found s)
report_quiet setup slot choices found s = puts_quiet setup.keep_epochs (epoch_of slot) (aggregate_lines slot choices found) (finish_plan setup slot s) (finish_quiet setup slot s)

aggregates_quiet : (setup : DutySetup) (s : Standing) (choices : List Task) (chosen : List Ended) (tasks : List Task) (reached : ℕ) → Quiet setup.keep_epochs (epoch_of s.slot) (aggregates_plan setup s choices chosen tasks reached)
aggregates_quiet setup s choices chosen tasks reached =
    let moment = aggregates_start setup.genesis_time s.slot in
    let next = after_wait setup.genesis_time moment reached s in
    let last = at_slot (next_slot s.slot) s in
    let after : List Ended → NextPlan = λ ends. report_plan setup s.slot choices (reports chosen ends) last in
    if_quiet setup.keep_epochs (epoch_of s.slot) (is_missed setup.genesis_time s.slot moment reached) (report_plan setup s.slot choices (reports chosen []) next) (works (work_of setup s) 0 tasks after)
    (report_quiet setup s.slot choices (reports chosen []) next)
    (works_quiet setup.keep_epochs (epoch_of s.slot) (work_of setup s) 0 tasks after (λ ends. report_quiet setup s.slot choices (reports chosen ends) last))

gathers_quiet : (setup : DutySetup) (s : Standing) (choices : List Task) (chosen : List Ended) (tasks : List Task) → Quiet setup.keep_epochs (epoch_of s.slot) (gathers_plan setup s choices chosen tasks)
gathers_quiet setup s choices chosen [] = report_quiet setup s.slot choices (reports chosen []) (at_slot (next_slot s.slot) s)
gathers_quiet setup s choices chosen (t ∷ tasks) = waits_quiet setup.keep_epochs (epoch_of s.slot) (aggregates_start setup.genesis_time s.slot) (aggregates_plan setup s choices chosen (t ∷ tasks)) (aggregates_quiet setup s choices chosen (t ∷ tasks))

chooses_quiet : (setup : DutySetup) (s : Standing) (choices : List Task) → Quiet setup.keep_epochs (epoch_of s.slot) (chooses_plan setup s choices)
chooses_quiet setup s [] = finish_quiet setup s.slot (at_slot (next_slot s.slot) s)
chooses_quiet setup s (t ∷ choices) =
    works_quiet setup.keep_epochs (epoch_of s.slot) (work_of setup s) 0 (t ∷ choices) (λ chosen. gathers_plan setup s (t ∷ choices) chosen (aggregate_tasks (t ∷ choices) chosen))
    (λ chosen. gathers_quiet setup s (t ∷ choices) chosen (aggregate_tasks (t ∷ choices) chosen))

told_quiet : (setup : DutySetup) (s : Standing) (ds : List Duty) (ends : List Ended) (results : List DutyResult) → Quiet setup.keep_epochs (epoch_of s.slot) (told_plan setup s ds ends results)
told_quiet setup s ds ends results = puts_quiet setup.keep_epochs (epoch_of s.slot) (duty_lines s.slot ds results) (chooses_plan setup s (choices_of setup ds ends)) (chooses_quiet setup s (choices_of setup ds ends))

tried_quiet : (setup : DutySetup) (s : Standing) (ds : List Duty) (ends : List Ended) (tasks : List Task) (reached : ℕ) → Quiet setup.keep_epochs (epoch_of s.slot) (tried_plan setup s ds ends tasks reached)
tried_quiet setup s ds ends tasks reached =
    let moment = again_start setup.genesis_time s.slot in
    let next = after_wait setup.genesis_time moment reached s in
    let after : List Ended → NextPlan = λ again. told_plan setup s ds ends (merged ends again) in
    if_quiet setup.keep_epochs (epoch_of s.slot) (is_missed setup.genesis_time s.slot moment reached) (close_plan setup s.slot ds (results_of ends) next) (works (work_of setup s) 0 tasks after)
    (close_quiet setup s.slot ds (results_of ends) next)
    (works_quiet setup.keep_epochs (epoch_of s.slot) (work_of setup s) 0 tasks after (λ again. told_quiet setup s ds ends (merged ends again)))

left_quiet : (setup : DutySetup) (s : Standing) (ds : List Duty) (ends : List Ended) (tasks : List Task) → Quiet setup.keep_epochs (epoch_of s.slot) (left_plan setup s ds ends tasks)
left_quiet setup s ds ends [] = told_quiet setup s ds ends (results_of ends)
left_quiet setup s ds ends (t ∷ tasks) = waits_quiet setup.keep_epochs (epoch_of s.slot) (again_start setup.genesis_time s.slot) (tried_plan setup s ds ends (t ∷ tasks)) (tried_quiet setup s ds ends (t ∷ tasks))

votes_quiet : (setup : DutySetup) (s : Standing) (ds : List Duty) (proposed : List Ended) (reached : ℕ) → Quiet setup.keep_epochs (epoch_of s.slot) (votes_plan setup s ds proposed reached)
votes_quiet setup s ds proposed reached =
    let next = at_moment setup.genesis_time (votes_start setup.genesis_time s.slot) reached s in
    let place = length (blocks_in ds) in
    let all : List Duty = blocks_in ds ++ votes_in ds in
    let after : List Ended → NextPlan = λ cast. again_plan setup s all (proposed ++ cast) in
    if_quiet setup.keep_epochs (epoch_of s.slot) (is_missed setup.genesis_time s.slot (votes_start setup.genesis_time s.slot) reached) (close_plan setup s.slot (blocks_in ds) (results_of proposed) next) (casts (work_of setup s) place (votes_in ds) after)
    (close_quiet setup s.slot (blocks_in ds) (results_of proposed) next)
    (casts_quiet setup.keep_epochs (epoch_of s.slot) (work_of setup s) place (votes_in ds) after (λ cast. left_quiet setup s all (proposed ++ cast) (again_tasks all (proposed ++ cast))))

due_quiet : (setup : DutySetup) (s : Standing) (ds : List Duty) → Quiet setup.keep_epochs (epoch_of s.slot) (due_plan setup s ds)
due_quiet setup s ds =
    let moment = votes_start setup.genesis_time s.slot in
    let after : List Ended → NextPlan = λ proposed. waits moment (votes_plan setup s ds proposed) in
    works_quiet setup.keep_epochs (epoch_of s.slot) (work_of setup s) 0 (fresh (blocks_in ds)) after
    (λ proposed. waits_quiet setup.keep_epochs (epoch_of s.slot) moment (votes_plan setup s ds proposed) (votes_quiet setup s ds proposed))

ready_quiet : (setup : DutySetup) (active : List PubKey) (slot : ℕ) (o : Option Standing) → At slot o → Quiet setup.keep_epochs (epoch_of slot) (ready_plan setup active o)
ready_quiet setup active slot None at = done_quiet setup.keep_epochs (epoch_of slot) (Err end.Write)
ready_quiet setup active slot (Some s) at =
    let t = with_active active s in
    let P : ℕ → Type 0 = λ n. Quiet setup.keep_epochs (epoch_of n) (ready_plan setup active (Some s)) in
    subst P at (looks_up_quiet setup.keep_epochs (epoch_of s.slot) s.answers s.slot active (due_plan setup t) (due_quiet setup t))

any_wait : (steps : List TurnStep) → AllWaits (λ moment reached. Unit {0}) steps
any_wait [] = tt
any_wait ((c, r) ∷ steps) = (one c r, any_wait steps) where
  one : (d : TurnCall) (q : TurnReply) → IsWait (λ moment reached. Unit {0}) (d, q)
  one (Waits moment) (Woke reached) = tt
  one d q = tt

listed_quiet : (setup : DutySetup) (s : Standing) (r : DeskReply) → Quiet setup.keep_epochs (epoch_of s.slot) (listed_plan setup s r)
listed_quiet setup s (reply.Keys listed) from =
    let active = active_of listed in
    bind_merging setup.keep_epochs (epoch_of s.slot) (asked_plan setup listed active s) (ready_plan setup active) from (asked_part setup.keep_epochs (epoch_of s.slot) setup listed active s from)
    (λ mid o f. ready_quiet setup active s.slot o (asked_stays (λ moment reached. Unit {0}) s.slot setup listed active s refl mid (Some o) f (any_wait mid)).1)
listed_quiet setup s r from = stop_quiet setup.keep_epochs (epoch_of s.slot) from

woken_turn : (setup : DutySetup) (s : Standing) (reached : ℕ) → Quiet setup.keep_epochs (epoch_of s.slot) (woken_plan setup s reached)
woken_turn setup s reached =
    let next = at_moment setup.genesis_time (slot_start setup.genesis_time s.slot) reached s in
    let keys = calls call.Keys (listed_plan setup s) in
    let part = shortens s keys in
    if_quiet setup.keep_epochs (epoch_of s.slot) (is_missed setup.genesis_time s.slot (slot_start setup.genesis_time s.slot) reached) (close_plan setup s.slot [] [] next) (refreshes (refreshes_lanes part))
    (close_quiet setup s.slot [] [] next)
    (refreshes_quiet setup.keep_epochs (epoch_of s.slot) (refreshes_lanes part) (refreshes_lanes_quiet setup.keep_epochs (epoch_of s.slot) part
    (shortens_quiet setup.keep_epochs (epoch_of s.slot) s keys (calls_quiet setup.keep_epochs (epoch_of s.slot) call.Keys (listed_plan setup s) (λ from. tt) (listed_quiet setup s)))))

pub turn_merges : (setup : DutySetup) (s : Standing) (steps : List TurnStep) (v : Option (Result Standing DutyEnd)) → Follows Fits (turn_plan setup s) steps v → MergesOnly setup.keep_epochs (epoch_of s.slot) None steps
turn_merges setup s steps v f =
    waits_quiet setup.keep_epochs (epoch_of s.slot) (slot_start setup.genesis_time s.slot) (woken_plan setup s) (woken_turn setup s) None steps v f
