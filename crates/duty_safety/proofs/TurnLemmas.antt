-- Turns whose waits are over in their slots drop nothing.
use Rattle.std.proofs.Common.{◌≡◌, ℕ, zero, suc, ◌≤◌, ◌<◌, ◌^◌, true, false, List, [], ◌∷◌, ◌++◌, length, Option, Some, None, Result, Ok, Err, refl, sym, subst, arith}
use Rattle.std.specs.Prelude.{max, nat_lt}
use Rattle.std.proofs.lemmas.Bool.{le-ltb}
use Rattle.edge_kit.specs.declared.bytes.PubKey.{PubKey}
use Rattle.slash_defs.specs.declared.book.Book.{Book}
use Rattle.slash_defs.specs.declared.book.File.{File}
use Rattle.slash_defs.specs.declared.message.Message.{Message}
use Rattle.edge_clock.specs.Clocks.{IsWaited}
use Rattle.desk_machine.specs.declared.call.DeskCall.{DeskCall}
use Rattle.desk_machine.specs.declared.call.DeskCall.TheVariants as call
use Rattle.desk_machine.specs.declared.call.DeskReply.{DeskReply}
use Rattle.desk_machine.specs.declared.call.DeskReply.TheVariants as reply
use Rattle.duty_schedule.specs.declared.rows.Duty.{Duty}
use Rattle.call_plans.specs.Paths.{Path}
use Rattle.call_plans.specs.Plans.{Follows}
use Rattle.duty_plans.specs.Steps.{Calls}
use Rattle.duty_plans.specs.declared.ended.Ended.{Ended}
use Rattle.duty_plans.specs.declared.result.DutyResult.{DutyResult}
use Rattle.duty_plans.specs.declared.task.Task.{Task}
use Rattle.duty_plans.specs.Choices.{aggregate_tasks, reports}
use Rattle.duty_plans.specs.Ends.{merged, results_of}
use Rattle.duty_plans.specs.Tasks.{again_tasks, fresh}
use Rattle.duty_plans.specs.Votes.{data_tasks, vote_answers, vote_ends, vote_tasks}
use Rattle.duty_plans.specs.declared.setup.DutySetup.{DutySetup}
use Rattle.duty_plans.specs.declared.work.SlotWork.{SlotWork}
use Rattle.duty_turns.specs.declared.held.DutyEnd.{DutyEnd}
use Rattle.duty_turns.specs.declared.held.DutyEnd.TheVariants as end
use Rattle.duty_turns.specs.Lines.{aggregate_lines, duty_lines}
use Rattle.duty_turns.specs.Recording.{allowed_of, recorded}
use Rattle.duty_turns.specs.Standing.{Standing}
use Rattle.duty_pruning.specs.Pruning.{pruning_file}
use Rattle.duty_turns.specs.Times.{again_start, aggregates_start, epoch_of, is_first_slot, is_missed, next_slot, slot_of, slot_start, votes_start}
use Rattle.duty_turns.specs.TurnSteps.{Does, Fits, House, TurnCall, TurnPlan, TurnReply, TurnStep, LooksUp, Own, Refreshes, RefreshesLanes, Waits, Works, Writes, Woke, Wrote}
use Rattle.duty_turns.specs.Turns.{Next, NextPlan, active_of, after_wait, again_plan, aggregates_plan, left_plan, tried_plan, asked_plan, at_moment, at_slot, blocks_in, calls, casts, casts_for, choices_of, chooses_plan, close_plan, due_plan, exported, exports, failed_plan, finish_plan, found, gathers_plan, keys_of_turn, lanes_refreshed, listed_plan, merges, next_turn, own_reply, prunes, puts, ready_plan, records, records_allowed, records_votes, refreshed, refreshes, refreshes_lanes, is_worth_compacting, report_plan, shortens, sized, told_plan, turn_plan, turns_plan, unless_short, votes_in, votes_plan, waits, with_active, woken, woken_plan, work_of, worked, works, wrote}
use Rattle.duty_safety.specs.OnTime.{AllWaits, AreOnTime, IsWait, Wait, WakesInSlot, again_on_time, aggregates_on_time, cast_plan, chooses_on_time, done_plan, gathers_on_time, left_on_time, listed_on_time, on_time_turn, on_time_turns, ready_on_time, told_on_time, tried_on_time}
use Rattle.duty_safety.proofs.KeepLemmas.{Keeps, found_keeps, keeps_ask, keeps_bind, keeps_done, keeps_else, keeps_if, keeps_stop, lanes_refreshed_keeps, refreshed_keeps, woken_keeps, worked_keeps}
use Rattle.duty_safety.proofs.AskedLemmas.{At, asked_stays}

-- ---- slots

start_slot : (genesis slot : ℕ) → slot_of genesis (slot_start genesis slot) ≤ slot
start_slot genesis slot = omega arith

votes_slot : (genesis slot : ℕ) → slot_of genesis (votes_start genesis slot) ≤ slot
votes_slot genesis slot = omega arith

again_slot : (genesis slot : ℕ) → slot_of genesis (again_start genesis slot) ≤ slot
again_slot genesis slot = omega arith

aggregates_slot : (genesis slot : ℕ) → slot_of genesis (aggregates_start genesis slot) ≤ slot
aggregates_slot genesis slot = omega arith

slot_behind : (first slot : ℕ) → first < 2 ^ 64 → first ≤ slot → first ≤ next_slot slot
slot_behind first slot cap below = omega arith

not_missed : (genesis slot moment reached : ℕ) → slot_of genesis reached ≤ slot → moment ≤ reached → is_missed genesis slot moment reached ≡ false
not_missed genesis slot moment reached h k =
    let within : nat_lt slot (slot_of genesis reached) ≡ false = le-ltb slot (slot_of genesis reached) h in
    let past : nat_lt reached moment ≡ false = le-ltb reached moment k in
    rw (within, past) refl

-- from this slot on, a wait for a moment of a slot misses neither
abbrev Bounds : DutySetup → Wait → ℕ → Type 0
Bounds setup W first = (slot moment reached : ℕ) → first ≤ slot → slot_of setup.genesis_time moment ≤ slot → W moment reached → is_missed setup.genesis_time slot moment reached ≡ false

-- the next turn is of this slot or a later one
abbrev From : ℕ → Next → Type 0
From first (Ok s) = first ≤ s.slot
From first (Err ended) = Unit {0}

-- ---- the end of a turn

failed_keeps : (W : Wait) (first : ℕ) (s : Standing) (r : DeskReply) → first ≤ s.slot → Keeps W (From first) (failed_plan s r) (failed_plan s r)
failed_keeps W first s (reply.HasFailed true) h = keeps_done W (From first) (Err end.Disk) tt
failed_keeps W first s r h = keeps_done W (From first) (Ok s) h

unless_short_keeps : (W : Wait) (first : ℕ) (r : DeskReply) (p q : NextPlan) → Keeps W (From first) p q → Keeps W (From first) (unless_short r p) (unless_short r q)
unless_short_keeps W first reply.OutOfMemory p q h = keeps_stop W (From first)
unless_short_keeps W first r p q h = h

merges_keeps : (W : Wait) (first : ℕ) (file : File) (books : List (PubKey × Book)) (p q : NextPlan) → Keeps W (From first) p q → Keeps W (From first) (merges file books p) (merges file books q)
merges_keeps W first file [] p q h = h
merges_keeps W first file (b ∷ books) p q h =
    keeps_ask W (From first) (Own (Calls (call.Merge file))) (λ r. unless_short (own_reply r) p) (λ r. unless_short (own_reply r) q) (λ r w. unless_short_keeps W first (own_reply r) p q h)

exported_keeps : (W : Wait) (first keep epoch : ℕ) (r : DeskReply) (p q : NextPlan) → Keeps W (From first) p q → Keeps W (From first) (exported keep epoch r p) (exported keep epoch r q)
exported_keeps W first keep epoch (reply.Exported file) p q h = merges_keeps W first (pruning_file keep epoch file) (pruning_file keep epoch file).books p q h
exported_keeps W first keep epoch r p q h = unless_short_keeps W first r p q h

exports_keeps : (W : Wait) (first keep epoch : ℕ) (keys : List PubKey) (p q : NextPlan) → Keeps W (From first) p q → Keeps W (From first) (exports keep epoch keys p) (exports keep epoch keys q)
exports_keeps W first keep epoch [] p q h = h
exports_keeps W first keep epoch (key ∷ keys) p q h =
    keeps_ask W (From first) (Own (Calls (call.Export (key ∷ keys)))) (λ r. exported keep epoch (own_reply r) p) (λ r. exported keep epoch (own_reply r) q) (λ r w. exported_keeps W first keep epoch (own_reply r) p q h)

prunes_keeps : (W : Wait) (first : ℕ) (keep_epochs : Option ℕ) (slot : ℕ) (active : Option (List PubKey)) (p q : NextPlan) → Keeps W (From first) p q → Keeps W (From first) (prunes keep_epochs slot active p) (prunes keep_epochs slot active q)
prunes_keeps W first None slot active p q h = h
prunes_keeps W first (Some keep) slot None p q h = h
prunes_keeps W first (Some keep) slot (Some active) p q h = exports_keeps W first keep (epoch_of slot) (keys_of_turn slot active) p q h

finish_keeps : (W : Wait) (first : ℕ) (setup : DutySetup) (slot : ℕ) (s : Standing) → first ≤ s.slot → Keeps W (From first) (finish_plan setup slot s) (finish_plan setup slot s)
finish_keeps W first setup slot s h =
    let asks : NextPlan = calls call.HasFailed (failed_plan s) in
    prunes_keeps W first setup.keep_epochs slot s.active asks asks
    (keeps_ask W (From first) (Own (Calls call.HasFailed)) (λ r. failed_plan s (own_reply r)) (λ r. failed_plan s (own_reply r)) (λ r w. failed_keeps W first s (own_reply r) h))

wrote_keeps : (W : Wait) (first : ℕ) (r : TurnReply) (p q : NextPlan) → Keeps W (From first) p q → Keeps W (From first) (wrote r p) (wrote r q)
wrote_keeps W first (Wrote true piece) p q h = h
wrote_keeps W first r p q h = keeps_done W (From first) (Err end.Write) tt

puts_keeps : (W : Wait) (first : ℕ) (text : List ℕ) (p q : NextPlan) → Keeps W (From first) p q → Keeps W (From first) (puts text p) (puts text q)
puts_keeps W first text p q h = keeps_ask W (From first) (Writes text) (λ r. wrote r p) (λ r. wrote r q) (λ r w. wrote_keeps W first r p q h)

report_keeps : (W : Wait) (first : ℕ) (setup : DutySetup) (slot : ℕ) (choices : List Task) (found : List (Option DutyResult)) (s : Standing) → first ≤ s.slot → Keeps W (From first) (report_plan setup slot choices found s) (report_plan setup slot choices found s)
report_keeps W first setup slot choices found s h = puts_keeps W first (aggregate_lines slot choices found) (finish_plan setup slot s) (finish_plan setup slot s) (finish_keeps W first setup slot s h)

-- ---- what stands between

sized_keeps : (W : Wait) (first : ℕ) (r : DeskReply) (p q : NextPlan) → Keeps W (From first) p q → Keeps W (From first) (sized r p) (sized r q)
sized_keeps W first (reply.Size size weight) p q h =
    keeps_if W (From first) (is_worth_compacting size weight) (calls call.Compact (λ r. unless_short r p)) p (calls call.Compact (λ r. unless_short r q)) q
    (keeps_ask W (From first) (Own (Calls call.Compact)) (λ r. unless_short (own_reply r) p) (λ r. unless_short (own_reply r) q) (λ r w. unless_short_keeps W first (own_reply r) p q h)) h
sized_keeps W first r p q h = keeps_stop W (From first)

shortens_keeps : (W : Wait) (first : ℕ) (s : Standing) (p q : NextPlan) → Keeps W (From first) p q → Keeps W (From first) (shortens s p) (shortens s q)
shortens_keeps W first s p q h =
    keeps_if W (From first) (is_first_slot s.slot) (calls call.Size (λ r. sized r p)) p (calls call.Size (λ r. sized r q)) q
    (keeps_ask W (From first) (Own (Calls call.Size)) (λ r. sized (own_reply r) p) (λ r. sized (own_reply r) q) (λ r w. sized_keeps W first (own_reply r) p q h)) h

works_keep : (W : Wait) (first : ℕ) (work : SlotWork) (place : ℕ) (tasks : List Task) (f g : List Ended → NextPlan) → ((ends : List Ended) → Keeps W (From first) (f ends) (g ends))
    → Keeps W (From first) (works work place tasks f) (works work place tasks g)
works_keep W first work place tasks f g h = keeps_ask W (From first) (Works work place tasks) (λ r. worked r f) (λ r. worked r g) (λ r is. worked_keeps W (From first) r f g h)

-- ---- votes that are recorded together, and then cast

records_keep : (W : Wait) (first now : ℕ) (ms : List (PubKey × Message)) (p q : NextPlan) → Keeps W (From first) p q → Keeps W (From first) (records now ms p) (records now ms q)
records_keep W first now [] p q h = h
records_keep W first now (m ∷ ms) p q h =
    keeps_ask W (From first) (Own (Calls (call.Record (m ∷ ms) now))) (λ r. unless_short (own_reply r) p) (λ r. unless_short (own_reply r) q) (λ r is. unless_short_keeps W first (own_reply r) p q h)

records_free_keep : (W : Wait) (first : ℕ) (work : SlotWork) (tasks : List Task) (r : DeskReply) (p q : NextPlan) → Keeps W (From first) p q → Keeps W (From first) (records_allowed work tasks r p) (records_allowed work tasks r q)
records_free_keep W first work tasks (reply.Keys listed) p q h = records_keep W first work.moment (recorded work.domains (allowed_of listed) tasks) p q h
records_free_keep W first work tasks r p q h = keeps_stop W (From first)

records_votes_keep : (W : Wait) (first : ℕ) (work : SlotWork) (tasks : List Task) (p q : NextPlan) → Keeps W (From first) p q → Keeps W (From first) (records_votes work tasks p) (records_votes work tasks q)
records_votes_keep W first work [] p q h = h
records_votes_keep W first work (t ∷ tasks) p q h =
    keeps_ask W (From first) (Own (Calls call.Keys)) (λ r. records_allowed work (t ∷ tasks) (own_reply r) p) (λ r. records_allowed work (t ∷ tasks) (own_reply r) q)
    (λ r is. records_free_keep W first work (t ∷ tasks) (own_reply r) p q h)

casts_for_keep : (W : Wait) (first : ℕ) (work : SlotWork) (place : ℕ) (votes : List Duty) (f g : List Ended → NextPlan) → ((ends : List Ended) → Keeps W (From first) (f ends) (g ends))
    → (asked : List Ended) → Keeps W (From first) (casts_for work place votes f asked) (casts_for work place votes g asked)
casts_for_keep W first work place votes f g h asked =
    let tasks = vote_tasks votes asked in
    let old : List Ended → NextPlan = λ cast. f (vote_ends asked cast) in
    let new : List Ended → NextPlan = λ cast. g (vote_ends asked cast) in
    records_votes_keep W first work tasks (works work place tasks old) (works work place tasks new) (works_keep W first work place tasks old new (λ cast. h (vote_ends asked cast)))

casts_keep : (W : Wait) (first : ℕ) (work : SlotWork) (place : ℕ) (votes : List Duty) (f g : List Ended → NextPlan) → ((ends : List Ended) → Keeps W (From first) (f ends) (g ends))
    → Keeps W (From first) (casts work place votes f) (casts work place votes g)
casts_keep W first work place votes f g h =
    works_keep W first work place (data_tasks votes) (λ ends. casts_for work place votes f (vote_answers votes ends)) (λ ends. casts_for work place votes g (vote_answers votes ends))
    (λ ends. casts_for_keep W first work place votes f g h (vote_answers votes ends))

-- ---- a turn

module _ (setup : DutySetup) (W : Wait) (first : ℕ) (cap : first < 2 ^ 64) (bounds : Bounds setup W first) where
  aggregates_keep : (s : Standing) (choices : List Task) (chosen : List Ended) (tasks : List Task) (reached : ℕ) → first ≤ s.slot → W (aggregates_start setup.genesis_time s.slot) reached
      → Keeps W (From first) (aggregates_plan setup s choices chosen tasks reached) (aggregates_on_time setup s choices chosen tasks)
  aggregates_keep s choices chosen tasks reached h w =
      let moment = aggregates_start setup.genesis_time s.slot in
      let next = at_slot (next_slot s.slot) s in
      let after : List Ended → NextPlan = λ ends. report_plan setup s.slot choices (reports chosen ends) next in
      let all = aggregates_on_time setup s choices chosen tasks in
      keeps_else W (From first) (is_missed setup.genesis_time s.slot moment reached) (report_plan setup s.slot choices (reports chosen []) (after_wait setup.genesis_time moment reached s)) all all
      (bounds s.slot moment reached h (aggregates_slot setup.genesis_time s.slot) w)
      (works_keep W first (work_of setup s) 0 tasks after after (λ ends. report_keeps W first setup s.slot choices (reports chosen ends) next (slot_behind first s.slot cap h)))

  gathers_keep : (s : Standing) (choices : List Task) (chosen : List Ended) (tasks : List Task) → first ≤ s.slot → Keeps W (From first) (gathers_plan setup s choices chosen tasks) (gathers_on_time setup s choices chosen tasks)
  gathers_keep s choices chosen [] h = report_keeps W first setup s.slot choices (reports chosen []) (at_slot (next_slot s.slot) s) (slot_behind first s.slot cap h)
  gathers_keep s choices chosen (t ∷ tasks) h =
      let moment = aggregates_start setup.genesis_time s.slot in
      let old : ℕ → NextPlan = aggregates_plan setup s choices chosen (t ∷ tasks) in
      let new : ℕ → NextPlan = λ reached. aggregates_on_time setup s choices chosen (t ∷ tasks) in
      keeps_ask W (From first) (Waits moment) (λ x. woken x old) (λ x. woken x new) (λ x is. woken_keeps W (From first) moment x old new is (λ reached on. aggregates_keep s choices chosen (t ∷ tasks) reached h on))

  chooses_keep : (s : Standing) (choices : List Task) → first ≤ s.slot → Keeps W (From first) (chooses_plan setup s choices) (chooses_on_time setup s choices)
  chooses_keep s [] h = finish_keeps W first setup s.slot (at_slot (next_slot s.slot) s) (slot_behind first s.slot cap h)
  chooses_keep s (t ∷ choices) h =
      let old : List Ended → NextPlan = λ chosen. gathers_plan setup s (t ∷ choices) chosen (aggregate_tasks (t ∷ choices) chosen) in
      let new : List Ended → NextPlan = λ chosen. gathers_on_time setup s (t ∷ choices) chosen (aggregate_tasks (t ∷ choices) chosen) in
      works_keep W first (work_of setup s) 0 (t ∷ choices) old new (λ chosen. gathers_keep s (t ∷ choices) chosen (aggregate_tasks (t ∷ choices) chosen) h)

  told_keep : (s : Standing) (ds : List Duty) (ends : List Ended) (results : List DutyResult) → first ≤ s.slot → Keeps W (From first) (told_plan setup s ds ends results) (told_on_time setup s ds ends results)
  told_keep s ds ends results h =
      let choices = choices_of setup ds ends in
      puts_keeps W first (duty_lines s.slot ds results) (chooses_plan setup s choices) (chooses_on_time setup s choices) (chooses_keep s choices h)

  tried_keep : (s : Standing) (ds : List Duty) (ends : List Ended) (tasks : List Task) (reached : ℕ) → first ≤ s.slot → W (again_start setup.genesis_time s.slot) reached
      → Keeps W (From first) (tried_plan setup s ds ends tasks reached) (tried_on_time setup s ds ends tasks)
  tried_keep s ds ends tasks reached h w =
      let moment = again_start setup.genesis_time s.slot in
      let old : List Ended → NextPlan = λ again. told_plan setup s ds ends (merged ends again) in
      let new : List Ended → NextPlan = λ again. told_on_time setup s ds ends (merged ends again) in
      keeps_else W (From first) (is_missed setup.genesis_time s.slot moment reached) (close_plan setup s.slot ds (results_of ends) (after_wait setup.genesis_time moment reached s)) (works (work_of setup s) 0 tasks old) (tried_on_time setup s ds ends tasks)
      (bounds s.slot moment reached h (again_slot setup.genesis_time s.slot) w)
      (works_keep W first (work_of setup s) 0 tasks old new (λ again. told_keep s ds ends (merged ends again) h))

  left_keep : (s : Standing) (ds : List Duty) (ends : List Ended) (tasks : List Task) → first ≤ s.slot → Keeps W (From first) (left_plan setup s ds ends tasks) (left_on_time setup s ds ends tasks)
  left_keep s ds ends [] h = told_keep s ds ends (results_of ends) h
  left_keep s ds ends (t ∷ tasks) h =
      let moment = again_start setup.genesis_time s.slot in
      let old : ℕ → NextPlan = tried_plan setup s ds ends (t ∷ tasks) in
      let new : ℕ → NextPlan = λ reached. tried_on_time setup s ds ends (t ∷ tasks) in
      keeps_ask W (From first) (Waits moment) (λ x. woken x old) (λ x. woken x new) (λ x is. woken_keeps W (From first) moment x old new is (λ reached on. tried_keep s ds ends (t ∷ tasks) reached h on))

  cast_keeps : (s : Standing) (ds : List Duty) (proposed : List Ended) → first ≤ s.slot
      → Keeps W (From first) (casts (work_of setup s) (length (blocks_in ds)) (votes_in ds) (λ cast. again_plan setup s (blocks_in ds ++ votes_in ds) (proposed ++ cast))) (cast_plan setup s ds proposed)
  cast_keeps s ds proposed h =
      let all : List Duty = blocks_in ds ++ votes_in ds in
      let old : List Ended → NextPlan = λ cast. again_plan setup s all (proposed ++ cast) in
      let new : List Ended → NextPlan = λ cast. again_on_time setup s all (proposed ++ cast) in
      casts_keep W first (work_of setup s) (length (blocks_in ds)) (votes_in ds) old new (λ cast. left_keep s all (proposed ++ cast) (again_tasks all (proposed ++ cast)) h)

  votes_keep : (s : Standing) (ds : List Duty) (proposed : List Ended) (reached : ℕ) → first ≤ s.slot → W (votes_start setup.genesis_time s.slot) reached
      → Keeps W (From first) (votes_plan setup s ds proposed reached) (cast_plan setup s ds proposed)
  votes_keep s ds proposed reached h w =
      let moment = votes_start setup.genesis_time s.slot in
      let cast = casts (work_of setup s) (length (blocks_in ds)) (votes_in ds) (λ ends. again_plan setup s (blocks_in ds ++ votes_in ds) (proposed ++ ends)) in
      keeps_else W (From first) (is_missed setup.genesis_time s.slot moment reached) (close_plan setup s.slot (blocks_in ds) (results_of proposed) (at_moment setup.genesis_time moment reached s)) cast (cast_plan setup s ds proposed)
      (bounds s.slot moment reached h (votes_slot setup.genesis_time s.slot) w) (cast_keeps s ds proposed h)

  due_keeps : (s : Standing) (ds : List Duty) → first ≤ s.slot → Keeps W (From first) (due_plan setup s ds) (done_plan setup s ds)
  due_keeps s ds h =
      let moment = votes_start setup.genesis_time s.slot in
      let old : List Ended → NextPlan = λ proposed. waits moment (votes_plan setup s ds proposed) in
      let new : List Ended → NextPlan = λ proposed. waits moment (λ reached. cast_plan setup s ds proposed) in
      works_keep W first (work_of setup s) 0 (fresh (blocks_in ds)) old new (λ proposed.
      keeps_ask W (From first) (Waits moment) (λ x. woken x (votes_plan setup s ds proposed)) (λ x. woken x (λ reached. cast_plan setup s ds proposed)) (λ x is.
      woken_keeps W (From first) moment x (votes_plan setup s ds proposed) (λ reached. cast_plan setup s ds proposed) is (λ reached on. votes_keep s ds proposed reached h on)))

  ready_keeps : (slot : ℕ) (active : List PubKey) → first ≤ slot → (o : Option Standing) → At slot o → Keeps W (From first) (ready_plan setup active o) (ready_on_time setup active o)
  ready_keeps slot active h None e = keeps_done W (From first) (Err end.Write) tt
  ready_keeps slot active h (Some s) e =
      let old : List Duty → NextPlan = due_plan setup (with_active active s) in
      let new : List Duty → NextPlan = done_plan setup (with_active active s) in
      let below : first ≤ s.slot = subst (λ (n : ℕ). first ≤ n) (sym e) h in
      keeps_ask W (From first) (LooksUp s.answers s.slot active) (λ r. found r old) (λ r. found r new)
      (λ r w. found_keeps W (From first) r old new (λ ds. due_keeps (with_active active s) ds below))

  listed_keeps : (s : Standing) (r : DeskReply) → first ≤ s.slot → Keeps W (From first) (listed_plan setup s r) (listed_on_time setup s r)
  listed_keeps s (reply.Keys listed) h =
      let active = active_of listed in
      let asked = asked_plan setup listed active s in
      keeps_bind W (At s.slot) (From first) asked asked (ready_plan setup active) (ready_on_time setup active) (asked_stays W s.slot setup listed active s refl) (ready_keeps s.slot active h)
  listed_keeps s r h = keeps_stop W (From first)

  woken_late : (s : Standing) (reached : ℕ) → first ≤ s.slot → W (slot_start setup.genesis_time s.slot) reached
      → Keeps W (From first) (woken_plan setup s reached) (refreshes (refreshes_lanes (shortens s (calls call.Keys (listed_on_time setup s)))))
  woken_late s reached h w =
      let old = shortens s (calls call.Keys (listed_plan setup s)) in
      let new = shortens s (calls call.Keys (listed_on_time setup s)) in
      let moment = slot_start setup.genesis_time s.slot in
      keeps_else W (From first) (is_missed setup.genesis_time s.slot moment reached) (close_plan setup s.slot [] [] (at_moment setup.genesis_time moment reached s)) (refreshes (refreshes_lanes old)) (refreshes (refreshes_lanes new))
      (bounds s.slot moment reached h (start_slot setup.genesis_time s.slot) w)
      (keeps_ask W (From first) Refreshes (λ r. refreshed r (refreshes_lanes old)) (λ r. refreshed r (refreshes_lanes new)) (λ r is. refreshed_keeps W (From first) r (refreshes_lanes old) (refreshes_lanes new)
      (keeps_ask W (From first) RefreshesLanes (λ r. lanes_refreshed r old) (λ r. lanes_refreshed r new) (λ r is. lanes_refreshed_keeps W (From first) r old new
      (shortens_keeps W first s (calls call.Keys (listed_plan setup s)) (calls call.Keys (listed_on_time setup s))
      (keeps_ask W (From first) (Own (Calls call.Keys)) (λ r. listed_plan setup s (own_reply r)) (λ r. listed_on_time setup s (own_reply r)) (λ r is. listed_keeps s (own_reply r) h)))))))

  turn_keeps : (s : Standing) → first ≤ s.slot → Keeps W (From first) (turn_plan setup s) (on_time_turn setup s)
  turn_keeps s h =
      let moment = slot_start setup.genesis_time s.slot in
      let new : ℕ → NextPlan = λ reached. refreshes (refreshes_lanes (shortens s (calls call.Keys (listed_on_time setup s)))) in
      keeps_ask W (From first) (Waits moment) (λ r. woken r (woken_plan setup s)) (λ r. woken r new)
      (λ r is. woken_keeps W (From first) moment r (woken_plan setup s) new is (λ reached w. woken_late s reached h w))

  -- ---- turn after turn

  abbrev Any : Result (Unit {0}) DutyEnd → Type 0
  Any r = Unit {0}

  next_keeps : (p q : Standing → TurnPlan (Result (Unit {0}) DutyEnd)) → ((t : Standing) → first ≤ t.slot → Keeps W Any (p t) (q t)) → (x : Next) → From first x → Keeps W Any (next_turn p x) (next_turn q x)
  next_keeps p q on (Ok t) from = on t from
  next_keeps p q on (Err ended) from = keeps_done W Any (Err ended) tt

  turns_keep : (n : ℕ) (s : Standing) → first ≤ s.slot → Keeps W Any (turns_plan setup n s) (on_time_turns setup n s)
  turns_keep zero s h = keeps_done W Any (Ok tt) tt
  turns_keep (suc n) s h =
      keeps_bind W (From first) Any (turn_plan setup s) (on_time_turn setup s) (next_turn (turns_plan setup n)) (next_turn (on_time_turns setup n)) (turn_keeps s h)
      (next_keeps (turns_plan setup n) (on_time_turns setup n) (λ t from. turns_keep n t from))

-- ---- each wait is over in the slot for which it was

in_slot : (setup : DutySetup) → Bounds setup (WakesInSlot setup) 0
in_slot setup slot moment reached first below on =
    let here : slot_of setup.genesis_time reached ≤ slot = omega (arith, on.1) in
    not_missed setup.genesis_time slot moment reached here on.0

pub turn_on_time : (setup : DutySetup) (s : Standing) (steps : List TurnStep) (v : Option Next) → Follows Fits (turn_plan setup s) steps v → AreOnTime setup steps → Follows Fits (on_time_turn setup s) steps v
turn_on_time setup s steps v f on = (turn_keeps setup (WakesInSlot setup) 0 (omega arith) (in_slot setup) s (omega arith) steps v f on).0

pub turns_on_time : (setup : DutySetup) (n : ℕ) (s : Standing) (steps : List TurnStep) (v : Option (Result (Unit {0}) DutyEnd))
    → Follows Fits (turns_plan setup n s) steps v → AreOnTime setup steps → Follows Fits (on_time_turns setup n s) steps v
turns_on_time setup n s steps v f on = (turns_keep setup (WakesInSlot setup) 0 (omega arith) (in_slot setup) n s (omega arith) steps v f on).0

-- ---- the clock is on time

step_waits : {K : Type 0} (leads : K → List (DeskCall × DeskReply) → K → Type 0) (start : Option ℕ) (a b : House K) (c : TurnCall) (r : TurnReply) → Does leads start a (c, r) b → IsWait (IsWaited start) (c, r)
step_waits leads start a b (Waits moment) (Woke reached) d = d.0
step_waits leads start a b c r d = tt

path_waits : {K : Type 0} (leads : K → List (DeskCall × DeskReply) → K → Type 0) (start : Option ℕ) (a b : House K) (steps : List TurnStep) → Path (Does leads start) a steps b → AllWaits (IsWaited start) steps
path_waits leads start a b [] p = tt
path_waits leads start a b ((c, r) ∷ steps) p = (step_waits leads start a p.0 c r p.1, path_waits leads start p.0 b steps p.2)

later_slot : (genesis start moment slot : ℕ) → slot_of genesis start ≤ slot → slot_of genesis moment ≤ slot → slot_of genesis (max start moment) ≤ slot
later_slot genesis start moment slot h k = omega arith

started : (setup : DutySetup) (start : ℕ) → Bounds setup (IsWaited (Some start)) (slot_of setup.genesis_time start)
started setup start slot moment reached first below on =
    let P : ℕ → Type 0 = λ n. slot_of setup.genesis_time n ≤ slot in
    let past : moment ≤ reached = omega arith in
    not_missed setup.genesis_time slot moment reached (subst P (sym on) (later_slot setup.genesis_time start moment slot first below)) past

small_slot : (genesis start : ℕ) → start < 2 ^ 64 → slot_of genesis start < 2 ^ 64
small_slot genesis start h = omega arith

pub clock_on_time : {K : Type 0} (leads : K → List (DeskCall × DeskReply) → K → Type 0) (start n : ℕ) (setup : DutySetup) (s : Standing) (a b : House K) (steps : List TurnStep) (v : Option (Result (Unit {0}) DutyEnd))
    → start < 2 ^ 64 → slot_of setup.genesis_time start ≤ s.slot → Path (Does leads (Some start)) a steps b → Follows Fits (turns_plan setup n s) steps v → Follows Fits (on_time_turns setup n s) steps v
clock_on_time leads start n setup s a b steps v small below path f =
    (turns_keep setup (IsWaited (Some start)) (slot_of setup.genesis_time start) (small_slot setup.genesis_time start small) (started setup start) n s below steps v f (path_waits leads (Some start) a b steps path)).0
