-- What the last step was where the turns end before their number.
use Rattle.std.proofs.Common.{◌≡◌, ℕ, zero, suc, true, false, List, [], ◌∷◌, ◌++◌, length, Option, Some, None, Result, Ok, Err, refl}
use Rattle.edge_kit.specs.declared.bytes.PubKey.{PubKey}
use Rattle.slash_defs.specs.declared.book.Book.{Book}
use Rattle.slash_defs.specs.declared.book.File.{File}
use Rattle.slash_defs.specs.declared.message.Message.{Message}
use Rattle.desk_machine.specs.declared.call.DeskCall.TheVariants as call
use Rattle.desk_machine.specs.declared.call.DeskReply.{DeskReply}
use Rattle.desk_machine.specs.declared.call.DeskReply.TheVariants as reply
use Rattle.duty_schedule.specs.declared.rows.Duty.{Duty}
use Rattle.call_plans.specs.Plans.{Follows}
use Rattle.duty_plans.specs.Steps.{Calls, Replies}
use Rattle.duty_plans.specs.declared.ended.Ended.{Ended}
use Rattle.duty_plans.specs.declared.result.DutyResult.{DutyResult}
use Rattle.duty_plans.specs.declared.task.Task.{Task}
use Rattle.duty_plans.specs.Choices.{aggregate_tasks, reports}
use Rattle.duty_plans.specs.Ends.{merged, results_of}
use Rattle.duty_plans.specs.Tasks.{again_tasks, fresh}
use Rattle.duty_plans.specs.Votes.{data_tasks, vote_answers, vote_ends, vote_tasks}
use Rattle.duty_plans.specs.declared.work.SlotWork.{SlotWork}
use Rattle.duty_plans.specs.declared.setup.DutySetup.{DutySetup}
use Rattle.duty_turns.specs.declared.held.DutyEnd.{DutyEnd}
use Rattle.duty_turns.specs.declared.held.DutyEnd.TheVariants as end
use Rattle.duty_turns.specs.Recording.{allowed_of, recorded}
use Rattle.duty_turns.specs.Lines.{aggregate_lines, duty_lines}
use Rattle.duty_turns.specs.Standing.{Standing}
use Rattle.duty_pruning.specs.Pruning.{pruning_file}
use Rattle.duty_turns.specs.Times.{again_start, aggregates_start, epoch_of, is_first_slot, is_missed, next_slot, slot_start, votes_start}
use Rattle.duty_turns.specs.TurnSteps.{TurnPlan, TurnReply, TurnStep, Fits, Own, Owned, Writes, Wrote}
use Rattle.duty_turns.specs.Turns.{Next, NextPlan, active_of, after_wait, again_plan, aggregates_plan, asked_plan, at_moment, at_slot, blocks_in, calls, casts, casts_for, choices_of, chooses_plan, close_plan, due_plan, exported, exports, failed_plan, finish_plan, gathers_plan, keys_of_turn, left_plan, merges, listed_plan, next_turn, own_reply, prunes, puts, ready_plan, records, records_allowed, records_votes, report_plan, refreshes, refreshes_lanes, is_worth_compacting, shortens, sized, told_plan, tried_plan, turn_plan, turns_plan, unless_short, votes_in, votes_plan, waits, with_active, woken_plan, work_of, works, wrote}
use Rattle.duty_loop.proofs.GivesLemmas.{Always, Gives, Said, calls_always, gives_ask, gives_bind, gives_done, if_always, looks_up_always, refreshes_always, refreshes_lanes_always, stop_always, waits_always, works_always}
use Rattle.duty_loop.proofs.PartLemmas.{EndInCut, WhyNone, asked_part}

-- with the last of these steps the desk said that its disk failed
abbrev pub EndAtDisk : List TurnStep → Type 0
EndAtDisk steps = (front : List TurnStep) × (steps ≡ front ++ (Own (Calls call.HasFailed), Owned (Replies (reply.HasFailed true))) ∷ [])

abbrev pub WhyEnd : List TurnStep → DutyEnd → Type 0
WhyEnd steps end.Disk = EndAtDisk steps
WhyEnd steps end.Write = EndInCut steps
WhyEnd steps end.OutOfMemory = ⊥

-- why there is an end
abbrev pub Why : (X : Type 0) → Said (Result X DutyEnd)
Why X steps (Ok x) = Unit {0}
Why X steps (Err ended) = WhyEnd steps ended

abbrev IsTurn : NextPlan → Type 0
IsTurn p = Always (Why Standing) p

-- ---- the end of a turn

failed_turn : (front : List TurnStep) (s : Standing) (r : TurnReply) → Gives (Why Standing) (front ++ (Own (Calls call.HasFailed), r) ∷ []) (failed_plan s (own_reply r))
failed_turn front s (Owned (Replies (reply.HasFailed true))) =
    gives_done (Why Standing) (front ++ (Own (Calls call.HasFailed), Owned (Replies (reply.HasFailed true))) ∷ []) (Err end.Disk) (front, refl)
failed_turn front s r = gives_done (Why Standing) (front ++ (Own (Calls call.HasFailed), r) ∷ []) (Ok s) tt

unless_short_turn : (p : NextPlan) → IsTurn p → (r : DeskReply) → IsTurn (unless_short r p)
unless_short_turn p h reply.OutOfMemory = stop_always (Why Standing)
unless_short_turn p h r = h

merges_turn : (file : File) (books : List (PubKey × Book)) (p : NextPlan) → IsTurn p → IsTurn (merges file books p)
merges_turn file [] p h = h
merges_turn file (b ∷ books) p h = calls_always (Why Standing) (call.Merge file) (λ r. unless_short r p) (unless_short_turn p h)

exported_turn : (keep epoch : ℕ) (p : NextPlan) → IsTurn p → (r : DeskReply) → IsTurn (exported keep epoch r p)
exported_turn keep epoch p h (reply.Exported file) = merges_turn (pruning_file keep epoch file) (pruning_file keep epoch file).books p h
exported_turn keep epoch p h r = unless_short_turn p h r

exports_turn : (keep epoch : ℕ) (keys : List PubKey) (p : NextPlan) → IsTurn p → IsTurn (exports keep epoch keys p)
exports_turn keep epoch [] p h = h
exports_turn keep epoch (key ∷ keys) p h = calls_always (Why Standing) (call.Export (key ∷ keys)) (λ r. exported keep epoch r p) (exported_turn keep epoch p h)

prunes_turn : (keep_epochs : Option ℕ) (slot : ℕ) (active : Option (List PubKey)) (p : NextPlan) → IsTurn p → IsTurn (prunes keep_epochs slot active p)
prunes_turn None slot active p h = h
prunes_turn (Some keep) slot None p h = h
prunes_turn (Some keep) slot (Some active) p h = exports_turn keep (epoch_of slot) (keys_of_turn slot active) p h

asks_failed_turn : (s : Standing) → IsTurn (calls call.HasFailed (failed_plan s))
asks_failed_turn s front = gives_ask (Why Standing) front (Own (Calls call.HasFailed)) (λ r. failed_plan s (own_reply r)) (λ r fit. failed_turn front s r)

finish_turn : (setup : DutySetup) (slot : ℕ) (s : Standing) → IsTurn (finish_plan setup slot s)
finish_turn setup slot s = prunes_turn setup.keep_epochs slot s.active (calls call.HasFailed (failed_plan s)) (asks_failed_turn s)

wrote_turn : (front : List TurnStep) (text : List ℕ) (next : NextPlan) → IsTurn next → (r : TurnReply) → Fits (Writes text) r → Gives (Why Standing) (front ++ (Writes text, r) ∷ []) (wrote r next)
wrote_turn front text next h (Wrote true piece) fit = h (front ++ (Writes text, Wrote true piece) ∷ [])
wrote_turn front text next h (Wrote false piece) fit = gives_done (Why Standing) (front ++ (Writes text, Wrote false piece) ∷ []) (Err end.Write) (front, text, piece, refl)
wrote_turn front text next h r fit = absurd fit

puts_turn : (text : List ℕ) (next : NextPlan) → IsTurn next → IsTurn (puts text next)
puts_turn text next h front = gives_ask (Why Standing) front (Writes text) (λ r. wrote r next) (wrote_turn front text next h)

close_turn : (setup : DutySetup) (slot : ℕ) (ds : List Duty) (results : List DutyResult) (s : Standing) → IsTurn (close_plan setup slot ds results s)
close_turn setup slot ds results s = puts_turn (duty_lines slot ds results) (finish_plan setup slot s) (finish_turn setup slot s)

report_turn : (setup : DutySetup) (slot : ℕ) (choices : List Task) (found : List (Option DutyResult)) (s : Standing) → IsTurn (report_plan setup slot choices found s)
report_turn setup slot choices found s = puts_turn (aggregate_lines slot choices found) (finish_plan setup slot s) (finish_turn setup slot s)

-- ---- what stands between

sized_turn : (p : NextPlan) → IsTurn p → (r : DeskReply) → IsTurn (sized r p)
sized_turn p h (reply.Size size weight) =
    if_always (Why Standing) (is_worth_compacting size weight) (calls call.Compact (λ r. unless_short r p)) p (calls_always (Why Standing) call.Compact (λ r. unless_short r p) (unless_short_turn p h)) h
sized_turn p h r = stop_always (Why Standing)

shortens_turn : (s : Standing) (p : NextPlan) → IsTurn p → IsTurn (shortens s p)
shortens_turn s p h = if_always (Why Standing) (is_first_slot s.slot) (calls call.Size (λ r. sized r p)) p (calls_always (Why Standing) call.Size (λ r. sized r p) (sized_turn p h)) h

-- ---- a turn

aggregates_turn : (setup : DutySetup) (s : Standing) (choices : List Task) (chosen : List Ended) (tasks : List Task) (reached : ℕ) → IsTurn (aggregates_plan setup s choices chosen tasks reached)
aggregates_turn setup s choices chosen tasks reached =
    let moment = aggregates_start setup.genesis_time s.slot in
    let next = after_wait setup.genesis_time moment reached s in
    let last = at_slot (next_slot s.slot) s in
    let after : List Ended → NextPlan = λ ends. report_plan setup s.slot choices (reports chosen ends) last in
    if_always (Why Standing) (is_missed setup.genesis_time s.slot moment reached) (report_plan setup s.slot choices (reports chosen []) next) (works (work_of setup s) 0 tasks after)
    (report_turn setup s.slot choices (reports chosen []) next)
    (works_always (Why Standing) (work_of setup s) 0 tasks after (λ ends. report_turn setup s.slot choices (reports chosen ends) last))

gathers_turn : (setup : DutySetup) (s : Standing) (choices : List Task) (chosen : List Ended) (tasks : List Task) → IsTurn (gathers_plan setup s choices chosen tasks)
gathers_turn setup s choices chosen [] = report_turn setup s.slot choices (reports chosen []) (at_slot (next_slot s.slot) s)
gathers_turn setup s choices chosen (t ∷ tasks) = waits_always (Why Standing) (aggregates_start setup.genesis_time s.slot) (aggregates_plan setup s choices chosen (t ∷ tasks)) (aggregates_turn setup s choices chosen (t ∷ tasks))

chooses_turn : (setup : DutySetup) (s : Standing) (choices : List Task) → IsTurn (chooses_plan setup s choices)
chooses_turn setup s [] = finish_turn setup s.slot (at_slot (next_slot s.slot) s)
chooses_turn setup s (t ∷ choices) =
    works_always (Why Standing) (work_of setup s) 0 (t ∷ choices) (λ chosen. gathers_plan setup s (t ∷ choices) chosen (aggregate_tasks (t ∷ choices) chosen))
    (λ chosen. gathers_turn setup s (t ∷ choices) chosen (aggregate_tasks (t ∷ choices) chosen))

told_turn : (setup : DutySetup) (s : Standing) (ds : List Duty) (ends : List Ended) (results : List DutyResult) → IsTurn (told_plan setup s ds ends results)
told_turn setup s ds ends results = puts_turn (duty_lines s.slot ds results) (chooses_plan setup s (choices_of setup ds ends)) (chooses_turn setup s (choices_of setup ds ends))

tried_turn : (setup : DutySetup) (s : Standing) (ds : List Duty) (ends : List Ended) (tasks : List Task) (reached : ℕ) → IsTurn (tried_plan setup s ds ends tasks reached)
tried_turn setup s ds ends tasks reached =
    let moment = again_start setup.genesis_time s.slot in
    let next = after_wait setup.genesis_time moment reached s in
    let after : List Ended → NextPlan = λ again. told_plan setup s ds ends (merged ends again) in
    if_always (Why Standing) (is_missed setup.genesis_time s.slot moment reached) (close_plan setup s.slot ds (results_of ends) next) (works (work_of setup s) 0 tasks after)
    (close_turn setup s.slot ds (results_of ends) next)
    (works_always (Why Standing) (work_of setup s) 0 tasks after (λ again. told_turn setup s ds ends (merged ends again)))

left_turn : (setup : DutySetup) (s : Standing) (ds : List Duty) (ends : List Ended) (tasks : List Task) → IsTurn (left_plan setup s ds ends tasks)
left_turn setup s ds ends [] = told_turn setup s ds ends (results_of ends)
left_turn setup s ds ends (t ∷ tasks) = waits_always (Why Standing) (again_start setup.genesis_time s.slot) (tried_plan setup s ds ends (t ∷ tasks)) (tried_turn setup s ds ends (t ∷ tasks))

records_turn : (now : ℕ) (ms : List (PubKey × Message)) (p : NextPlan) → IsTurn p → IsTurn (records now ms p)
records_turn now [] p h = h
records_turn now (m ∷ ms) p h = calls_always (Why Standing) (call.Record (m ∷ ms) now) (λ r. unless_short r p) (unless_short_turn p h)

records_free_turn : (work : SlotWork) (tasks : List Task) (p : NextPlan) → IsTurn p → (r : DeskReply) → IsTurn (records_allowed work tasks r p)
records_free_turn work tasks p h (reply.Keys listed) = records_turn work.moment (recorded work.domains (allowed_of listed) tasks) p h
records_free_turn work tasks p h r = stop_always (Why Standing)

records_votes_turn : (work : SlotWork) (tasks : List Task) (p : NextPlan) → IsTurn p → IsTurn (records_votes work tasks p)
records_votes_turn work [] p h = h
records_votes_turn work (t ∷ tasks) p h = calls_always (Why Standing) call.Keys (λ r. records_allowed work (t ∷ tasks) r p) (records_free_turn work (t ∷ tasks) p h)

casts_for_turn : (work : SlotWork) (place : ℕ) (votes : List Duty) (next_by : List Ended → NextPlan) → ((ends : List Ended) → IsTurn (next_by ends)) → (asked : List Ended) → IsTurn (casts_for work place votes next_by asked)
casts_for_turn work place votes next_by h asked =
    let tasks = vote_tasks votes asked in
    let after : List Ended → NextPlan = λ cast. next_by (vote_ends asked cast) in
    records_votes_turn work tasks (works work place tasks after) (works_always (Why Standing) work place tasks after (λ cast. h (vote_ends asked cast)))

casts_turn : (work : SlotWork) (place : ℕ) (votes : List Duty) (next_by : List Ended → NextPlan) → ((ends : List Ended) → IsTurn (next_by ends)) → IsTurn (casts work place votes next_by)
casts_turn work place votes next_by h =
    works_always (Why Standing) work place (data_tasks votes) (λ ends. casts_for work place votes next_by (vote_answers votes ends)) (λ ends. casts_for_turn work place votes next_by h (vote_answers votes ends))

votes_turn : (setup : DutySetup) (s : Standing) (ds : List Duty) (proposed : List Ended) (reached : ℕ) → IsTurn (votes_plan setup s ds proposed reached)
votes_turn setup s ds proposed reached =
    let next = at_moment setup.genesis_time (votes_start setup.genesis_time s.slot) reached s in
    let place = length (blocks_in ds) in
    let all : List Duty = blocks_in ds ++ votes_in ds in
    let after : List Ended → NextPlan = λ cast. again_plan setup s all (proposed ++ cast) in
    if_always (Why Standing) (is_missed setup.genesis_time s.slot (votes_start setup.genesis_time s.slot) reached) (close_plan setup s.slot (blocks_in ds) (results_of proposed) next) (casts (work_of setup s) place (votes_in ds) after)
    (close_turn setup s.slot (blocks_in ds) (results_of proposed) next)
    (casts_turn (work_of setup s) place (votes_in ds) after (λ cast. left_turn setup s all (proposed ++ cast) (again_tasks all (proposed ++ cast))))

due_turn : (setup : DutySetup) (s : Standing) (ds : List Duty) → IsTurn (due_plan setup s ds)
due_turn setup s ds =
    let moment = votes_start setup.genesis_time s.slot in
    let after : List Ended → NextPlan = λ proposed. waits moment (votes_plan setup s ds proposed) in
    works_always (Why Standing) (work_of setup s) 0 (fresh (blocks_in ds)) after (λ proposed. waits_always (Why Standing) moment (votes_plan setup s ds proposed) (votes_turn setup s ds proposed))

ready_turn : (setup : DutySetup) (active : List PubKey) (mid : List TurnStep) (o : Option Standing) → WhyNone mid o → Gives (Why Standing) mid (ready_plan setup active o)
ready_turn setup active mid None w = gives_done (Why Standing) mid (Err end.Write) w
ready_turn setup active mid (Some s) w =
    let t = with_active active s in
    looks_up_always (Why Standing) s.answers s.slot active (due_plan setup t) (due_turn setup t) mid

listed_turn : (setup : DutySetup) (s : Standing) (r : DeskReply) → IsTurn (listed_plan setup s r)
listed_turn setup s (reply.Keys listed) front =
    let active = active_of listed in
    gives_bind WhyNone (Why Standing) front (asked_plan setup listed active s) (ready_plan setup active) (asked_part setup listed active s front) (ready_turn setup active)
listed_turn setup s r front = stop_always (Why Standing) front

woken_turn : (setup : DutySetup) (s : Standing) (reached : ℕ) → IsTurn (woken_plan setup s reached)
woken_turn setup s reached =
    let next = at_moment setup.genesis_time (slot_start setup.genesis_time s.slot) reached s in
    let keys = calls call.Keys (listed_plan setup s) in
    let part = shortens s keys in
    if_always (Why Standing) (is_missed setup.genesis_time s.slot (slot_start setup.genesis_time s.slot) reached) (close_plan setup s.slot [] [] next) (refreshes (refreshes_lanes part))
    (close_turn setup s.slot [] [] next)
    (refreshes_always (Why Standing) (refreshes_lanes part) (refreshes_lanes_always (Why Standing) part
    (shortens_turn s keys (calls_always (Why Standing) call.Keys (listed_plan setup s) (listed_turn setup s)))))

turn_ends : (setup : DutySetup) (s : Standing) → IsTurn (turn_plan setup s)
turn_ends setup s = waits_always (Why Standing) (slot_start setup.genesis_time s.slot) (woken_plan setup s) (woken_turn setup s)

-- ---- turn behind turn

abbrev Whole : Said (Result (Unit {0}) DutyEnd)
Whole = Why (Unit {0})

next_ends : (turns : Standing → TurnPlan (Result (Unit {0}) DutyEnd)) → ((s : Standing) → Always Whole (turns s)) → (mid : List TurnStep) (x : Next) → Why Standing mid x → Gives Whole mid (next_turn turns x)
next_ends turns h mid (Ok s) w = h s mid
next_ends turns h mid (Err ended) w = gives_done Whole mid (Err ended) w

turns_end : (setup : DutySetup) (n : ℕ) (s : Standing) → Always Whole (turns_plan setup n s)
turns_end setup zero s front = gives_done Whole front (Ok tt) tt
turns_end setup (suc n) s front = gives_bind (Why Standing) Whole front (turn_plan setup s) (next_turn (turns_plan setup n)) (turn_ends setup s front) (next_ends (turns_plan setup n) (turns_end setup n))

pub why_end : (setup : DutySetup) (n : ℕ) (s : Standing) (steps : List TurnStep) (ended : DutyEnd) → Follows Fits (turns_plan setup n s) steps (Some (Err ended)) → WhyEnd steps ended
why_end setup n s steps ended f = turns_end setup n s [] steps (Err ended) f
