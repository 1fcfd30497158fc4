-- The turns of the loop. Each plan goes on by the reply to its call; where memory runs out it stops. What it gives is what stands
-- then, or that the output failed.
use Rattle.std.specs.Prelude.{ℕ, zero, suc, ◌+◌, ◌-◌, ◌/◌, ◌%◌, ◌==◌, ◌||◌, ◌&&◌, not, nat_lt, nat_le, if◌then◌else◌, Bool, true, false, List, [], ◌∷◌, ◌++◌, filter, flat_map, map, length, take, drop, Option, Some, None, Result, Ok, Err}
use Rattle.std.specs.List.{list_any}
use Rattle.std.specs.Cmp.Lexicographic.{pointwise}
use Rattle.std.specs.Str.{bytes_eq}
use Rattle.edge_kit.specs.declared.bytes.PubKey.{PubKey}
use Rattle.doppel_watch.specs.declared.watch.WatchState.TheVariants as watch
use Rattle.desk_machine.specs.States.{is_active, state_in}
use Rattle.desk_machine.specs.declared.call.KeyStanding.{KeyStanding}
use Rattle.desk_machine.specs.declared.call.KeyStanding.TheVariants as standing
use Rattle.desk_machine.specs.declared.call.DeskCall.{DeskCall}
use Rattle.desk_machine.specs.declared.call.DeskCall.TheVariants as call
use Rattle.desk_machine.specs.declared.call.DeskReply.{DeskReply}
use Rattle.desk_machine.specs.declared.call.DeskReply.TheVariants as reply
use Rattle.node_calls.specs.declared.ask.Ask.{Ask}
use Rattle.node_calls.specs.declared.ask.Ask.TheVariants as ask
use Rattle.node_calls.specs.declared.answer.Answer.{Answer}
use Rattle.node_calls.specs.declared.answer.Answer.TheVariants as answer
use Rattle.node_calls.specs.declared.answer.LivenessRow.{LivenessRow}
use Rattle.node_fallback.specs.declared.no_node.NoAnswer.{NoAnswer}
use Rattle.node_fallback.specs.declared.no_node.NoAnswer.TheVariants as none
use Rattle.duty_schedule.specs.Answers.{TakenAnswer}
use Rattle.duty_schedule.specs.declared.rows.Duty.{Duty}
use Rattle.duty_schedule.specs.declared.rows.Duty.TheVariants as duty
use Rattle.call_plans.specs.Plans.{Done, Stop, Ask as Step, bind}
use Rattle.duty_plans.specs.declared.ended.Ended.{Ended}
use Rattle.duty_plans.specs.declared.result.DutyResult.{DutyResult}
use Rattle.duty_plans.specs.declared.task.Task.{Task}
use Rattle.duty_plans.specs.declared.setup.DutySetup.{DutySetup}
use Rattle.duty_plans.specs.declared.work.SlotWork.{SlotWork}
use Rattle.duty_plans.specs.Choices.{aggregate_tasks, choose_tasks, reports}
use Rattle.duty_plans.specs.Ends.{merged, results_of}
use Rattle.duty_plans.specs.Plans.{answer_reply, desk_reply, slot_work}
use Rattle.duty_plans.specs.Steps.{Calls, Asks}
use Rattle.duty_plans.specs.Tasks.{again_tasks, fresh}
use Rattle.duty_plans.specs.Votes.{data_tasks, vote_answers, vote_ends, vote_tasks}
use Rattle.duty_turns.specs.declared.held.DutyEnd.{DutyEnd}
use Rattle.duty_turns.specs.declared.held.DutyEnd.TheVariants as end
use Rattle.slash_defs.specs.declared.book.Book.{Book}
use Rattle.slash_defs.specs.declared.book.File.{File}
use Rattle.slash_defs.specs.declared.message.Message.{Message}
use Rattle.record_join.specs.Keys.{kept_of}
use Rattle.duty_turns.specs.Lines.{aggregate_lines, duty_lines, none_line}
use Rattle.duty_pruning.specs.Pruning.{pruning_file}
use Rattle.duty_turns.specs.Lanes.{dealt}
use Rattle.duty_turns.specs.Recording.{allowed_of, recorded}
use Rattle.duty_turns.specs.Standing.{Standing, indices_of, with_attesters, with_fork, with_indices, with_proposers}
use Rattle.duty_turns.specs.Times.{again_start, aggregates_start, epoch_of, is_first_slot, is_missed, next_slot, slot_of, slot_start, votes_start}
use Rattle.duty_turns.specs.TurnSteps.{TurnPlan, TurnReply, Waits, Refreshes, RefreshesLanes, Own, LooksUp, Works, Writes, Woke, Refreshed, LanesRefreshed, Owned, Due, Worked, Wrote}

-- what stands after a part of a turn; None: the output failed
abbrev pub PartPlan : Type 0
PartPlan = TurnPlan (Option Standing)

-- ---- one call, and then by its reply; a reply that does not fit comes never

abbrev pub woken : {X : Type 0} → TurnReply → (ℕ → TurnPlan X) → TurnPlan X
woken (Woke reached) next_by = next_by reached
woken r next_by = Stop

abbrev pub waits : {X : Type 0} → ℕ → (ℕ → TurnPlan X) → TurnPlan X
waits moment next_by = Step (Waits moment) (λ r. woken r next_by)

abbrev pub refreshed : {X : Type 0} → TurnReply → TurnPlan X → TurnPlan X
refreshed (Refreshed true replies) next = next
refreshed r next = Stop

abbrev pub refreshes : {X : Type 0} → TurnPlan X → TurnPlan X
refreshes next = Step Refreshes (λ r. refreshed r next)

abbrev pub lanes_refreshed : {X : Type 0} → TurnReply → TurnPlan X → TurnPlan X
lanes_refreshed (LanesRefreshed true replies) next = next
lanes_refreshed r next = Stop

abbrev pub refreshes_lanes : {X : Type 0} → TurnPlan X → TurnPlan X
refreshes_lanes next = Step RefreshesLanes (λ r. lanes_refreshed r next)

abbrev pub own_answer : TurnReply → Result Answer NoAnswer
own_answer (Owned r) = answer_reply r
own_answer r = Err none.OutOfMemory

abbrev pub own_reply : TurnReply → DeskReply
own_reply (Owned r) = desk_reply r
own_reply r = reply.OutOfMemory

abbrev pub asks : {X : Type 0} → Ask → (Result Answer NoAnswer → TurnPlan X) → TurnPlan X
asks a next_by = Step (Own (Asks a)) (λ r. next_by (own_answer r))

abbrev pub calls : {X : Type 0} → DeskCall → (DeskReply → TurnPlan X) → TurnPlan X
calls c next_by = Step (Own (Calls c)) (λ r. next_by (own_reply r))

abbrev pub found : {X : Type 0} → TurnReply → (List Duty → TurnPlan X) → TurnPlan X
found (Due ds) next_by = next_by ds
found r next_by = Stop

abbrev pub looks_up : {X : Type 0} → List TakenAnswer → ℕ → List PubKey → (List Duty → TurnPlan X) → TurnPlan X
looks_up answers slot active next_by = Step (LooksUp answers slot active) (λ r. found r next_by)

abbrev pub worked : {X : Type 0} → TurnReply → (List Ended → TurnPlan X) → TurnPlan X
worked (Worked lanes (Some ends)) next_by = next_by ends
worked r next_by = Stop

abbrev pub works : {X : Type 0} → SlotWork → ℕ → List Task → (List Ended → TurnPlan X) → TurnPlan X
works work place tasks next_by = Step (Works work place tasks) (λ r. worked r next_by)

abbrev pub written : {X : Type 0} → TurnReply → TurnPlan (Option X) → TurnPlan (Option X)
written (Wrote true piece) next = next
written r next = Done None

-- a text that can't be written ends the loop
abbrev pub writes : {X : Type 0} → List ℕ → TurnPlan (Option X) → TurnPlan (Option X)
writes text next = Step (Writes text) (λ r. written r next)

-- one part, and then another on what stands
abbrev pub on_standing : {X : Type 0} → (Standing → TurnPlan (Option X)) → Option Standing → TurnPlan (Option X)
on_standing next (Some s) = next s
on_standing next None = Done None

abbrev pub then_on : {X : Type 0} → PartPlan → (Standing → TurnPlan (Option X)) → TurnPlan (Option X)
then_on part next = bind part (on_standing next)

-- ---- what is asked of the nodes, outside the duties

-- the answer is taken in; where no node gave one, a line says so, and the first of these two stands
abbrev pub answered_plan : (Answer → Standing → Standing) → Standing → Standing → Result Answer NoAnswer → PartPlan
answered_plan take_in without s (Ok a) = Done (Some (take_in a s))
answered_plan take_in without s (Err (none.NoNode causes)) = writes (none_line s.slot) (Done (Some without))
answered_plan take_in without s (Err none.OutOfMemory) = Stop

abbrev pub ask_plan : Ask → (Answer → Standing → Standing) → Standing → Standing → PartPlan
ask_plan a take_in without s = asks a (answered_plan take_in without s)

-- fork and indices are asked for once more at the next turn
abbrev pub to_renew : Standing → Standing
to_renew s = record s { renewed = None }

-- keys by 32, the rest in the last; the number is as many as there may be
abbrev pub by_32 : ℕ → List PubKey → List (List PubKey)
by_32 zero keys = []
by_32 (suc n) [] = []
by_32 (suc n) (k ∷ keys) = take 32 (k ∷ keys) ∷ by_32 n (drop 32 (k ∷ keys))

abbrev pub index_plan : List (List PubKey) → Standing → PartPlan
index_plan [] s = Done (Some s)
index_plan (keys ∷ more) s = then_on (ask_plan (ask.Validators keys) with_indices (to_renew s) s) (index_plan more)

-- they are asked for in this epoch
abbrev pub renewed_now : Standing → Standing
renewed_now s = record s { renewed = Some (epoch_of s.slot) }

-- the fork, then the indices of the active keys; where a question had no answer, all are asked once more at the next turn
abbrev pub renew_plan : List PubKey → Standing → PartPlan
renew_plan active s = then_on (ask_plan ask.Fork with_fork (to_renew s) (renewed_now s)) (index_plan (by_32 (length active) active))

abbrev pub same_keys : List PubKey → Option (List PubKey) → Bool
same_keys active None = false
same_keys active (Some before) = pointwise (λ a b. bytes_eq a.0 b.0) active before

abbrev pub is_of_epoch : ℕ → Option ℕ → Bool
is_of_epoch epoch None = false
is_of_epoch epoch (Some renewed) = renewed == epoch

-- at the first turn of an epoch, where a question of the last time had no answer, and where other keys are active than before
abbrev pub renews : List PubKey → Standing → Bool
renews active s = not (is_of_epoch (epoch_of s.slot) s.renewed) || not (same_keys active s.active)

abbrev pub renewed_plan : List PubKey → Standing → PartPlan
renewed_plan active s = if renews active s then renew_plan active s else Done (Some s)

-- where no index is held, attesters are not asked for
abbrev pub attesters_plan : ℕ → List ℕ → Standing → PartPlan
attesters_plan epoch [] s = Done (Some s)
attesters_plan epoch (i ∷ indices) s = ask_plan (ask.Attester epoch (i ∷ indices)) (with_attesters epoch (i ∷ indices)) s s

abbrev pub voters_plan : List PubKey → Standing → PartPlan
voters_plan active s = attesters_plan (epoch_of s.slot) (indices_of s.indices active) s

abbrev pub duties_plan : List PubKey → Standing → PartPlan
duties_plan active s = then_on (ask_plan (ask.Proposer (epoch_of s.slot)) (with_proposers (epoch_of s.slot)) s s) (voters_plan active)

-- ---- the watch

-- the epochs of which an active key misses an answer
abbrev pub missed : KeyStanding → List ℕ
missed (standing.Active (watch.Missing first None)) = first ∷ []
missed (standing.Active (watch.Missing first (Some second))) = first ∷ second ∷ []
missed s = []

abbrev pub misses : ℕ → PubKey × KeyStanding → Bool
misses epoch l = list_any (λ e. e == epoch) (missed l.1)

-- the numbers from one on, that many
abbrev pub counted : ℕ → ℕ → List ℕ
counted from zero = []
counted from (suc n) = from ∷ counted (from + 1) n

-- the epochs below this one that some key misses, the lesser first
abbrev pub missing_epochs : ℕ → List (PubKey × KeyStanding) → List ℕ
missing_epochs now listed = filter (λ epoch. list_any (misses epoch) listed) (counted 0 now)

-- the keys that miss an epoch, in key order
abbrev pub missing_keys : ℕ → List (PubKey × KeyStanding) → List PubKey
missing_keys epoch listed = map (λ l. l.0) (filter (misses epoch) listed)

abbrev pub is_index : Option ℕ → ℕ → Bool
is_index None index = false
is_index (Some held) index = held == index

-- the key was asked for by this index
abbrev pub is_asked_by : List (PubKey × ℕ) → ℕ → PubKey → Bool
is_asked_by indices index key = is_index (kept_of indices key) index

-- what a row says of the keys that were asked for by its index, in key order
abbrev pub row_notes : List (PubKey × ℕ) → List PubKey → LivenessRow → List (PubKey × Bool)
row_notes indices keys row = map (λ key. (key, row.is_live)) (filter (is_asked_by indices row.index) keys)

abbrev pub notes_of : List (PubKey × ℕ) → List PubKey → List LivenessRow → List (PubKey × Bool)
notes_of indices keys rows = flat_map (row_notes indices keys) rows

abbrev pub noted : DeskReply → PartPlan → PartPlan
noted reply.OutOfMemory next = Stop
noted r next = next

-- the desk is told of each key
abbrev pub notes_plan : ℕ → ℕ → List (PubKey × Bool) → Standing → PartPlan
notes_plan epoch now [] s = Done (Some s)
notes_plan epoch now (n ∷ notes) s = calls (call.Answer n.0 epoch n.1 now) (λ r. noted r (notes_plan epoch now notes s))

abbrev pub lived_plan : ℕ → ℕ → List PubKey → Standing → Result Answer NoAnswer → PartPlan
lived_plan epoch now keys s (Ok (answer.Liveness rows)) = notes_plan epoch now (notes_of s.indices keys rows) s
lived_plan epoch now keys s (Ok a) = Stop
lived_plan epoch now keys s (Err (none.NoNode causes)) = writes (none_line s.slot) (Done (Some s))
lived_plan epoch now keys s (Err none.OutOfMemory) = Stop

-- where no index is held of the keys that miss an epoch, nothing is asked
abbrev pub liveness_plan : ℕ → ℕ → List PubKey → List ℕ → Standing → PartPlan
liveness_plan epoch now keys [] s = Done (Some s)
liveness_plan epoch now keys (i ∷ indices) s = asks (ask.Liveness epoch (i ∷ indices)) (lived_plan epoch now keys s)

abbrev pub epoch_plan : ℕ → List (PubKey × KeyStanding) → ℕ → Standing → PartPlan
epoch_plan now listed epoch s = liveness_plan epoch now (missing_keys epoch listed) (indices_of s.indices (missing_keys epoch listed)) s

abbrev pub epochs_plan : ℕ → List (PubKey × KeyStanding) → List ℕ → Standing → PartPlan
epochs_plan now listed [] s = Done (Some s)
epochs_plan now listed (epoch ∷ epochs) s = then_on (epoch_plan now listed epoch s) (epochs_plan now listed epochs)

abbrev pub watch_plan : Bool → List (PubKey × KeyStanding) → Standing → PartPlan
watch_plan watches listed s = if watches then epochs_plan (epoch_of s.slot) listed (missing_epochs (epoch_of s.slot) listed) s else Done (Some s)

-- ---- a turn, from its end

-- what comes after a turn: the next, or the end of the loop
abbrev pub Next : Type 0
Next = Result Standing DutyEnd

abbrev pub NextPlan : Type 0
NextPlan = TurnPlan Next

-- the disk failed: the loop ends
abbrev pub failed_plan : Standing → DeskReply → NextPlan
failed_plan s (reply.HasFailed true) = Done (Err end.Disk)
failed_plan s r = Done (Ok s)

-- whatever the desk replied, the turn goes on; but memory that is wanted stops it
abbrev pub unless_short : {X : Type 0} → DeskReply → TurnPlan X → TurnPlan X
unless_short reply.OutOfMemory next = Stop
unless_short r next = next

-- a file of no key is not merged
abbrev pub merges : {X : Type 0} → File → List (PubKey × Book) → TurnPlan X → TurnPlan X
merges file [] next = next
merges file (b ∷ books) next = calls (call.Merge file) (λ r. unless_short r next)

abbrev pub exported : {X : Type 0} → ℕ → ℕ → DeskReply → TurnPlan X → TurnPlan X
exported keep epoch (reply.Exported file) next = merges (pruning_file keep epoch file) (pruning_file keep epoch file).books next
exported keep epoch r next = unless_short r next

abbrev pub exports : {X : Type 0} → ℕ → ℕ → List PubKey → TurnPlan X → TurnPlan X
exports keep epoch [] next = next
exports keep epoch (key ∷ keys) next = calls (call.Export (key ∷ keys)) (λ r. exported keep epoch r next)

-- of the keys in their order those whose turn it is in a slot: of the slots of an epoch one to each place
abbrev pub keys_of_turn : ℕ → List PubKey → List PubKey
keys_of_turn slot keys = dealt 32 (slot % 32) 0 keys

-- what is old of the active keys whose turn it is in this slot is forgotten, but for what stands for it
abbrev pub prunes : {X : Type 0} → Option ℕ → ℕ → Option (List PubKey) → TurnPlan X → TurnPlan X
prunes None slot active next = next
prunes (Some keep) slot None next = next
prunes (Some keep) slot (Some active) next = exports keep (epoch_of slot) (keys_of_turn slot active) next

-- what is old is forgotten, and the desk is asked whether its disk failed
abbrev pub finish_plan : DutySetup → ℕ → Standing → NextPlan
finish_plan setup slot s = prunes setup.keep_epochs slot s.active (calls call.HasFailed (failed_plan s))

-- a text that was not written whole ends the loop
abbrev pub wrote : TurnReply → NextPlan → NextPlan
wrote (Wrote true piece) next = next
wrote r next = Done (Err end.Write)

abbrev pub puts : List ℕ → NextPlan → NextPlan
puts text next = Step (Writes text) (λ r. wrote r next)

-- the lines are written, and the slot is closed
abbrev pub close_plan : DutySetup → ℕ → List Duty → List DutyResult → Standing → NextPlan
close_plan setup slot ds results s = puts (duty_lines slot ds results) (finish_plan setup slot s)

abbrev pub is_block : Duty → Bool
is_block (duty.Block row) = true
is_block (duty.Vote row) = false

abbrev pub blocks_in : List Duty → List Duty
blocks_in ds = filter is_block ds

abbrev pub votes_in : List Duty → List Duty
votes_in ds = filter (λ d. not (is_block d)) ds

-- the next turn is of this slot
abbrev pub at_slot : ℕ → Standing → Standing
at_slot slot s = record s { slot = slot }

abbrev pub work_of : DutySetup → Standing → SlotWork
work_of setup s = slot_work setup (record { fork = s.fork; genesis = setup.genesis }) s.slot (epoch_of s.slot)

-- the next turn is of the slot of a moment at which a wait for another was over; where it is before that, since the clock was set back,
-- no answer of before stands, as one of a later epoch would bar those of this one
abbrev pub at_moment : ℕ → ℕ → ℕ → Standing → Standing
at_moment genesis_time moment reached s = at_slot (slot_of genesis_time reached) (record s { answers = if nat_lt reached moment then [] else s.answers })

-- what stands where a slot's duties were done: the next turn is of the next slot, but where the clock was set back meanwhile, and a wait for
-- this moment was over before it
abbrev pub after_wait : ℕ → ℕ → ℕ → Standing → Standing
after_wait genesis_time moment reached s = if nat_lt reached moment then at_moment genesis_time moment reached s else at_slot (next_slot s.slot) s

-- ---- aggregates

-- the slot is closed with a line of each choice that has something to report
abbrev pub report_plan : DutySetup → ℕ → List Task → List (Option DutyResult) → Standing → NextPlan
report_plan setup slot choices found s = puts (aggregate_lines slot choices found) (finish_plan setup slot s)

-- two thirds into the slot the aggregates are published; at another moment they are dropped
abbrev pub aggregates_plan : DutySetup → Standing → List Task → List Ended → List Task → ℕ → NextPlan
aggregates_plan setup s choices chosen tasks reached =
    if is_missed setup.genesis_time s.slot (aggregates_start setup.genesis_time s.slot) reached
    then report_plan setup s.slot choices (reports chosen []) (after_wait setup.genesis_time (aggregates_start setup.genesis_time s.slot) reached s)
    else works (work_of setup s) 0 tasks (λ ends. report_plan setup s.slot choices (reports chosen ends) (at_slot (next_slot s.slot) s))

-- their time is waited for, where a validator is chosen
abbrev pub gathers_plan : DutySetup → Standing → List Task → List Ended → List Task → NextPlan
gathers_plan setup s choices chosen [] = report_plan setup s.slot choices (reports chosen []) (at_slot (next_slot s.slot) s)
gathers_plan setup s choices chosen (t ∷ tasks) = waits (aggregates_start setup.genesis_time s.slot) (aggregates_plan setup s choices chosen (t ∷ tasks))

-- these choices are made
abbrev pub chooses_plan : DutySetup → Standing → List Task → NextPlan
chooses_plan setup s [] = finish_plan setup s.slot (at_slot (next_slot s.slot) s)
chooses_plan setup s (t ∷ choices) = works (work_of setup s) 0 (t ∷ choices) (λ chosen. gathers_plan setup s (t ∷ choices) chosen (aggregate_tasks (t ∷ choices) chosen))

-- where nothing is aggregated there are none
abbrev pub choices_of : DutySetup → List Duty → List Ended → List Task
choices_of setup ds ends = if setup.aggregate then choose_tasks ds ends else []

-- a line of each duty is written, and then aggregates of the votes are published
abbrev pub told_plan : DutySetup → Standing → List Duty → List Ended → List DutyResult → NextPlan
told_plan setup s ds ends results = puts (duty_lines s.slot ds results) (chooses_plan setup s (choices_of setup ds ends))

-- ---- duties

-- while the slot lasts, what was granted and not sent is tried once more, and then it is reported how each duty ended at last; at another
-- moment the slot is closed with how each ended at first
abbrev pub tried_plan : DutySetup → Standing → List Duty → List Ended → List Task → ℕ → NextPlan
tried_plan setup s ds ends tasks reached =
    if is_missed setup.genesis_time s.slot (again_start setup.genesis_time s.slot) reached
    then close_plan setup s.slot ds (results_of ends) (after_wait setup.genesis_time (again_start setup.genesis_time s.slot) reached s)
    else works (work_of setup s) 0 tasks (λ again. told_plan setup s ds ends (merged ends again))

-- the slot's duties were done and ended so: where nothing is left to be tried once more, that is reported; else its time is waited for
abbrev pub left_plan : DutySetup → Standing → List Duty → List Ended → List Task → NextPlan
left_plan setup s ds ends [] = told_plan setup s ds ends (results_of ends)
left_plan setup s ds ends (t ∷ tasks) = waits (again_start setup.genesis_time s.slot) (tried_plan setup s ds ends (t ∷ tasks))

abbrev pub again_plan : DutySetup → Standing → List Duty → List Ended → NextPlan
again_plan setup s ds ends = left_plan setup s ds ends (again_tasks ds ends)

-- the desk keeps these messages together, if there is one; whatever it replies, the turn goes on, but for want of memory
abbrev pub records : {X : Type 0} → ℕ → List (PubKey × Message) → TurnPlan X → TurnPlan X
records now [] next = next
records now (m ∷ ms) next = calls (call.Record (m ∷ ms) now) (λ r. unless_short r next)

abbrev pub records_allowed : {X : Type 0} → SlotWork → List Task → DeskReply → TurnPlan X → TurnPlan X
records_allowed work tasks (reply.Keys listed) next = records work.moment (recorded work.domains (allowed_of listed) tasks) next
records_allowed work tasks r next = Stop

-- so those of these votes, if there is one, once it has told which keys may sign
abbrev pub records_votes : {X : Type 0} → SlotWork → List Task → TurnPlan X → TurnPlan X
records_votes work [] next = next
records_votes work (t ∷ tasks) next = calls call.Keys (λ r. records_allowed work (t ∷ tasks) r next)

-- these votes have these answers, and the first of them has this place: the desk is asked to keep the messages of the votes that follow from the
-- answers together, and then each of these votes is cast in the lanes
abbrev pub casts_for : {X : Type 0} → SlotWork → ℕ → List Duty → (List Ended → TurnPlan X) → List Ended → TurnPlan X
casts_for work place votes next_by asked = records_votes work (vote_tasks votes asked) (works work place (vote_tasks votes asked) (λ cast. next_by (vote_ends asked cast)))

-- Votes are cast, of which the first has this place: nodes are asked in the lanes what each committee is to vote, once for each committee; and
-- then the votes are cast for what they said.
abbrev pub casts : {X : Type 0} → SlotWork → ℕ → List Duty → (List Ended → TurnPlan X) → TurnPlan X
casts work place votes next_by = works work place (data_tasks votes) (λ ends. casts_for work place votes next_by (vote_answers votes ends))

-- a third into the slot the votes are cast, whose places are after those of the blocks; at another moment they are dropped, and the
-- next turn is of the slot of that moment
abbrev pub votes_plan : DutySetup → Standing → List Duty → List Ended → ℕ → NextPlan
votes_plan setup s ds proposed reached =
    if is_missed setup.genesis_time s.slot (votes_start setup.genesis_time s.slot) reached
    then close_plan setup s.slot (blocks_in ds) (results_of proposed) (at_moment setup.genesis_time (votes_start setup.genesis_time s.slot) reached s)
    else casts (work_of setup s) (length (blocks_in ds)) (votes_in ds) (λ cast. again_plan setup s (blocks_in ds ++ votes_in ds) (proposed ++ cast))

-- what is due is done: blocks at once, votes a third into the slot
abbrev pub due_plan : DutySetup → Standing → List Duty → NextPlan
due_plan setup s ds = works (work_of setup s) 0 (fresh (blocks_in ds)) (λ proposed. waits (votes_start setup.genesis_time s.slot) (votes_plan setup s ds proposed))

abbrev pub with_active : List PubKey → Standing → Standing
with_active active s = record s { active = Some active }

abbrev pub ready_plan : DutySetup → List PubKey → Option Standing → NextPlan
ready_plan setup active None = Done (Err end.Write)
ready_plan setup active (Some s) = looks_up s.answers s.slot active (due_plan setup (with_active active s))

-- the nodes are asked for the fork and the indices, for the duties, and for what is missing of the watch
abbrev pub asked_plan : DutySetup → List (PubKey × KeyStanding) → List PubKey → Standing → PartPlan
asked_plan setup listed active s = then_on (then_on (renewed_plan active s) (duties_plan active)) (watch_plan setup.watch listed)

abbrev pub active_of : List (PubKey × KeyStanding) → List PubKey
active_of listed = map (λ l. l.0) (filter (λ l. is_active (state_in l.1)) listed)

abbrev pub listed_plan : DutySetup → Standing → DeskReply → NextPlan
listed_plan setup s (reply.Keys listed) = bind (asked_plan setup listed (active_of listed) s) (ready_plan setup (active_of listed))
listed_plan setup s r = Stop

-- ---- when a journal of that many bytes is compacted, of which a compaction, which writes all of them again, leaves that many at most

abbrev pub least_size : ℕ
least_size = 16777216

abbrev pub size_limit : ℕ
size_limit = 1073741824

-- it is not small, and half of it is freed at least
abbrev pub frees_half : ℕ → ℕ → Bool
frees_half size weight = nat_le least_size size && nat_le weight (size / 2)

-- it is large, and a quarter of it is freed at least
abbrev pub frees_quarter : ℕ → ℕ → Bool
frees_quarter size weight = nat_lt size_limit size && nat_le weight (size - size / 4)

abbrev pub is_worth_compacting : ℕ → ℕ → Bool
is_worth_compacting size weight = frees_half size weight || frees_quarter size weight

abbrev pub sized : {X : Type 0} → DeskReply → TurnPlan X → TurnPlan X
sized (reply.Size size weight) next = if is_worth_compacting size weight then calls call.Compact (λ r. unless_short r next) else next
sized r next = Stop

abbrev pub shortens : {X : Type 0} → Standing → TurnPlan X → TurnPlan X
shortens s next = if is_first_slot s.slot then calls call.Size (λ r. sized r next) else next

-- at its slot's start the nodes are refreshed, the loop's own and then those of the lanes, a journal that has grown is compacted where the
-- slot is an epoch's first, and the desk is asked for its keys; at another moment its duties are dropped, and the next turn is of the slot
-- of that moment
abbrev pub woken_plan : DutySetup → Standing → ℕ → NextPlan
woken_plan setup s reached =
    if is_missed setup.genesis_time s.slot (slot_start setup.genesis_time s.slot) reached
    then close_plan setup s.slot [] [] (at_moment setup.genesis_time (slot_start setup.genesis_time s.slot) reached s)
    else refreshes (refreshes_lanes (shortens s (calls call.Keys (listed_plan setup s))))

abbrev pub turn_plan : DutySetup → Standing → NextPlan
turn_plan setup s = waits (slot_start setup.genesis_time s.slot) (woken_plan setup s)

-- ---- turn after turn

abbrev pub next_turn : (Standing → TurnPlan (Result (Unit {0}) DutyEnd)) → Next → TurnPlan (Result (Unit {0}) DutyEnd)
next_turn turns (Ok s) = turns s
next_turn turns (Err ended) = Done (Err ended)

-- that many turns
abbrev pub turns_plan : DutySetup → ℕ → Standing → TurnPlan (Result (Unit {0}) DutyEnd)
turns_plan setup zero s = Done (Ok tt)
turns_plan setup (suc n) s = bind (turn_plan setup s) (next_turn (turns_plan setup n))

-- what stands at the start: nothing was asked yet, and the first slot is that of the clock's moment
abbrev pub first_standing : DutySetup → ℕ → Standing
first_standing setup now = record { slot = slot_of setup.genesis_time now; fork = setup.fork; indices = []; answers = []; active = None; renewed = None }
