-- What was done and told of all that was found due in a turn.
use Rattle.std.specs.Prelude.{◌≡◌, ◌<◌, ◌+◌, ℕ, List, [], ◌∷◌, ◌++◌, length, Ok, Err, Some, true}
use Rattle.edge_kit.specs.declared.bytes.PubKey.{PubKey}
use Rattle.slash_defs.specs.declared.message.Message.{Message}
use Rattle.desk_machine.specs.declared.call.KeyStanding.{KeyStanding}
use Rattle.desk_machine.specs.declared.call.DeskCall.TheVariants as call
use Rattle.desk_machine.specs.declared.call.DeskReply.{DeskReply}
use Rattle.desk_machine.specs.declared.call.DeskReply.TheVariants as reply
use Rattle.duty_schedule.specs.Answers.{TakenAnswer}
use Rattle.duty_schedule.specs.Due.{IsDue}
use Rattle.duty_schedule.specs.declared.rows.Duty.{Duty}
use Rattle.duty_plans.specs.declared.ended.Ended.{Ended}
use Rattle.duty_plans.specs.declared.result.DutyResult.{DutyResult}
use Rattle.duty_plans.specs.declared.task.Task.{Task}
use Rattle.duty_plans.specs.Choices.{aggregate_tasks, reports}
use Rattle.duty_plans.specs.Ends.{merged, results_of}
use Rattle.duty_plans.specs.Tasks.{again_tasks, fresh}
use Rattle.duty_plans.specs.Votes.{data_tasks, vote_answers, vote_ends, vote_tasks}
use Rattle.duty_plans.specs.declared.setup.DutySetup.{DutySetup}
use Rattle.duty_plans.specs.declared.work.SlotWork.{SlotWork}
use Rattle.duty_plans.specs.Slots.{EachDone}
use Rattle.duty_plans.specs.Steps.{DutyStep, Calls, Replies}
use Rattle.duty_turns.specs.Lanes.{dealt}
use Rattle.duty_turns.specs.Recording.{allowed_of, recorded}
use Rattle.duty_turns.specs.Lines.{aggregate_lines, duty_lines}
use Rattle.duty_turns.specs.Times.{again_start, aggregates_start, votes_start}
use Rattle.duty_turns.specs.TurnSteps.{TurnStep, LooksUp, Own, Owned, Waits, Works, Writes, Due, Woke, Worked, Wrote}
use Rattle.duty_turns.specs.Turns.{Next, blocks_in, choices_of, votes_in}

-- each lane, from one on, did the tasks that are dealt to it, one after another, each with the end that is dealt to the lane with it,
-- which is that of its own steps
abbrev pub EachDoneIn : SlotWork → ℕ → ℕ → ℕ → List Task → List Ended → List (List DutyStep) → Type 0
EachDoneIn work lanes lane place tasks ends [] = Unit {0}
EachDoneIn work lanes lane place tasks ends (steps ∷ others) =
    EachDone work (dealt lanes lane place tasks) steps (dealt lanes lane place ends) × EachDoneIn work lanes (lane + 1) place tasks ends others

-- these tasks, of which the first has this place in the slot, were all done in lanes, of which there is one at least
pub record AllDone (work : SlotWork) (place : ℕ) (tasks : List Task) (lanes : List (List DutyStep)) (ends : List Ended) : Type 0 where
  pub some : 0 < length lanes
  pub each : EachDoneIn work (length lanes) 0 place tasks ends lanes

-- Duties ended so, and these steps followed: where nothing was left of them, none, and they ended at last as they did at first; else all
-- that was left was tried once more in lanes, after a wait for seven seconds into the slot, and each other try's end stands for the first one's.
abbrev pub AreTried : DutySetup → ℕ → SlotWork → List Ended → List Task → List TurnStep → List DutyResult → Type 0
AreTried setup slot work ends [] steps results = (steps ≡ []) × (results ≡ results_of ends)
AreTried setup slot work ends (t ∷ tasks) steps results = (reached : ℕ) × (made : List (List DutyStep)) × (again : List Ended)
    × (steps ≡ (Waits (again_start setup.genesis_time slot), Woke reached) ∷ (Works work 0 (t ∷ tasks), Worked made (Some again)) ∷ [])
    × AllDone work 0 (t ∷ tasks) made again × (length again ≡ length (t ∷ tasks)) × (results ≡ merged ends again)

-- Validators were chosen so, and these steps followed, by which their aggregates ended so: none where none is chosen; else all of them were
-- published in lanes, after a wait for two thirds of the slot.
abbrev pub ArePublished : DutySetup → ℕ → SlotWork → List Task → List TurnStep → List Ended → Type 0
ArePublished setup slot work [] steps ends = (steps ≡ []) × (ends ≡ [])
ArePublished setup slot work (t ∷ tasks) steps ends = (reached : ℕ) × (made : List (List DutyStep))
    × (steps ≡ (Waits (aggregates_start setup.genesis_time slot), Woke reached) ∷ (Works work 0 (t ∷ tasks), Worked made (Some ends)) ∷ [])
    × AllDone work 0 (t ∷ tasks) made ends × (length ends ≡ length (t ∷ tasks))

-- These choices of aggregators were made in lanes, each with an end of its own steps; the aggregates of the validators that are chosen were
-- published; and a line was written of each choice that has something to report. Nothing where there is no choice.
abbrev pub AreGathered : DutySetup → ℕ → SlotWork → List Task → List TurnStep → Type 0
AreGathered setup slot work [] steps = steps ≡ []
AreGathered setup slot work (t ∷ choices) steps = (made : List (List DutyStep)) × (chosen : List Ended) × (published : List TurnStep) × (ends : List Ended) × (text : List ℕ)
    × (steps ≡ (Works work 0 (t ∷ choices), Worked made (Some chosen)) ∷ (published ++ (Writes text, Wrote true text) ∷ []))
    × AllDone work 0 (t ∷ choices) made chosen × (length chosen ≡ length (t ∷ choices))
    × ArePublished setup slot work (aggregate_tasks (t ∷ choices) chosen) published ends × (text ≡ aggregate_lines slot (t ∷ choices) (reports chosen ends))

-- the desk was asked to keep these messages together, if there is one
abbrev pub AreKept : ℕ → List (PubKey × Message) → List TurnStep → Type 0
AreKept now [] steps = steps ≡ []
AreKept now (m ∷ ms) steps = (r : DeskReply) × (steps ≡ (Own (Calls (call.Record (m ∷ ms) now)), Owned (Replies r)) ∷ [])

-- so those of these votes, if there is one: of the keys that may sign by how the desk told that all stand, and the first of each key
abbrev pub AreRecorded : SlotWork → List Task → List TurnStep → Type 0
AreRecorded work [] steps = steps ≡ []
AreRecorded work (t ∷ tasks) steps = (listed : List (PubKey × KeyStanding)) × (more : List TurnStep) × (steps ≡ (Own (Calls call.Keys), Owned (Replies (reply.Keys listed))) ∷ more)
    × AreKept work.moment (recorded work.domains (allowed_of listed) (t ∷ tasks)) more

-- The duties that are due at the slot were looked up. Blocks were done at once, in lanes, each with an end of its own steps.
-- A third into the slot nodes were asked in lanes what each committee is to vote, once for each committee; the desk was asked to keep the
-- messages of the votes for what they said together; and these votes were cast in lanes. What was left of all was tried once more; then a line
-- was written of each duty, blocks before votes; and then aggregates of the votes were published.
pub record AllTold (setup : DutySetup) (slot : ℕ) (steps : List TurnStep) : Type 0 where
  pub front : List TurnStep
  pub answers : List TakenAnswer
  pub active : List PubKey
  pub due : List Duty
  pub work : SlotWork
  pub made : List (List DutyStep)
  pub proposed : List Ended
  pub reached : ℕ
  pub asking : List (List DutyStep)
  pub told : List Ended
  pub asked : List Ended
  pub records : List TurnStep
  pub voting : List (List DutyStep)
  pub cast : List Ended
  pub tries : List TurnStep
  pub results : List DutyResult
  pub text : List ℕ
  pub gathers : List TurnStep
  pub behind : List TurnStep
  pub are : steps ≡ front ++ (LooksUp answers slot active, Due due) ∷ (Works work 0 (fresh (blocks_in due)), Worked made (Some proposed)) ∷ (Waits (votes_start setup.genesis_time slot), Woke reached)
      ∷ (Works work (length (blocks_in due)) (data_tasks (votes_in due)), Worked asking (Some told)) ∷ (records
      ++ (Works work (length (blocks_in due)) (vote_tasks (votes_in due) asked), Worked voting (Some cast)) ∷ (tries ++ (Writes text, Wrote true text) ∷ (gathers ++ behind)))
  pub found : IsDue answers slot active due
  pub work_slot : work.slot ≡ slot
  pub blocks : AllDone work 0 (fresh (blocks_in due)) made proposed
  pub questions : AllDone work (length (blocks_in due)) (data_tasks (votes_in due)) asking told
  pub answers_are : asked ≡ vote_answers (votes_in due) told
  pub kept : AreRecorded work (vote_tasks (votes_in due) asked) records
  pub votes : AllDone work (length (blocks_in due)) (vote_tasks (votes_in due) asked) voting cast
  pub tried : AreTried setup slot work (proposed ++ vote_ends asked cast) (again_tasks due (proposed ++ vote_ends asked cast)) tries results
  pub lines : text ≡ duty_lines slot due results
  pub gathered : AreGathered setup slot work (choices_of setup due (proposed ++ vote_ends asked cast)) gathers
  pub each : length results ≡ length due

-- where the turn went on to the next
abbrev pub ToldIfNext : DutySetup → ℕ → List TurnStep → Next → Type 0
ToldIfNext setup slot steps (Ok s) = AllTold setup slot steps
ToldIfNext setup slot steps (Err ended) = Unit {0}
