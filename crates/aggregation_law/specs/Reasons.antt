-- Why each task of a turn is done: what stands for it in the steps before.
use Rattle.std.specs.Prelude.{◌≡◌, ◌⊎◌, ℕ, false, true, List, [], ◌∷◌, ◌++◌, Contains, Some, None}
use Rattle.edge_kit.specs.declared.bytes.PubKey.{PubKey}
use Rattle.edge_kit.specs.declared.bytes.Sig.{Sig}
use Rattle.phase0_types.specs.declared.attestation.AttestationData.{AttestationData}
use Rattle.node_calls.specs.declared.answer.AttesterRow.{AttesterRow}
use Rattle.duty_schedule.specs.Checking.{data_members, first_that_differs}
use Rattle.duty_schedule.specs.Answers.{TakenAnswer}
use Rattle.duty_schedule.specs.declared.rows.Duty.{Duty}
use Rattle.duty_schedule.specs.declared.rows.Duty.TheVariants as duty
use Rattle.duty_plans.specs.declared.ended.Aggregation.TheVariants as votes
use Rattle.duty_plans.specs.declared.ended.Ended.{Ended}
use Rattle.duty_plans.specs.declared.ended.Unsent.{Unsent}
use Rattle.duty_plans.specs.declared.setup.DutySetup.{DutySetup}
use Rattle.duty_plans.specs.declared.task.Task.{Task}
use Rattle.duty_plans.specs.declared.task.Task.TheVariants as task
use Rattle.duty_plans.specs.declared.work.SlotWork.{SlotWork}
use Rattle.duty_plans.specs.Steps.{DutyStep}
use Rattle.duty_turns.specs.Times.{again_start, aggregates_start, is_missed, votes_start}
use Rattle.duty_turns.specs.TurnSteps.{TurnCall, TurnStep, Due, LooksUp, Waits, Woke, Worked, Works}

-- ---- what stands in steps

-- of two lists, element by element, these two stand at one place
abbrev pub IsPair : {A B : Type 0} → List A → List B → A → B → Type 0
IsPair [] ys a b = ⊥
IsPair (x ∷ xs) [] a b = ⊥
IsPair (x ∷ xs) (y ∷ ys) a b = ((x ≡ a) × (y ≡ b)) ⊎ IsPair xs ys a b

-- the duty was found due at the slot
pub record WasDue (steps : List TurnStep) (slot : ℕ) (d : Duty) : Type 0 where
  pub answers : List TakenAnswer
  pub active : List PubKey
  pub due : List Duty
  pub step : Contains steps (LooksUp answers slot active, Due due)
  pub among : Contains due d

-- a wait for this moment of the slot was over not before the moment, and in the slot
pub record WasTime (steps : List TurnStep) (genesis_time slot moment : ℕ) : Type 0 where
  pub reached : ℕ
  pub step : Contains steps (Waits moment, Woke reached)
  pub in_slot : is_missed genesis_time slot moment reached ≡ false

-- the task was done in a lane, in the slot and under the domains of this work, and ended so
pub record HadEnd (steps : List TurnStep) (work : SlotWork) (t : Task) (e : Ended) : Type 0 where
  pub place : ℕ
  pub tasks : List Task
  pub lanes : List (List DutyStep)
  pub ends : List Ended
  pub step : Contains steps (Works work place tasks, Worked lanes (Some ends))
  pub pair : IsPair tasks ends t e

-- the first try of a duty: all of a block, and a vote for some data
abbrev pub IsFirstTry : Duty → Task → Type 0
IsFirstTry (duty.Block row) t = t ≡ task.Fresh (duty.Block row)
IsFirstTry (duty.Vote row) t = (details : AttestationData) × (t ≡ task.Vote row details)

-- what is tried once more was left of the first try of this duty
pub record WasLeft (steps : List TurnStep) (work : SlotWork) (d : Duty) (unsent : Unsent) : Type 0 where
  pub first : Task
  pub is : IsFirstTry d first
  pub ended : Ended
  pub had : HadEnd steps work first ended
  pub left : ended.unsent ≡ Some unsent

-- the question for what this validator's committee is to vote, which was that of a validator of the same committee, went on with this data, of
-- which no member differs from what this validator's duty is to vote
pub record WasAnswered (steps : List TurnStep) (work : SlotWork) (row : AttesterRow) (details : AttestationData) : Type 0 where
  pub asked : AttesterRow
  pub same : asked.committee_index ≡ row.committee_index
  pub ended : Ended
  pub had : HadEnd steps work (task.Data asked) ended
  pub goes_on : ended.aggregation ≡ Some (votes.Voted details)
  pub own : first_that_differs (data_members row details) ≡ None

-- the vote of this validator, for the data that it was given, went on with this data
pub record GotData (steps : List TurnStep) (work : SlotWork) (row : AttesterRow) (details : AttestationData) : Type 0 where
  pub given : AttestationData
  pub ended : Ended
  pub had : HadEnd steps work (task.Vote row given) ended
  pub goes_on : ended.aggregation ≡ Some (votes.Voted details)

-- the validator's choice, of votes for the data that it asked of, went on with this data and this proof
pub record WasChosen (steps : List TurnStep) (work : SlotWork) (row : AttesterRow) (details : AttestationData) (proof : Sig) : Type 0 where
  pub asked : AttestationData
  pub ended : Ended
  pub had : HadEnd steps work (task.Choose row asked) ended
  pub goes_on : ended.aggregation ≡ Some (votes.Chosen details proof)

-- ---- why a task is done

-- A block is proposed where it was found due. What a committee is to vote is asked where a vote of it was found due, after a wait for the slot's
-- third that was over in the slot; a vote that was found due is cast after such a wait, for data with which its committee's question went on, and
-- never without. A duty is tried once more after a wait for that, where what is tried is left of it. Whether a validator aggregates is asked where
-- aggregates are wanted, of a vote that got this data. An aggregate is published after a wait for two thirds of the slot that was over in it, by a
-- validator that this proof chose. Over a clock that is set back such a wait may stand before the step and its slot after it.
abbrev pub HasReason : DutySetup → List TurnStep → SlotWork → Task → Type 0
HasReason setup steps work (task.Fresh (duty.Block row)) = WasDue steps work.slot (duty.Block row)
HasReason setup steps work (task.Fresh (duty.Vote row)) = ⊥
HasReason setup steps work (task.Data row) = WasDue steps work.slot (duty.Vote row) × WasTime steps setup.genesis_time work.slot (votes_start setup.genesis_time work.slot)
HasReason setup steps work (task.Vote row details) = WasDue steps work.slot (duty.Vote row) × WasTime steps setup.genesis_time work.slot (votes_start setup.genesis_time work.slot) × WasAnswered steps work row details
HasReason setup steps work (task.Again d unsent) = WasTime steps setup.genesis_time work.slot (again_start setup.genesis_time work.slot) × WasLeft steps work d unsent
HasReason setup steps work (task.Choose row details) = (setup.aggregate ≡ true) × GotData steps work row details
HasReason setup steps work (task.Aggregate row details proof) = WasTime steps setup.genesis_time work.slot (aggregates_start setup.genesis_time work.slot) × WasChosen steps work row details proof

-- each task that this step does has a reason in the steps before
abbrev pub IsReasoned : DutySetup → List TurnStep → TurnCall → Type 0
IsReasoned setup before (Works work place tasks) = (t : Task) → Contains tasks t → HasReason setup before work t
IsReasoned setup before c = Unit {0}

-- so each of these steps, after those before
abbrev pub AreReasoned : DutySetup → List TurnStep → List TurnStep → Type 0
AreReasoned setup before [] = Unit {0}
AreReasoned setup before (s ∷ steps) = IsReasoned setup before s.0 × AreReasoned setup (before ++ s ∷ []) steps
