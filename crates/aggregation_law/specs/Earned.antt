-- What an aggregate that is posted rests on.
use Rattle.std.specs.Prelude.{◌≡◌, ℕ, true, List, [], ◌∷◌, ◌++◌, Contains, Option, None, Ok}
use Rattle.edge_kit.specs.declared.bytes.Sig.{Sig}
use Rattle.phase0_types.specs.declared.attestation.AttestationData.{AttestationData}
use Rattle.duty_types.specs.declared.aggregate.AggregateAndProof.{AggregateAndProof}
use Rattle.desk_machine.specs.declared.open_grant.OpenGrant.{OpenGrant}
use Rattle.node_calls.specs.declared.answer.Answer.{Answer}
use Rattle.node_calls.specs.declared.answer.Answer.TheVariants as answer
use Rattle.node_calls.specs.declared.answer.AttesterRow.{AttesterRow}
use Rattle.node_calls.specs.declared.ask.Ask.TheVariants as ask
use Rattle.node_calls.specs.declared.post.Post.TheVariants as post
use Rattle.duty_schedule.specs.Aggregators.{is_aggregator}
use Rattle.duty_schedule.specs.Checking.{data_members, first_that_differs}
use Rattle.duty_schedule.specs.declared.rows.Duty.TheVariants as duty
use Rattle.duty_plans.specs.declared.ended.Ended.{Ended}
use Rattle.duty_plans.specs.declared.setup.DutySetup.{DutySetup}
use Rattle.duty_plans.specs.declared.task.Task.{Task}
use Rattle.duty_plans.specs.declared.work.SlotWork.{SlotWork}
use Rattle.duty_plans.specs.Messages.{slot_request}
use Rattle.duty_plans.specs.Owning.{IsOwnAggregate, IsPlainGrantOf}
use Rattle.duty_plans.specs.Repeats.{IsProvedIn}
use Rattle.duty_plans.specs.Steps.{DutyCall, DutyStep, Tried, Answered, Asks, Posts, came_of}
use Rattle.duty_turns.specs.Times.{aggregates_start}
use Rattle.duty_turns.specs.TurnSteps.{TurnStep, Worked, Works}
use Rattle.aggregation_law.specs.Reasons.{WasDue, WasTime}

-- a lane took these steps, one right after another, in the slot and under the domains of this work
pub record WereTaken (steps : List TurnStep) (work : SlotWork) (own : List DutyStep) : Type 0 where
  pub place : ℕ
  pub tasks : List Task
  pub lanes : List (List DutyStep)
  pub ends : Option (List Ended)
  pub step : Contains steps (Works work place tasks, Worked lanes ends)
  pub lane : List DutyStep
  pub in_lane : Contains lanes lane
  pub front : List DutyStep
  pub back : List DutyStep
  pub are : lane ≡ front ++ (own ++ back)

-- a node said that the committee of this validator is to vote this, and it is what the validator's duty is to vote
pub record WasSaid (steps : List TurnStep) (work : SlotWork) (row : AttesterRow) (details : AttestationData) : Type 0 where
  pub own : List DutyStep
  pub taken : WereTaken steps work own
  pub tried : Tried Answer
  pub asked : Contains own (Asks (ask.Data work.slot row.committee_index), Answered tried)
  pub said : came_of tried ≡ Ok (answer.Data details)
  pub same : first_that_differs (data_members row details) ≡ None

-- the service gave this signature of the slot under a grant of the validator's key
pub record WasProved (steps : List TurnStep) (work : SlotWork) (row : AttesterRow) (proof : Sig) : Type 0 where
  pub own : List DutyStep
  pub taken : WereTaken steps work own
  pub proved : IsProvedIn own row.pubkey (slot_request work) proof

-- An aggregate is posted under a grant where aggregates are wanted, and in its time. It is of a validator whose vote was found due at the
-- slot; its data has the root of what a node said that the validator's committee is to vote; and its selection proof is the service's
-- signature of the slot by the validator's key, which chooses the validator in its committee. The grant is of that key, and for no message.
pub record IsEarned (setup : DutySetup) (before : List TurnStep) (work : SlotWork) (grant : OpenGrant) (given : AggregateAndProof) : Type 0 where
  pub row : AttesterRow
  pub details : AttestationData
  pub proof : Sig
  pub wanted : setup.aggregate ≡ true
  pub time : WasTime before setup.genesis_time work.slot (aggregates_start setup.genesis_time work.slot)
  pub due : WasDue before work.slot (duty.Vote row)
  pub said : WasSaid before work row details
  pub proved : WasProved before work row proof
  pub chosen : is_aggregator proof row.committee_length ≡ true
  pub own : IsOwnAggregate row details proof given
  pub leave : IsPlainGrantOf grant row.pubkey

abbrev pub IsEarnedCall : DutySetup → List TurnStep → SlotWork → DutyCall → Type 0
IsEarnedCall setup before work (Posts grant (post.Aggregate signed)) = IsEarned setup before work grant signed.message
IsEarnedCall setup before work c = Unit {0}

-- so is each aggregate that a lane posts in this step, whether or not memory ran out in it
abbrev pub IsEarnedStep : DutySetup → List TurnStep → TurnStep → Type 0
IsEarnedStep setup before (Works work place tasks, Worked lanes ends) = (lane : List DutyStep) (s : DutyStep) → Contains lanes lane → Contains lane s → IsEarnedCall setup before work s.0
IsEarnedStep setup before s = Unit {0}

-- so in each of these steps, after those before
abbrev pub AreEarned : DutySetup → List TurnStep → List TurnStep → Type 0
AreEarned setup before [] = Unit {0}
AreEarned setup before (s ∷ steps) = IsEarnedStep setup before s × AreEarned setup (before ++ s ∷ []) steps
