-- What another try proposes, what is left of a duty, and what it goes on with.
use Rattle.std.specs.Prelude.{◌≡◌, true, List, [], ◌∷◌, ◌++◌, Contains, IfSome, Option, None, Some, Ok}
use Rattle.edge_kit.specs.declared.bytes.PubKey.{PubKey}
use Rattle.edge_kit.specs.declared.bytes.Sig.{Sig}
use Rattle.slash_defs.specs.declared.message.Message.{Message}
use Rattle.desk_machine.specs.declared.open_grant.OpenGrant.{OpenGrant}
use Rattle.desk_machine.specs.declared.call.DeskCall.{DeskCall}
use Rattle.desk_machine.specs.declared.call.DeskCall.TheVariants as call
use Rattle.phase0_types.specs.declared.attestation.AttestationData.{AttestationData}
use Rattle.signer_link.specs.declared.request.PlainRequest.{PlainRequest}
use Rattle.signer_link.specs.declared.reply.SignReply.TheVariants as signing
use Rattle.node_calls.specs.declared.answer.Answer.{Answer}
use Rattle.node_calls.specs.declared.answer.Answer.TheVariants as answer
use Rattle.node_calls.specs.declared.answer.AttesterRow.{AttesterRow}
use Rattle.node_calls.specs.declared.ask.Ask.TheVariants as ask
use Rattle.duty_schedule.specs.Aggregators.{is_aggregator}
use Rattle.duty_schedule.specs.Checking.{data_members, first_that_differs}
use Rattle.duty_schedule.specs.declared.rows.Duty.TheVariants as duty
use Rattle.duty_plans.specs.declared.ended.Aggregation.{Aggregation}
use Rattle.duty_plans.specs.declared.ended.Aggregation.TheVariants as votes
use Rattle.duty_plans.specs.declared.ended.Ended.{Ended}
use Rattle.duty_plans.specs.declared.task.Task.{Task}
use Rattle.duty_plans.specs.declared.task.Task.TheVariants as task
use Rattle.duty_plans.specs.declared.work.SlotWork.{SlotWork}
use Rattle.duty_plans.specs.Ends.{is_repeated}
use Rattle.duty_plans.specs.Guards.{granted_in}
use Rattle.duty_plans.specs.Messages.{slot_request}
use Rattle.duty_plans.specs.Steps.{DutyCall, DutyStep, Tried, Answered, Asks, Calls, Reveals, Signed, came_of, desk_calls}
use Rattle.duty_plans.specs.Tasks.{IsOwnUnsent, duty_of, owner_of, unsent_message}

-- where leave is asked for a message, it is this one, for this key
abbrev pub Proposes : PubKey → Message → DutyCall → Type 0
Proposes key m (Calls (call.Propose k message now)) = (k ≡ key) × (message ≡ m)
Proposes key m c = Unit {0}

abbrev pub AllPropose : PubKey → Message → List DutyStep → Type 0
AllPropose key m [] = Unit {0}
AllPropose key m (s ∷ steps) = Proposes key m s.0 × AllPropose key m steps

-- leave was given for this key and message, where there is one
abbrev pub HadLeave : List (PubKey × Message) → PubKey → Option Message → Type 0
HadLeave so key None = Unit {0}
HadLeave so key (Some m) = Contains so (key, m)

-- Another try may follow only where the service failed or answered something else, or no node took what was posted. What is left is the
-- duty's, and the desk gave leave for its message, if it has one, in these steps.
abbrev pub IsLeft : SlotWork → Task → List DutyStep → Ended → Type 0
IsLeft work t steps e = IfSome e.unsent (λ unsent. (is_repeated e.result ≡ true) × IsOwnUnsent work.altair (duty_of t) unsent
    × HadLeave (granted_in (desk_calls steps)) (owner_of (duty_of t)) (unsent_message work.domains unsent))

-- ---- what it goes on with

-- in these steps the service gave this signature under a grant of the key for this
pub record IsProvedIn (steps : List DutyStep) (owner : PubKey) (q : PlainRequest) (proof : Sig) : Type 0 where
  pub grant : OpenGrant
  pub owned : grant.key ≡ owner
  pub front : List DutyStep
  pub back : List DutyStep
  pub are : steps ≡ front ++ (Reveals grant q, Signed (signing.Signed proof)) ∷ back

-- in these steps a node said that the committee of this validator is to vote this
pub record WasSaidIn (steps : List DutyStep) (work : SlotWork) (row : AttesterRow) (details : AttestationData) : Type 0 where
  pub tried : Tried Answer
  pub asked : Contains steps (Asks (ask.Data work.slot row.committee_index), Answered tried)
  pub said : came_of tried ≡ Ok (answer.Data details)

-- Of a vote: with data that is the duty's. Of the question for it: with such data that a node said. Of a choice: with the same data and a
-- proof that the service gave for the slot, and that chooses the validator.
abbrev pub GoesOnWith : SlotWork → Task → List DutyStep → Aggregation → Type 0
GoesOnWith work (task.Fresh (duty.Vote row)) steps (votes.Voted details) = first_that_differs (data_members row details) ≡ None
GoesOnWith work (task.Again (duty.Vote row) unsent) steps (votes.Voted details) = first_that_differs (data_members row details) ≡ None
GoesOnWith work (task.Data row) steps (votes.Voted details) = (first_that_differs (data_members row details) ≡ None) × WasSaidIn steps work row details
GoesOnWith work (task.Vote row given) steps (votes.Voted details) = (details ≡ given) × (first_that_differs (data_members row details) ≡ None)
GoesOnWith work (task.Choose row asked) steps (votes.Chosen details proof) = (details ≡ asked) × (is_aggregator proof row.committee_length ≡ true) × IsProvedIn steps row.pubkey (slot_request work) proof
GoesOnWith work t steps x = ⊥

abbrev pub GoesOn : SlotWork → Task → List DutyStep → Ended → Type 0
GoesOn work t steps e = IfSome e.aggregation (GoesOnWith work t steps)
