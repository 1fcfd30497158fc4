-- How a question for what a committee is to vote ends, and what it and a choice go on with, by the replies to their calls.
use Rattle.std.proofs.Common.{◌≡◌, Bool, true, List, [], ◌∷◌, Some, None, refl, sym, ◌∙◌, ap, subst}
use Rattle.std.specs.Prelude.{IfSome, if◌then◌else◌}
use Rattle.edge_kit.specs.declared.bytes.Sig.{Sig}
use Rattle.phase0_types.specs.declared.attestation.AttestationData.{AttestationData}
use Rattle.desk_machine.specs.declared.open_grant.OpenGrant.{OpenGrant}
use Rattle.desk_machine.specs.declared.call.Outcome.TheVariants as outcome
use Rattle.signer_link.specs.declared.reply.SignReply.TheVariants as signing
use Rattle.node_calls.specs.declared.answer.Answer.{Answer}
use Rattle.node_calls.specs.declared.answer.AttesterRow.{AttesterRow}
use Rattle.node_calls.specs.declared.ask.Ask.TheVariants as ask
use Rattle.duty_schedule.specs.Aggregators.{is_aggregator}
use Rattle.call_plans.specs.Plans.{Done, Follows}
use Rattle.duty_plans.specs.declared.ended.Aggregation.{Aggregation}
use Rattle.duty_plans.specs.declared.ended.Aggregation.TheVariants as votes
use Rattle.duty_plans.specs.declared.ended.Ended.{Ended}
use Rattle.duty_plans.specs.declared.got.Got.{Got}
use Rattle.duty_plans.specs.declared.got.Got.TheVariants as got
use Rattle.duty_plans.specs.declared.task.Task.TheVariants as task
use Rattle.duty_plans.specs.declared.work.SlotWork.{SlotWork}
use Rattle.duty_plans.specs.Ends.{over}
use Rattle.duty_plans.specs.Messages.{slot_request}
use Rattle.duty_plans.specs.Reading.{grant_of, vote_of}
use Rattle.duty_plans.specs.Steps.{DutyStep, Tried, Answered, Asks, Reveals, Signed, Fits, came_of}
use Rattle.duty_plans.specs.Plans.{answer_reply, chosen_by, desk_reply, proof_plan, said, settles, task_plan, with_got}

-- ---- a question for what a committee is to vote

-- it is known of votes what is to be voted
abbrev pub IsVoted : Aggregation → Type 0
IsVoted (votes.Voted details) = Unit {0}
IsVoted (votes.Chosen details proof) = ⊥

-- nothing is left of a question, and it goes on with data, if with anything
abbrev pub IsAnswer : Ended → Type 0
IsAnswer e = (e.unsent ≡ None) × IfSome e.aggregation IsVoted

answer_end : (g : Got AttestationData) (rest : List DutyStep) (e : Ended) → Follows Fits (with_got over g (λ details. Done (said details))) rest (Some e) → IsAnswer e
answer_end (got.Given details) [] e f = subst IsAnswer (sym f) (refl, tt)
answer_end (got.Given details) (s ∷ rest) e f = absurd f
answer_end (got.Failed by) [] e f = subst IsAnswer (sym f) (refl, tt)
answer_end (got.Failed by) (s ∷ rest) e f = absurd f
answer_end got.Nothing [] e f = absurd f
answer_end got.Nothing (s ∷ rest) e f = absurd f

pub data_answers : (work : SlotWork) (row : AttesterRow) (steps : List DutyStep) (e : Ended) → Follows Fits (task_plan work (task.Data row)) steps (Some e) → IsAnswer e
data_answers work row [] e f = absurd f
data_answers work row (s ∷ rest) e f = answer_end (vote_of row (answer_reply s.1)) rest e f.2

said_end : (details : AttestationData) (rest : List DutyStep) (e : Ended) → Follows Fits (Done (said details)) rest (Some e) → e.aggregation ≡ Some (votes.Voted details)
said_end details [] e f = ap (λ (x : Ended). x.aggregation) f
said_end details (s ∷ rest) e f = absurd f

-- where the data was given, it goes on with that
pub data_goes : (work : SlotWork) (row : AttesterRow) (tried : Tried Answer) (rest : List DutyStep) (details : AttestationData) (e : Ended)
    → Follows Fits (task_plan work (task.Data row)) ((Asks (ask.Data work.slot row.committee_index), Answered tried) ∷ rest) (Some e)
    → vote_of row (came_of tried) ≡ got.Given details → e.aggregation ≡ Some (votes.Voted details)
data_goes work row tried rest details e f is =
    let P : Got AttestationData → Type 0 = λ g. Follows Fits (with_got over g (λ x. Done (said x))) rest (Some e) in
    said_end details rest e (subst P is f.2)

-- ---- a choice

module _ (work : SlotWork) (row : AttesterRow) (details : AttestationData) (proof : Sig) (chosen : is_aggregator proof row.committee_length ≡ true) where
  chosen_end : (rest : List DutyStep) (e : Ended) → Follows Fits (Done (chosen_by row details proof)) rest (Some e) → e.aggregation ≡ Some (votes.Chosen details proof)
  chosen_end [] e f = ap (λ (x : Ended). x.aggregation) f ∙ ap (λ (b : Bool). if b then Some (votes.Chosen details proof) else None) chosen
  chosen_end (s ∷ rest) e f = absurd f

  settled_end : (grant : OpenGrant) (rest : List DutyStep) (e : Ended) → Follows Fits (settles grant outcome.Dropped (Done (chosen_by row details proof))) rest (Some e) → e.aggregation ≡ Some (votes.Chosen details proof)
  settled_end grant [] e f = absurd f
  settled_end grant (s ∷ rest) e f = chosen_end rest e f.2

  leave_end : (g : Got OpenGrant) (grant : OpenGrant) (rest : List DutyStep) (e : Ended)
      → Follows Fits (with_got over g (λ x. proof_plan work row details x)) ((Reveals grant (slot_request work), Signed (signing.Signed proof)) ∷ rest) (Some e) → e.aggregation ≡ Some (votes.Chosen details proof)
  leave_end (got.Given x) grant rest e f = settled_end x rest e f.2
  leave_end (got.Failed by) grant rest e f = absurd f
  leave_end got.Nothing grant rest e f = absurd f

pub choice_goes : (work : SlotWork) (row : AttesterRow) (details : AttestationData) (first : DutyStep) (grant : OpenGrant) (proof : Sig) (rest : List DutyStep) (e : Ended)
    → Follows Fits (task_plan work (task.Choose row details)) (first ∷ (Reveals grant (slot_request work), Signed (signing.Signed proof)) ∷ rest) (Some e)
    → is_aggregator proof row.committee_length ≡ true → e.aggregation ≡ Some (votes.Chosen details proof)
choice_goes work row details first grant proof rest e f chosen = leave_end work row details proof chosen (grant_of (desk_reply first.1)) grant rest e f.2
