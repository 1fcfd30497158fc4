-- What a duty goes on with: data that is its own, and a proof that the service gave.
use Rattle.std.proofs.Common.{◌≡◌, ℕ, Bool, true, false, List, [], ◌∷◌, ◌++◌, Option, Some, None, Result, Ok, Err, refl, sym, ap, subst}
use Rattle.std.specs.Prelude.{Contains, IfSome, if◌then◌else◌}
use Rattle.edge_kit.specs.declared.bytes.PubKey.{PubKey}
use Rattle.edge_kit.specs.declared.bytes.Sig.{Sig}
use Rattle.slash_defs.specs.declared.message.Message.{Message}
use Rattle.phase0_types.specs.declared.attestation.AttestationData.{AttestationData}
use Rattle.phase0_blocks.specs.declared.vote.Attestation.{Attestation}
use Rattle.altair_blocks.specs.declared.any_block.AnyBlock.{AnyBlock}
use Rattle.duty_types.specs.declared.aggregate.AggregateAndProof.{AggregateAndProof}
use Rattle.desk_machine.specs.declared.open_grant.OpenGrant.{OpenGrant}
use Rattle.desk_machine.specs.declared.call.DeskCall.{DeskCall}
use Rattle.desk_machine.specs.declared.call.DeskCall.TheVariants as call
use Rattle.desk_machine.specs.declared.call.Outcome.TheVariants as outcome
use Rattle.signer_link.specs.declared.request.SignRequest.{SignRequest}
use Rattle.signer_link.specs.declared.reply.SignReply.{SignReply}
use Rattle.signer_link.specs.declared.reply.SignReply.TheVariants as signing
use Rattle.protect_record.proofs.MemberLemmas.{contains_first}
use Rattle.node_calls.specs.declared.answer.Answer.{Answer}
use Rattle.node_calls.specs.declared.answer.Answer.TheVariants as answer
use Rattle.node_calls.specs.declared.answer.AttesterRow.{AttesterRow}
use Rattle.node_calls.specs.declared.ask.Ask.TheVariants as ask
use Rattle.node_fallback.specs.declared.no_node.NoAnswer.{NoAnswer}
use Rattle.node_fallback.specs.declared.no_node.NoAnswer.TheVariants as none
use Rattle.duty_schedule.specs.declared.checks.DataDiffers.{DataDiffers}
use Rattle.node_calls.specs.declared.answer.ProposerRow.{ProposerRow}
use Rattle.node_calls.specs.declared.post.Post.{Post}
use Rattle.duty_schedule.specs.Aggregators.{is_aggregator}
use Rattle.duty_schedule.specs.Checking.{data_members, first_that_differs}
use Rattle.duty_schedule.specs.declared.rows.Duty.TheVariants as duty
use Rattle.call_plans.specs.Plans.{Done, Stop, Ask as Step, Follows}
use Rattle.duty_plans.specs.declared.ended.Aggregation.{Aggregation}
use Rattle.duty_plans.specs.declared.ended.Aggregation.TheVariants as votes
use Rattle.duty_plans.specs.declared.ended.Ended.{Ended}
use Rattle.duty_plans.specs.declared.ended.Unsent.{Unsent}
use Rattle.duty_plans.specs.declared.ended.Unsent.TheVariants as granted
use Rattle.duty_plans.specs.declared.got.Got.{Got}
use Rattle.duty_plans.specs.declared.got.Got.TheVariants as got
use Rattle.duty_plans.specs.declared.result.DutyResult.{DutyResult}
use Rattle.duty_plans.specs.declared.task.Task.{Task}
use Rattle.duty_plans.specs.declared.task.Task.TheVariants as task
use Rattle.duty_plans.specs.declared.work.SlotWork.{SlotWork}
use Rattle.duty_plans.specs.Ends.{aggregation_of, barred, left_by, over}
use Rattle.duty_plans.specs.Messages.{aggregate_message, aggregate_post, slot_request, vote_message, vote_post, vote_request, block_message, block_post, block_request}
use Rattle.duty_plans.specs.Reading.{aggregate_of, block_of, grant_of, matching, nothing_of, posted_of, signature_of, vote_of}
use Rattle.duty_plans.specs.Steps.{DutyCall, DutyReply, DutyStep, DutyPlan, Tried, Asks, Calls, Reveals, Replies, Signed, Answered, Taken, Fits, came_of}
use Rattle.duty_plans.specs.Plans.{answer_reply, desk_reply, post_reply, sign_reply, aggregate_plan, aggregated_plan, allowed_plan, block_plan, choose_plan, chosen_by, data_plan, gathered_plan, granted_plan, made_plan, post_plan, proof_plan, publish_plan, revealed_plan, said, sent, settles, task_plan, under, vote_plan, voted_plan, with_got}
use Rattle.duty_plans.specs.Repeats.{GoesOn, GoesOnWith, IsProvedIn, WasSaidIn}
use Rattle.duty_plans.specs.Tasks.{IsOwnTask}
use Rattle.duty_plans.proofs.DutyLemmas.{got_for, vote_got}

-- ---- what holds of each end of a plan

abbrev AllEnds : (Ended → Type 0) → DutyPlan Ended → Type 0
AllEnds P (Done e) = P e
AllEnds P Stop = Unit {0}
AllEnds P (Step c k) = (r : DutyReply) → Fits c r → AllEnds P (k r)

end_of : (P : Ended → Type 0) (plan : DutyPlan Ended) (steps : List DutyStep) (e : Ended) → AllEnds P plan → Follows Fits plan steps (Some e) → P e
end_of P (Done x) [] e a f = subst P (sym f) a
end_of P (Done x) (s ∷ steps) e a f = absurd f
end_of P Stop [] e a f = absurd f
end_of P Stop (s ∷ steps) e a f = absurd f
end_of P (Step c k) [] e a f = absurd f
end_of P (Step c k) (s ∷ steps) e a f = end_of P (k s.1) steps e (a s.1 f.1) f.2

module _ (P : Ended → Type 0) where
  -- it holds however a duty ends by this
  abbrev Holds : (DutyResult → Ended) → Type 0
  Holds ends = (by : DutyResult) → P (ends by)

  ends_got : {T : Type 0} (ends : DutyResult → Ended) (g : Got T) (k : T → DutyPlan Ended) → Holds ends → ((x : T) → g ≡ got.Given x → AllEnds P (k x)) → AllEnds P (with_got ends g k)
  ends_got ends (got.Given x) k h next = next x refl
  ends_got ends (got.Failed by) k h next = h by
  ends_got ends got.Nothing k h next = tt

  ends_under : {T : Type 0} (ends : DutyResult → Ended) (grant : OpenGrant) (g : Got T) (k : T → DutyPlan Ended) → Holds ends → ((x : T) → AllEnds P (k x)) → AllEnds P (under ends grant g k)
  ends_under ends grant (got.Given x) k h next = next x
  ends_under ends grant (got.Failed by) k h next = λ r f. h by
  ends_under ends grant got.Nothing k h next = λ r f. tt

  ends_sent : (ends : DutyResult → Ended) → Holds ends → (x : Unit {0}) → AllEnds P (sent ends x)
  ends_sent ends h x = h _

  ends_post : (ends : DutyResult → Ended) (grant : OpenGrant) (p : Post) → Holds ends → AllEnds P (post_plan ends grant p)
  ends_post ends grant p h r f t f2 = ends_got ends (posted_of (post_reply r)) (sent ends) h (λ x e. ends_sent ends h x)

  ends_publish : (key : PubKey) (m : Message) (now : ℕ) (unsent : Unsent) (q : SignRequest) (made : Sig → Post) → Holds (barred unsent) → Holds (left_by unsent) → AllEnds P (publish_plan key m now unsent q made)
  ends_publish key m now unsent q made bars leaves r f =
      ends_got (barred unsent) (grant_of (desk_reply r)) (λ grant. granted_plan unsent q made grant) bars (λ grant e s f2.
      ends_under (left_by unsent) grant (signature_of (sign_reply s)) (λ signature. post_plan (left_by unsent) grant (made signature)) leaves (λ signature. ends_post (left_by unsent) grant (made signature) leaves))

-- ---- a vote goes on with its own data

abbrev IsVoted : AttesterRow → Aggregation → Type 0
IsVoted row (votes.Voted details) = first_that_differs (data_members row details) ≡ None
IsVoted row (votes.Chosen details proof) = ⊥

abbrev GoesVoted : AttesterRow → Ended → Type 0
GoesVoted row e = IfSome e.aggregation (IsVoted row)

goes_over : (row : AttesterRow) (by : DutyResult) → GoesVoted row (over by)
goes_over row by = tt

goes_voted : (work : SlotWork) (row : AttesterRow) (details : AttestationData) → first_that_differs (data_members row details) ≡ None → AllEnds (GoesVoted row) (voted_plan work row details)
goes_voted work row details same = ends_publish (GoesVoted row) row.pubkey (vote_message work.domains details) work.moment (granted.Vote details) (vote_request work details) (vote_post row details) (λ by. same) (λ by. same)

goes_vote : (work : SlotWork) (row : AttesterRow) → AllEnds (GoesVoted row) (vote_plan work row)
goes_vote work row r f = ends_got (GoesVoted row) over (vote_of row (answer_reply r)) (λ details. voted_plan work row details) (goes_over row) (λ details e. goes_voted work row details (vote_got row (answer_reply r) details e))

fresh_goes : (work : SlotWork) (row : AttesterRow) (steps : List DutyStep) (o : Option Aggregation) → IfSome o (IsVoted row) → IfSome o (GoesOnWith work (task.Fresh (duty.Vote row)) steps)
fresh_goes work row steps None h = tt
fresh_goes work row steps (Some (votes.Voted details)) h = h
fresh_goes work row steps (Some (votes.Chosen details proof)) h = absurd h

again_goes : (work : SlotWork) (row : AttesterRow) (unsent : Unsent) (steps : List DutyStep) (o : Option Aggregation) → IfSome o (IsVoted row) → IfSome o (GoesOnWith work (task.Again (duty.Vote row) unsent) steps)
again_goes work row unsent steps None h = tt
again_goes work row unsent steps (Some (votes.Voted details)) h = h
again_goes work row unsent steps (Some (votes.Chosen details proof)) h = absurd h

-- ---- a question goes on with what a node said

matched_is : (o : Option DataDiffers) (x y : AttestationData) → matching o x ≡ got.Given y → x ≡ y
matched_is None x y e = cc
matched_is (Some differs) x y e = absurd cc

nothing_not : (why : NoAnswer) (y : AttestationData) → nothing_of why ≡ got.Given y → ⊥
nothing_not (none.NoNode causes) y e = absurd cc
nothing_not none.OutOfMemory y e = absurd cc

pub data_got : (row : AttesterRow) (a : Result Answer NoAnswer) (details : AttestationData) → vote_of row a ≡ got.Given details → a ≡ Ok (answer.Data details)
data_got row (Ok (answer.Data given)) details e = ap (λ (x : AttestationData). Ok (answer.Data x)) (matched_is (first_that_differs (data_members row given)) given details e)
data_got row (Ok a) details e = absurd cc
data_got row (Err why) details e = absurd (nothing_not why details e)

module _ (work : SlotWork) (row : AttesterRow) where
  -- this call, with this reply, and what follows
  abbrev Told : DutyCall → Tried Answer → List DutyStep → Ended → Type 0
  Told c tried back e = GoesOn work (task.Data row) ((c, Answered tried) ∷ back) e

  said_first : (c : DutyCall) (tried : Tried Answer) (back : List DutyStep) (details : AttestationData) → c ≡ Asks (ask.Data work.slot row.committee_index) → came_of tried ≡ Ok (answer.Data details)
      → WasSaidIn ((c, Answered tried) ∷ back) work row details
  said_first c tried back details is said = record {
    tried = tried;
    asked = subst (λ (x : DutyCall). Contains ((x, Answered tried) ∷ back) (Asks (ask.Data work.slot row.committee_index), Answered tried)) (sym is) (contains_first (Asks (ask.Data work.slot row.committee_index), Answered tried) back);
    said = said;
  }

  told_done : (c : DutyCall) (tried : Tried Answer) (back rest : List DutyStep) (details : AttestationData) (e : Ended) → first_that_differs (data_members row details) ≡ None
      → WasSaidIn ((c, Answered tried) ∷ back) work row details → Follows Fits (Done (said details)) rest (Some e) → Told c tried back e
  told_done c tried back [] details e same was f = subst (λ (x : Ended). Told c tried back x) (sym f) (same, was)
  told_done c tried back (s ∷ rest) details e same was f = absurd f

  told_over : (c : DutyCall) (tried : Tried Answer) (back rest : List DutyStep) (by : DutyResult) (e : Ended) → Follows Fits (Done (over by)) rest (Some e) → Told c tried back e
  told_over c tried back [] by e f = subst (λ (x : Ended). Told c tried back x) (sym f) tt
  told_over c tried back (s ∷ rest) by e f = absurd f

  told_stopped : (c : DutyCall) (tried : Tried Answer) (back rest : List DutyStep) (e : Ended) → Follows Fits (Stop) rest (Some e) → Told c tried back e
  told_stopped c tried back [] e f = absurd f
  told_stopped c tried back (s ∷ rest) e f = absurd f

  told_by : (c : DutyCall) (tried : Tried Answer) (back rest : List DutyStep) (e : Ended) (g : Got AttestationData) → c ≡ Asks (ask.Data work.slot row.committee_index) → vote_of row (came_of tried) ≡ g
      → Follows Fits (with_got over g (λ details. Done (said details))) rest (Some e) → Told c tried back e
  told_by c tried back rest e (got.Given details) is given f =
      told_done c tried back rest details e (vote_got row (came_of tried) details given) (said_first c tried back details is (data_got row (came_of tried) details given)) f
  told_by c tried back rest e (got.Failed by) is given f = told_over c tried back rest by e f
  told_by c tried back rest e got.Nothing is given f = told_stopped c tried back rest e f

  data_goes : (steps : List DutyStep) (e : Ended) → Follows Fits (data_plan work row) steps (Some e) → GoesOn work (task.Data row) steps e
  data_goes [] e f = absurd f
  data_goes ((c, Answered tried) ∷ rest) e f = told_by c tried rest rest e (vote_of row (came_of tried)) f.0 refl f.2
  data_goes ((c, Replies r) ∷ rest) e f = absurd f.1
  data_goes ((c, Signed s) ∷ rest) e f = absurd f.1
  data_goes ((c, Taken tried) ∷ rest) e f = absurd f.1

-- ---- a vote for data goes on with it

abbrev GoesGiven : AttestationData → Ended → Type 0
GoesGiven details e = e.aggregation ≡ Some (votes.Voted details)

goes_given : (work : SlotWork) (row : AttesterRow) (details : AttestationData) → AllEnds (GoesGiven details) (voted_plan work row details)
goes_given work row details = ends_publish (GoesGiven details) row.pubkey (vote_message work.domains details) work.moment (granted.Vote details) (vote_request work details) (vote_post row details) (λ by. refl) (λ by. refl)

pub cast_goes : (work : SlotWork) (row : AttesterRow) (details : AttestationData) (steps : List DutyStep) (e : Ended) → Follows Fits (task_plan work (task.Vote row details)) steps (Some e) → e.aggregation ≡ Some (votes.Voted details)
cast_goes work row details steps e f = end_of (GoesGiven details) (voted_plan work row details) steps e (goes_given work row details) f

given_goes : (work : SlotWork) (row : AttesterRow) (details : AttestationData) (steps : List DutyStep) (e : Ended) → first_that_differs (data_members row details) ≡ None → e.aggregation ≡ Some (votes.Voted details) → GoesOn work (task.Vote row details) steps e
given_goes work row details steps e same is = subst (λ (o : Option Aggregation). IfSome o (GoesOnWith work (task.Vote row details) steps)) (sym is) (refl, same)

-- ---- a block, and an aggregate, go on with nothing

abbrev GoesNot : Ended → Type 0
GoesNot e = e.aggregation ≡ None

none_goes : (work : SlotWork) (t : Task) (steps : List DutyStep) (e : Ended) → GoesNot e → GoesOn work t steps e
none_goes work t steps e is = subst (λ (o : Option Aggregation). IfSome o (GoesOnWith work t steps)) (sym is) tt

ends_made : (work : SlotWork) (row : ProposerRow) (block : AnyBlock) → AllEnds GoesNot (made_plan work row block)
ends_made work row block = ends_publish GoesNot row.pubkey (block_message work.domains block) work.moment (granted.Block block) (block_request work block) (block_post block) (λ by. refl) (λ by. refl)

ends_block : (work : SlotWork) (row : ProposerRow) → AllEnds GoesNot (block_plan work row)
ends_block work row r f =
    ends_got GoesNot over (grant_of (desk_reply r)) (λ grant. allowed_plan work row grant) (λ by. refl) (λ grant e s f2.
    ends_under GoesNot (left_by granted.Reveal) grant (signature_of (sign_reply s)) (λ reveal. revealed_plan work row grant reveal) (λ by. refl) (λ reveal a f3 t f4.
    ends_got GoesNot over (block_of work.altair row (answer_reply a)) (λ block. made_plan work row block) (λ by. refl) (λ block is. ends_made work row block)))

ends_gathered : (work : SlotWork) (row : AttesterRow) (given : AggregateAndProof) → AllEnds GoesNot (gathered_plan work row given)
ends_gathered work row given r f =
    ends_got GoesNot over (grant_of (desk_reply r)) (λ grant. aggregated_plan work given grant) (λ by. refl) (λ grant e s f2.
    ends_under GoesNot over grant (signature_of (sign_reply s)) (λ signature. post_plan over grant (aggregate_post given signature)) (λ by. refl) (λ signature. ends_post GoesNot over grant (aggregate_post given signature) (λ by. refl)))

ends_aggregate : (work : SlotWork) (row : AttesterRow) (details : AttestationData) (proof : Sig) → AllEnds GoesNot (aggregate_plan work row details proof)
ends_aggregate work row details proof r f =
    ends_got GoesNot over (aggregate_of details (answer_reply r)) (λ aggregate. gathered_plan work row (aggregate_message row proof aggregate)) (λ by. refl) (λ aggregate e.
    ends_gathered work row (aggregate_message row proof aggregate))

-- ---- a choice goes on with a proof that the service gave

module _ (work : SlotWork) (row : AttesterRow) (details : AttestationData) where
  abbrev Goes : List DutyStep → Ended → Type 0
  Goes steps e = GoesOn work (task.Choose row details) steps e

  none_done : (steps rest : List DutyStep) (by : DutyResult) (e : Ended) → Follows Fits (Done (over by)) rest (Some e) → Goes steps e
  none_done steps [] by e f = subst (λ (x : Ended). Goes steps x) (sym f) tt
  none_done steps (s ∷ rest) by e f = absurd f

  none_stopped : (steps rest : List DutyStep) (e : Ended) → Follows Fits (Stop) rest (Some e) → Goes steps e
  none_stopped steps [] e f = absurd f
  none_stopped steps (s ∷ rest) e f = absurd f

  chosen_if : (steps : List DutyStep) (proof : Sig) (b : Bool) → is_aggregator proof row.committee_length ≡ b → IsProvedIn steps row.pubkey (slot_request work) proof
      → IfSome (if b then Some (votes.Chosen details proof) else None) (GoesOnWith work (task.Choose row details) steps)
  chosen_if steps proof true is proved = (refl, is, proved)
  chosen_if steps proof false is proved = tt

  chosen_done : (steps rest : List DutyStep) (proof : Sig) (e : Ended) → IsProvedIn steps row.pubkey (slot_request work) proof → Follows Fits (Done (chosen_by row details proof)) rest (Some e) → Goes steps e
  chosen_done steps [] proof e proved f = subst (λ (x : Ended). Goes steps x) (sym f) (chosen_if steps proof (is_aggregator proof row.committee_length) refl proved)
  chosen_done steps (s ∷ rest) proof e proved f = absurd f

  -- the service gave this signature by the second of these steps
  proved_second : (grant : OpenGrant) (first : DutyStep) (c : DutyCall) (proof : Sig) (back : List DutyStep) → grant.key ≡ row.pubkey → c ≡ Reveals grant (slot_request work)
      → IsProvedIn (first ∷ (c, Signed (signing.Signed proof)) ∷ back) row.pubkey (slot_request work) proof
  proved_second grant first c proof back owned is = record {
    grant = grant;
    owned = owned;
    front = first ∷ [];
    back = back;
    are = ap (λ (x : DutyCall). first ∷ (x, Signed (signing.Signed proof)) ∷ back) is;
  }

  signed_goes : (grant : OpenGrant) (first : DutyStep) (c : DutyCall) (s : SignReply) (back rest : List DutyStep) (e : Ended) → grant.key ≡ row.pubkey → c ≡ Reveals grant (slot_request work)
      → Follows Fits (with_got over (signature_of s) (λ proof. Done (chosen_by row details proof))) rest (Some e) → Goes (first ∷ (c, Signed s) ∷ back) e
  signed_goes grant first c (signing.Signed proof) back rest e owned is f = chosen_done (first ∷ (c, Signed (signing.Signed proof)) ∷ back) rest proof e (proved_second grant first c proof back owned is) f
  signed_goes grant first c (signing.NoKey status) back rest e owned is f = none_done (first ∷ (c, Signed (signing.NoKey status)) ∷ back) rest _ e f
  signed_goes grant first c (signing.Denied status) back rest e owned is f = none_done (first ∷ (c, Signed (signing.Denied status)) ∷ back) rest _ e f
  signed_goes grant first c signing.Fault back rest e owned is f = none_done (first ∷ (c, Signed signing.Fault) ∷ back) rest _ e f
  signed_goes grant first c (signing.BadAnswer body) back rest e owned is f = none_done (first ∷ (c, Signed (signing.BadAnswer body)) ∷ back) rest _ e f
  signed_goes grant first c signing.OutOfMemory back rest e owned is f = none_stopped (first ∷ (c, Signed signing.OutOfMemory) ∷ back) rest e f

  settled_goes : (grant : OpenGrant) (first : DutyStep) (c : DutyCall) (s : SignReply) (back : List DutyStep) (e : Ended) → grant.key ≡ row.pubkey → c ≡ Reveals grant (slot_request work)
      → Follows Fits (settles grant outcome.Dropped (with_got over (signature_of s) (λ proof. Done (chosen_by row details proof)))) back (Some e) → Goes (first ∷ (c, Signed s) ∷ back) e
  settled_goes grant first c s [] e owned is f = absurd f
  settled_goes grant first c s (t ∷ rest) e owned is f = signed_goes grant first c s (t ∷ rest) rest e owned is f.2

  proof_goes : (grant : OpenGrant) (first : DutyStep) (steps : List DutyStep) (e : Ended) → grant.key ≡ row.pubkey → Follows Fits (proof_plan work row details grant) steps (Some e) → Goes (first ∷ steps) e
  proof_goes grant first [] e owned f = absurd f
  proof_goes grant first ((c, Signed s) ∷ back) e owned f = settled_goes grant first c s back e owned f.0 f.2
  proof_goes grant first ((c, Replies r) ∷ back) e owned f = absurd f.1
  proof_goes grant first ((c, Answered tried) ∷ back) e owned f = absurd f.1
  proof_goes grant first ((c, Taken tried) ∷ back) e owned f = absurd f.1

  leave_goes : (g : Got OpenGrant) (first : DutyStep) (steps : List DutyStep) (e : Ended) → ((grant : OpenGrant) → g ≡ got.Given grant → grant.key ≡ row.pubkey)
      → Follows Fits (with_got over g (λ grant. proof_plan work row details grant)) steps (Some e) → Goes (first ∷ steps) e
  leave_goes (got.Given grant) first steps e owned f = proof_goes grant first steps e (owned grant refl) f
  leave_goes (got.Failed by) first steps e owned f = none_done (first ∷ steps) steps by e f
  leave_goes got.Nothing first steps e owned f = none_stopped (first ∷ steps) steps e f

  choose_goes : (steps : List DutyStep) (e : Ended) → Follows Fits (choose_plan work row details) steps (Some e) → Goes steps e
  choose_goes [] e f = absurd f
  choose_goes (s ∷ steps) e f = leave_goes (grant_of (desk_reply s.1)) s steps e (λ grant is. (got_for (call.Allow row.pubkey work.moment) s.1 grant f.1 is).0) f.2

pub task_goes : (work : SlotWork) (t : Task) (steps : List DutyStep) (e : Ended) → IsOwnTask work.altair t → Follows Fits (task_plan work t) steps (Some e) → GoesOn work t steps e
task_goes work (task.Fresh (duty.Vote row)) steps e own f = fresh_goes work row steps e.aggregation (end_of (GoesVoted row) (vote_plan work row) steps e (goes_vote work row) f)
task_goes work (task.Fresh (duty.Block row)) steps e own f = none_goes work (task.Fresh (duty.Block row)) steps e (end_of GoesNot (block_plan work row) steps e (ends_block work row) f)
task_goes work (task.Again (duty.Vote row) (granted.Vote details)) steps e own f = again_goes work row (granted.Vote details) steps e.aggregation (end_of (GoesVoted row) (voted_plan work row details) steps e (goes_voted work row details own) f)
task_goes work (task.Again (duty.Block row) (granted.Block block)) steps e own f = none_goes work (task.Again (duty.Block row) (granted.Block block)) steps e (end_of GoesNot (made_plan work row block) steps e (ends_made work row block) f)
task_goes work (task.Again (duty.Block row) granted.Reveal) steps e own f = none_goes work (task.Again (duty.Block row) granted.Reveal) steps e (end_of GoesNot (block_plan work row) steps e (ends_block work row) f)
task_goes work (task.Again (duty.Vote row) granted.Reveal) steps e own f = absurd own
task_goes work (task.Again (duty.Vote row) (granted.Block block)) steps e own f = absurd own
task_goes work (task.Again (duty.Block row) (granted.Vote details)) steps e own f = absurd own
task_goes work (task.Data row) steps e own f = data_goes work row steps e f
task_goes work (task.Vote row details) steps e own f = given_goes work row details steps e own (cast_goes work row details steps e f)
task_goes work (task.Choose row details) steps e own f = choose_goes work row details steps e f
task_goes work (task.Aggregate row details proof) steps e own f = none_goes work (task.Aggregate row details proof) steps e (end_of GoesNot (aggregate_plan work row details proof) steps e (ends_aggregate work row details proof) f)
