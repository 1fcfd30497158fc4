-- What is done for a duty. Each plan goes on by the reply to its call; where memory runs out it stops.
use Rattle.std.specs.Prelude.{ℕ, if◌then◌else◌, List, [], Some, None, Result, Err}
use Rattle.edge_kit.specs.declared.bytes.PubKey.{PubKey}
use Rattle.edge_kit.specs.declared.bytes.Sig.{Sig}
use Rattle.slash_defs.specs.declared.message.Message.{Message}
use Rattle.phase0_types.specs.declared.attestation.AttestationData.{AttestationData}
use Rattle.altair_blocks.specs.declared.any_block.AnyBlock.{AnyBlock}
use Rattle.duty_types.specs.declared.aggregate.AggregateAndProof.{AggregateAndProof}
use Rattle.sign_roots.specs.declared.domains.Domains.{Domains}
use Rattle.desk_machine.specs.declared.open_grant.OpenGrant.{OpenGrant}
use Rattle.desk_machine.specs.declared.call.DeskCall.{DeskCall}
use Rattle.desk_machine.specs.declared.call.DeskCall.TheVariants as call
use Rattle.desk_machine.specs.declared.call.DeskReply.{DeskReply}
use Rattle.desk_machine.specs.declared.call.DeskReply.TheVariants as reply
use Rattle.desk_machine.specs.declared.call.Outcome.{Outcome}
use Rattle.desk_machine.specs.declared.call.Outcome.TheVariants as outcome
use Rattle.signer_link.specs.declared.request.SignRequest.{SignRequest}
use Rattle.signer_link.specs.declared.request.PlainRequest.{PlainRequest}
use Rattle.signer_link.specs.declared.reply.SignReply.{SignReply}
use Rattle.signer_link.specs.declared.reply.SignReply.TheVariants as signing
use Rattle.node_calls.specs.declared.ask.Ask.{Ask}
use Rattle.node_calls.specs.declared.ask.Ask.TheVariants as ask
use Rattle.node_calls.specs.declared.answer.Answer.{Answer}
use Rattle.node_calls.specs.declared.answer.AttesterRow.{AttesterRow}
use Rattle.node_calls.specs.declared.answer.ProposerRow.{ProposerRow}
use Rattle.node_calls.specs.declared.post.Post.{Post}
use Rattle.node_fallback.specs.declared.no_node.NoAnswer.{NoAnswer}
use Rattle.node_fallback.specs.declared.no_node.NoAnswer.TheVariants as none
use Rattle.duty_schedule.specs.Aggregators.{is_aggregator}
use Rattle.duty_schedule.specs.declared.rows.Duty.{Duty}
use Rattle.duty_schedule.specs.declared.rows.Duty.TheVariants as duty
use Rattle.call_plans.specs.Plans.{Done, Stop, Ask as Step, each_plan}
use Rattle.duty_plans.specs.declared.got.Got.{Got}
use Rattle.duty_plans.specs.declared.got.Got.TheVariants as got
use Rattle.duty_plans.specs.declared.ended.Aggregation.TheVariants as votes
use Rattle.duty_plans.specs.declared.ended.Ended.{Ended}
use Rattle.duty_plans.specs.declared.ended.Unsent.{Unsent}
use Rattle.duty_plans.specs.declared.ended.Unsent.TheVariants as granted
use Rattle.duty_plans.specs.declared.result.DutyResult.{DutyResult}
use Rattle.duty_plans.specs.declared.result.DutyResult.TheVariants as ended
use Rattle.duty_plans.specs.declared.setup.DutySetup.{DutySetup}
use Rattle.duty_plans.specs.declared.task.Task.{Task}
use Rattle.duty_plans.specs.declared.task.Task.TheVariants as task
use Rattle.duty_plans.specs.declared.work.SlotWork.{SlotWork}
use Rattle.duty_plans.specs.Ends.{barred, left_by, over}
use Rattle.duty_plans.specs.Messages.{aggregate_message, aggregate_post, aggregate_request, block_message, block_post, block_request, details_root, reveal_request, slot_request, vote_message, vote_post, vote_request}
use Rattle.duty_plans.specs.Reading.{aggregate_of, block_of, grant_of, posted_of, signature_of, vote_of}
use Rattle.duty_plans.specs.Steps.{DutyPlan, DutyReply, Calls, Signs, Reveals, Asks, Posts, Replies, Signed, Answered, Taken, came_of}

-- ---- one call, and then by its reply; a reply that does not fit comes never

abbrev pub desk_reply : DutyReply → DeskReply
desk_reply (Replies r) = r
desk_reply r = reply.OutOfMemory

abbrev pub sign_reply : DutyReply → SignReply
sign_reply (Signed s) = s
sign_reply r = signing.OutOfMemory

abbrev pub answer_reply : DutyReply → Result Answer NoAnswer
answer_reply (Answered tried) = came_of tried
answer_reply r = Err none.OutOfMemory

abbrev pub post_reply : DutyReply → Result (Unit {0}) NoAnswer
post_reply (Taken tried) = came_of tried
post_reply r = Err none.OutOfMemory

abbrev pub calls : {X : Type 0} → DeskCall → (DeskReply → DutyPlan X) → DutyPlan X
calls c next_by = Step (Calls c) (λ r. next_by (desk_reply r))

abbrev pub signs : {X : Type 0} → OpenGrant → SignRequest → (SignReply → DutyPlan X) → DutyPlan X
signs grant q next_by = Step (Signs grant q) (λ r. next_by (sign_reply r))

abbrev pub reveals : {X : Type 0} → OpenGrant → PlainRequest → (SignReply → DutyPlan X) → DutyPlan X
reveals grant q next_by = Step (Reveals grant q) (λ r. next_by (sign_reply r))

abbrev pub asks : {X : Type 0} → Ask → (Result Answer NoAnswer → DutyPlan X) → DutyPlan X
asks a next_by = Step (Asks a) (λ r. next_by (answer_reply r))

abbrev pub posts : {X : Type 0} → OpenGrant → Post → (Result (Unit {0}) NoAnswer → DutyPlan X) → DutyPlan X
posts grant p next_by = Step (Posts grant p) (λ r. next_by (post_reply r))

abbrev pub settles : {X : Type 0} → OpenGrant → Outcome → DutyPlan X → DutyPlan X
settles grant o next = calls (call.Settle grant o) (λ r. next)

-- what was got is gone on with; a call that failed ends the duty, which leaves what this says
abbrev pub with_got : {T : Type 0} → (DutyResult → Ended) → Got T → (T → DutyPlan Ended) → DutyPlan Ended
with_got ends (got.Given x) next_by = next_by x
with_got ends (got.Failed by) next_by = Done (ends by)
with_got ends got.Nothing next_by = Stop

-- the same with a grant in hand: where nothing was got, nothing is sent under it
abbrev pub under : {T : Type 0} → (DutyResult → Ended) → OpenGrant → Got T → (T → DutyPlan Ended) → DutyPlan Ended
under ends grant (got.Given x) next_by = next_by x
under ends grant (got.Failed by) next_by = settles grant outcome.Dropped (Done (ends by))
under ends grant got.Nothing next_by = settles grant outcome.Dropped Stop

-- ---- what is to be sent; another try may send it, where it was granted and is not sent

abbrev pub sent : (DutyResult → Ended) → Unit {0} → DutyPlan Ended
sent ends done = Done (ends ended.Sent)

-- what was signed is posted, and its grant is settled as sent, whether or not a node took it
abbrev pub post_plan : (DutyResult → Ended) → OpenGrant → Post → DutyPlan Ended
post_plan ends grant p = posts grant p (λ taken. settles grant outcome.Sent (with_got ends (posted_of taken) (sent ends)))

-- the grant's message is signed, and what is made with the signature is posted
abbrev pub granted_plan : Unsent → SignRequest → (Sig → Post) → OpenGrant → DutyPlan Ended
granted_plan unsent q made grant = signs grant q (λ s. under (left_by unsent) grant (signature_of s) (λ signature. post_plan (left_by unsent) grant (made signature)))

-- leave is asked for a message first
abbrev pub publish_plan : PubKey → Message → ℕ → Unsent → SignRequest → (Sig → Post) → DutyPlan Ended
publish_plan key m now unsent q made = calls (call.Propose key m now) (λ r. with_got (barred unsent) (grant_of r) (λ grant. granted_plan unsent q made grant))

-- ---- a vote

abbrev pub voted_plan : SlotWork → AttesterRow → AttestationData → DutyPlan Ended
voted_plan work row details = publish_plan row.pubkey (vote_message work.domains details) work.moment (granted.Vote details) (vote_request work details) (vote_post row details)

-- what its committee is to vote is asked for
abbrev pub vote_plan : SlotWork → AttesterRow → DutyPlan Ended
vote_plan work row = asks (ask.Data work.slot row.committee_index) (λ a. with_got over (vote_of row a) (λ details. voted_plan work row details))

-- it is known of the votes of a committee that this is to be voted
abbrev pub said : AttestationData → Ended
said details = record { result = ended.Sent; unsent = None; aggregation = Some (votes.Voted details) }

-- the same question alone
abbrev pub data_plan : SlotWork → AttesterRow → DutyPlan Ended
data_plan work row = asks (ask.Data work.slot row.committee_index) (λ a. with_got over (vote_of row a) (λ details. Done (said details)))

-- ---- a block

abbrev pub made_plan : SlotWork → ProposerRow → AnyBlock → DutyPlan Ended
made_plan work row block = publish_plan row.pubkey (block_message work.domains block) work.moment (granted.Block block) (block_request work block) (block_post block)

-- a block is asked for with the reveal, whose grant is then settled as sent
abbrev pub revealed_plan : SlotWork → ProposerRow → OpenGrant → Sig → DutyPlan Ended
revealed_plan work row grant reveal = asks (ask.Block work.slot reveal) (λ a. settles grant outcome.Sent (with_got over (block_of work.altair row a) (λ block. made_plan work row block)))

-- the randomness is revealed; another try may begin with the reveal once more
abbrev pub allowed_plan : SlotWork → ProposerRow → OpenGrant → DutyPlan Ended
allowed_plan work row grant = reveals grant (reveal_request work) (λ s. under (left_by granted.Reveal) grant (signature_of s) (λ reveal. revealed_plan work row grant reveal))

-- leave is asked for the reveal first
abbrev pub block_plan : SlotWork → ProposerRow → DutyPlan Ended
block_plan work row = calls (call.Allow row.pubkey work.moment) (λ r. with_got over (grant_of r) (λ grant. allowed_plan work row grant))

-- ---- an aggregate

-- a validator that this signature of the slot chooses goes on with it
abbrev pub chosen_by : AttesterRow → AttestationData → Sig → Ended
chosen_by row details proof = record { result = ended.Sent; unsent = None; aggregation = if is_aggregator proof row.committee_length then Some (votes.Chosen details proof) else None }

-- the slot is signed, and nothing is sent under the grant
abbrev pub proof_plan : SlotWork → AttesterRow → AttestationData → OpenGrant → DutyPlan Ended
proof_plan work row details grant = reveals grant (slot_request work) (λ s. settles grant outcome.Dropped (with_got over (signature_of s) (λ proof. Done (chosen_by row details proof))))

-- leave is asked for that first
abbrev pub choose_plan : SlotWork → AttesterRow → AttestationData → DutyPlan Ended
choose_plan work row details = calls (call.Allow row.pubkey work.moment) (λ r. with_got over (grant_of r) (λ grant. proof_plan work row details grant))

-- the aggregate is signed and posted
abbrev pub aggregated_plan : SlotWork → AggregateAndProof → OpenGrant → DutyPlan Ended
aggregated_plan work message grant = reveals grant (aggregate_request work message) (λ s. under over grant (signature_of s) (λ signature. post_plan over grant (aggregate_post message signature)))

-- leave is asked for that first
abbrev pub gathered_plan : SlotWork → AttesterRow → AggregateAndProof → DutyPlan Ended
gathered_plan work row message = calls (call.Allow row.pubkey work.moment) (λ r. with_got over (grant_of r) (λ grant. aggregated_plan work message grant))

-- an aggregate of the votes for this data is asked for
abbrev pub aggregate_plan : SlotWork → AttesterRow → AttestationData → Sig → DutyPlan Ended
aggregate_plan work row details proof = asks (ask.Aggregate (record { 0 = details_root details }) work.slot) (λ a. with_got over (aggregate_of details a) (λ aggregate. gathered_plan work row (aggregate_message row proof aggregate)))

-- ---- the duties of a slot

abbrev pub duty_plan : SlotWork → Duty → DutyPlan Ended
duty_plan work (duty.Block row) = block_plan work row
duty_plan work (duty.Vote row) = vote_plan work row

-- leave is asked for the same message once more; a block whose reveal was not signed is begun once more; what was granted for a duty of
-- the other kind never comes
abbrev pub again_plan : SlotWork → Duty → Unsent → DutyPlan Ended
again_plan work (duty.Block row) granted.Reveal = block_plan work row
again_plan work (duty.Block row) (granted.Block block) = made_plan work row block
again_plan work (duty.Vote row) (granted.Vote details) = voted_plan work row details
again_plan work d unsent = Stop

abbrev pub task_plan : SlotWork → Task → DutyPlan Ended
task_plan work (task.Fresh d) = duty_plan work d
task_plan work (task.Again d unsent) = again_plan work d unsent
task_plan work (task.Data row) = data_plan work row
task_plan work (task.Vote row details) = voted_plan work row details
task_plan work (task.Choose row details) = choose_plan work row details
task_plan work (task.Aggregate row details proof) = aggregate_plan work row details proof

-- one after another, with an end each
abbrev pub slot_plan : SlotWork → List Task → DutyPlan (List Ended)
slot_plan work tasks = each_plan (λ t. task_plan work t) [] tasks

abbrev pub slot_work : DutySetup → Domains → ℕ → ℕ → SlotWork
slot_work setup domains slot now = record { genesis = setup.genesis; domains = domains; altair = setup.altair; slot = slot; moment = now }
