-- What a line asks of the desk and of the signer: a plan, which gives its answer.
use Rattle.std.specs.Prelude.{ℕ, max, List, Option, Some, None, unwrap_or, Result, Ok, Err}
use Rattle.edge_kit.specs.declared.bytes.PubKey.{PubKey}
use Rattle.slash_defs.specs.declared.message.Message.{Message}
use Rattle.slash_defs.specs.Signing.{signing_root_of}
use Rattle.session_format.specs.declared.chain.SessionChain.{SessionChain}
use Rattle.signer_link.specs.declared.request.SignObject.{SignObject}
use Rattle.signer_link.specs.declared.request.SignRequest.{SignRequest}
use Rattle.signer_link.specs.declared.reply.SignReply.{SignReply}
use Rattle.signer_link.specs.declared.reply.SignReply.TheVariants as signing
use Rattle.desk_machine.specs.declared.open_grant.OpenGrant.{OpenGrant}
use Rattle.desk_machine.specs.declared.call.DeskCall.{DeskCall}
use Rattle.desk_machine.specs.declared.call.DeskCall.TheVariants as call
use Rattle.desk_machine.specs.declared.call.DeskReply.{DeskReply}
use Rattle.desk_machine.specs.declared.call.DeskReply.TheVariants as reply
use Rattle.desk_machine.specs.declared.call.Outcome.{Outcome}
use Rattle.desk_machine.specs.declared.call.Outcome.TheVariants as outcome
use Rattle.call_plans.specs.Plans.{Done, Stop, Ask, bind}
use Rattle.client_calls.specs.Steps.{ClientReply, ClientPlan, Calls, Signs, Replies, Signed}
use Rattle.key_custody.specs.Plans.{import_plan, list_plan, deletion_plan}
use Rattle.key_custody.specs.declared.import.ImportEnd.{ImportEnd}
use Rattle.key_custody.specs.declared.import.ImportEnd.TheVariants as ending
use Rattle.session_format.specs.Answers.{refusal_answer}
use Rattle.session_format.specs.declared.request.Op.{Op}
use Rattle.session_format.specs.declared.request.Op.TheVariants as op
use Rattle.session_format.specs.declared.request.Request.{Request}
use Rattle.session_format.specs.declared.member.Member.{Member}
use Rattle.session_format.specs.declared.answer.Answer.{Answer}
use Rattle.session_format.specs.declared.answer.Answer.TheVariants as answer
use Rattle.session_format.specs.declared.cause.Cause.TheVariants as cause

-- ---- a call of the desk, and its answer

-- a line makes these calls of the desk and asks for no grant by them
abbrev pub IsPlainCall : DeskCall → Type 0
IsPlainCall (call.Merge file) = Unit {0}
IsPlainCall (call.Activate key now) = Unit {0}
IsPlainCall (call.Export keys) = Unit {0}
IsPlainCall (call.Prune key) = Unit {0}
IsPlainCall (call.Answer key epoch live now) = Unit {0}
IsPlainCall call.Compact = Unit {0}
IsPlainCall c = ⊥

-- a grant or one of these replies comes to none of them
abbrev pub IsPlainReply : DeskReply → Type 0
IsPlainReply (reply.Granted grant) = ⊥
IsPlainReply reply.Recorded = ⊥
IsPlainReply reply.Unfit = ⊥
IsPlainReply reply.Settled = ⊥
IsPlainReply reply.CloseBegun = ⊥
IsPlainReply reply.AlreadyClosing = ⊥
IsPlainReply (reply.Closed book) = ⊥
IsPlainReply (reply.Keys listed) = ⊥
IsPlainReply (reply.HasFailed failed) = ⊥
IsPlainReply (reply.Size size weight) = ⊥
IsPlainReply (reply.NotClosing state) = ⊥
IsPlainReply (reply.Busy grants) = ⊥
IsPlainReply r = Unit {0}

-- the answer to a reply; none where memory ran out, and of the replies that do not fit a line's call none comes
abbrev pub answer_given : DeskReply → Option Answer
answer_given (reply.Merged keys) = Some (answer.Merged keys)
answer_given reply.Active = Some answer.Active
answer_given reply.Already = Some answer.Active
answer_given (reply.Exported file) = Some (answer.Exported file)
answer_given (reply.Pruned book) = Some answer.Pruned
answer_given reply.Noted = Some answer.Noted
answer_given (reply.Compacted before after) = Some (answer.Compacted before after)
answer_given reply.Unknown = Some answer.Unknown
answer_given reply.NotActive = Some answer.NotActive
answer_given reply.Closing = Some answer.Closing
answer_given reply.Disk = Some answer.Disk
answer_given reply.LastGeneration = Some answer.LastGeneration
answer_given (reply.Full size wanted) = Some (answer.Full size wanted)
answer_given (reply.GenesisDiffers kept given) = Some (answer.GenesisDiffers kept given)
answer_given (reply.TooManyKeys have new) = Some (answer.TooManyKeys have new)
answer_given (reply.Live epoch) = Some (answer.Live epoch)
answer_given (reply.Watching first second) = Some (answer.Watching first second)
answer_given (reply.Refused verdict) = Some (answer.Refused verdict)
answer_given r = None

abbrev pub answered : Option Answer → ClientPlan Answer
answered None = Stop
answered (Some a) = Done a

abbrev pub replied : ClientReply → ClientPlan Answer
replied (Replies r) = answered (answer_given r)
replied r = Stop

abbrev pub calls : DeskCall → ClientPlan Answer
calls c = Ask (Calls c) replied

-- ---- a proposal: the message of the grant is signed, and the grant settled

-- a signature is sent; without one the grant is dropped
abbrev pub outcome_of : SignReply → Outcome
outcome_of (signing.Signed signature) = outcome.Sent
outcome_of (signing.NoKey status) = outcome.Dropped
outcome_of (signing.Denied status) = outcome.Dropped
outcome_of signing.Fault = outcome.Dropped
outcome_of (signing.BadAnswer body) = outcome.Dropped
outcome_of signing.OutOfMemory = outcome.Dropped

-- the answer of a line whose message the signer answered so; none where memory ran out
abbrev pub signed_answer : Message → SignReply → Option Answer
signed_answer m (signing.Signed signature) = Some (answer.Signed signature (signing_root_of m))
signed_answer m (signing.NoKey status) = Some (answer.Unsigned cause.NoKey)
signed_answer m (signing.Denied status) = Some (answer.Unsigned (cause.Denied status))
signed_answer m signing.Fault = Some (answer.Unsigned cause.Fault)
signed_answer m (signing.BadAnswer body) = Some (answer.Unsigned (cause.BadAnswer body))
signed_answer m signing.OutOfMemory = None

abbrev pub settles : OpenGrant → Outcome → Option Answer → ClientPlan Answer
settles grant o None = Stop
settles grant o (Some a) = Ask (Calls (call.Settle grant o)) (λ r. Done a)

abbrev pub signed : OpenGrant → Message → ClientReply → ClientPlan Answer
signed grant m (Signed s) = settles grant (outcome_of s) (signed_answer m s)
signed grant m r = Stop

-- the grant of a proposal has its message
abbrev pub signs : SignRequest → OpenGrant → Option Message → ClientPlan Answer
signs request grant None = Stop
signs request grant (Some m) = Ask (Signs grant request) (λ r. signed grant m r)

abbrev pub proposed_by : SignRequest → DeskReply → ClientPlan Answer
proposed_by request (reply.Granted grant) = signs request grant grant.message
proposed_by request r = answered (answer_given r)

abbrev pub proposed : SignRequest → ClientReply → ClientPlan Answer
proposed request (Replies r) = proposed_by request r
proposed request r = Stop

abbrev pub proposes : SignRequest → DeskCall → ClientPlan Answer
proposes request c = Ask (Calls c) (λ r. proposed request r)

-- ---- keys are taken in

-- what became of each keystore, or why the desk refused the file
abbrev pub import_answer : ImportEnd → Answer
import_answer (ending.Treated statuses) = answer.Imported statuses
import_answer (ending.MergeRefused d) = refusal_answer d

-- ---- a line

-- what goes to the signer beside the key and the message
abbrev pub sign_request : SessionChain → Option SignObject → SignRequest
sign_request chain object = record { fork = chain.domains.fork; genesis = chain.domains.genesis; object = object }

-- what is asked, at this moment, where these keys are kept; nothing where a text is no file
abbrev pub op_plan : SessionChain → List PubKey → ℕ → Op → ClientPlan Answer
op_plan chain kept now (op.Merge file) = calls (call.Merge file)
op_plan chain kept now (op.BadFile fault) = Done (answer.BadFile fault)
op_plan chain kept now (op.Activate key) = calls (call.Activate key now)
op_plan chain kept now (op.Propose key m object) = proposes (sign_request chain object) (call.Propose key m now)
op_plan chain kept now (op.Export None) = calls (call.Export kept)
op_plan chain kept now (op.Export (Some keys)) = calls (call.Export keys)
op_plan chain kept now (op.Prune key) = calls (call.Prune key)
op_plan chain kept now (op.Live key epoch live) = calls (call.Answer key epoch live now)
op_plan chain kept now (op.Import file keystores) = bind (import_plan file now keystores) (λ end. Done (import_answer end))
op_plan chain kept now (op.Delete keys) = bind (deletion_plan keys) (λ d. Done (answer.Deleted d.statuses d.file))
op_plan chain kept now op.Compact = calls call.Compact
op_plan chain kept now op.List = bind list_plan (λ keys. Done (answer.Listed keys))

-- the moment of a request: the greatest that was named, by an earlier line or this one
abbrev pub moment_at : ℕ → Request → ℕ
moment_at moment q = max moment (unwrap_or q.epoch 0)

abbrev pub moment_by : ℕ → Result Request Member → ℕ
moment_by moment (Err m) = moment
moment_by moment (Ok q) = moment_at moment q

-- a bad request asks nothing
abbrev pub line_plan : SessionChain → List PubKey → ℕ → Result Request Member → ClientPlan Answer
line_plan chain kept latest (Err m) = Done (answer.BadRequest m)
line_plan chain kept latest (Ok q) = op_plan chain kept (moment_at latest q) q.op
