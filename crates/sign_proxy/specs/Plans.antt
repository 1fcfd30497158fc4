-- What is done for a request for a signature, and what comes of it.
use Rattle.std.specs.Prelude.{ℕ, Option, Some, None, Result, Ok, Err}
use Rattle.edge_kit.specs.declared.bytes.PubKey.{PubKey}
use Rattle.edge_kit.specs.declared.bytes.Sig.{Sig}
use Rattle.slash_defs.specs.declared.message.Message.{Message}
use Rattle.desk_machine.specs.declared.open_grant.OpenGrant.{OpenGrant}
use Rattle.desk_machine.specs.declared.call.DeskCall.TheVariants as call
use Rattle.desk_machine.specs.declared.call.DeskReply.TheVariants as reply
use Rattle.desk_machine.specs.declared.call.Outcome.TheVariants.{Dropped}
use Rattle.signer_link.specs.declared.request.SignRequest.{SignRequest}
use Rattle.signer_link.specs.declared.request.PlainRequest.{PlainRequest}
use Rattle.signer_link.specs.declared.reply.SignReply.{SignReply}
use Rattle.signer_link.specs.declared.reply.SignReply.TheVariants as signing
use Rattle.call_plans.specs.Plans.{Done, Stop, Ask}
use Rattle.client_calls.specs.Steps.{ClientReply, ClientPlan, Calls, Signs, SignsPlain, Replies, Signed}
use Rattle.keymanager_routes.specs.declared.reply.Reply.{Reply}
use Rattle.signing_requests.specs.Objects.{wanted_of}
use Rattle.signing_requests.specs.Refusals.{refusal_reply}
use Rattle.signing_requests.specs.declared.request.SigningRequest.{SigningRequest}
use Rattle.signing_requests.specs.declared.request.Wanted.{Wanted}
use Rattle.signing_requests.specs.declared.request.Wanted.TheVariants as wanted
use Rattle.signing_requests.specs.declared.refusal.SigningRefusal.{SigningRefusal}
use Rattle.sign_proxy.specs.Replies.{desk_reply, signer_reply}

-- what comes of it: the reply to what is not signed; a signature, and the grant that it was given under, which is open; or neither, where
-- the desk or the signer wanted memory. Without a signature no grant is open.
pub data SigningResult : Type 0 where
  WithReply : Reply → SigningResult
  WithSignature : Sig → OpenGrant → SigningResult
  WithoutMemory : SigningResult

abbrev pub refused : Option Reply → ClientPlan SigningResult
refused None = Done WithoutMemory
refused (Some r) = Done (WithReply r)

-- without a signature the grant is dropped before anything is replied
abbrev pub answered : OpenGrant → SignReply → ClientPlan SigningResult
answered grant (signing.Signed signature) = Done (WithSignature signature grant)
answered grant s = Ask (Calls (call.Settle grant Dropped)) (λ r. refused (signer_reply s))

abbrev pub signed : OpenGrant → ClientReply → ClientPlan SigningResult
signed grant (Signed s) = answered grant s
signed grant r = Stop

-- what is done under a grant, where the desk gives one; only a desk's reply comes to a call of the desk
abbrev pub granted : (OpenGrant → ClientPlan SigningResult) → ClientReply → ClientPlan SigningResult
granted under (Replies (reply.Granted grant)) = under grant
granted under (Replies r) = refused (desk_reply r)
granted under r = Stop

abbrev pub signs : SignRequest → OpenGrant → ClientPlan SigningResult
signs q grant = Ask (Signs grant q) (signed grant)

abbrev pub signs_plain : PlainRequest → OpenGrant → ClientPlan SigningResult
signs_plain q grant = Ask (SignsPlain grant q) (signed grant)

-- a block or a vote is signed under the grant of its proposal, anything else under one without a message
abbrev pub wanted_plan : PubKey → ℕ → Wanted → ClientPlan SigningResult
wanted_plan key now (wanted.Propose m q) = Ask (Calls (call.Propose key m now)) (granted (signs q))
wanted_plan key now (wanted.Allow q) = Ask (Calls (call.Allow key now)) (granted (signs_plain q))

-- a request that is refused calls nothing
abbrev pub signing_plan : ℕ → Result SigningRequest SigningRefusal → ClientPlan SigningResult
signing_plan now (Err r) = Done (WithReply (refusal_reply r))
signing_plan now (Ok a) = wanted_plan a.key now (wanted_of a.domains a.object)

-- the message of the grant under which it is signed, if it has one
abbrev pub message_in : Wanted → Option Message
message_in (wanted.Propose m q) = Some m
message_in (wanted.Allow q) = None
