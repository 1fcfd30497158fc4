-- A request for a signature, as it was answered over a desk and a signer.
use Rattle.std.specs.Prelude.{◌≡◌, ℕ, List, Option, Some, None, Result, Ok, Err}
use Rattle.http.specs.StatusCode.{IsStatusCode}
use Rattle.edge_kit.specs.declared.bytes.PubKey.{PubKey}
use Rattle.edge_kit.specs.declared.bytes.Root.{Root}
use Rattle.slash_defs.specs.declared.message.Message.{Message}
use Rattle.desk_machine.specs.Making.{MaySettle}
use Rattle.desk_machine.specs.declared.call.DeskCall.{DeskCall}
use Rattle.desk_machine.specs.declared.call.DeskReply.{DeskReply}
use Rattle.desk_machine.specs.declared.call.DeskReply.TheVariants as reply
use Rattle.call_plans.specs.Paths.{Carries}
use Rattle.client_calls.specs.Steps.{ClientPlan, Fits}
use Rattle.client_calls.specs.Seats.{Seat, Does}
use Rattle.signing_requests.specs.Objects.{wanted_of}
use Rattle.signing_requests.specs.Requests.{asked_of, asking}
use Rattle.signing_requests.specs.declared.request.SigningRequest.{SigningRequest}
use Rattle.signing_requests.specs.declared.refusal.SigningRefusal.{SigningRefusal}
use Rattle.sign_proxy.specs.Plans.{SigningResult, WithReply, WithSignature, WithoutMemory, message_in, signing_plan}
use Rattle.keymanager_routes.specs.declared.reply.Reply.{Reply}
use Rattle.sign_proxy.specs.declared.signing.SignEnd.{SignEnd}
use Rattle.sign_proxy.specs.declared.signing.SignEnd.TheVariants as ending

-- the request that these bytes are, or the first check that they fail
abbrev pub IsRead : List ℕ → Root → List ℕ → Result SigningRequest SigningRefusal → Type 0
IsRead identifier genesis body (Ok a) = asked_of identifier genesis body ≡ Ok (asking a)
IsRead identifier genesis body (Err r) = asked_of identifier genesis body ≡ Err r

-- a reply to what is not signed, where there is one; none where memory ran out, before its text or while it was made
abbrev pub EndsUnsigned : Option Reply → SignEnd → Type 0
EndsUnsigned (Some r) (ending.Refused given) = given ≡ r
EndsUnsigned None (ending.Refused given) = ⊥
EndsUnsigned r ending.OutOfMemory = Unit {0}
EndsUnsigned r (ending.Signed given under) = ⊥

-- the grant of a signature may be settled, in either way
abbrev pub CanSettle : {K : Type 0} → (K → DeskCall → Type 0) → K → SignEnd → Type 0
CanSettle allows desk (ending.Signed given under) = MaySettle (allows desk) (reply.Granted under)
CanSettle allows desk e = Unit {0}

-- the reply to what is not signed has a status of three digits (RFC 9110, section 15)
abbrev pub HasStatus : SignEnd → Type 0
HasStatus (ending.Refused given) = IsStatusCode given.status
HasStatus (ending.Signed given under) = Unit {0}
HasStatus ending.OutOfMemory = Unit {0}

-- How it ends after a plan came to this: with its reply; with its signature, whose grant is open; or, where memory ran out, with neither.
abbrev pub EndsWith : {K : Type 0} → (K → List (DeskCall × DeskReply) → K → Type 0) → SigningResult → Seat K → Seat K → SignEnd → Type 0
EndsWith leads (WithReply r) middle after (ending.Refused given) = (given ≡ r) × (after ≡ middle)
EndsWith leads (WithReply r) middle after ending.OutOfMemory = after ≡ middle
EndsWith leads (WithSignature signature grant) middle after (ending.Signed given under) = (given ≡ signature) × (under ≡ grant) × (after ≡ middle)
EndsWith leads WithoutMemory middle after ending.OutOfMemory = after ≡ middle
EndsWith leads r middle after e = ⊥

-- The desk and the signer did the whole of the plan, and it ended so.
pub record Ends {K : Type 0} (leads : K → List (DeskCall × DeskReply) → K → Type 0) (plan : ClientPlan SigningResult) (before after : Seat K) (e : SignEnd) : Type 0 where
  pub result : SigningResult
  pub middle : Seat K
  pub carries : Carries Fits (Does leads) plan before middle (Some result)
  pub ends : EndsWith leads result middle after e

-- a grant that is handed out is of the key and the message that were asked for
abbrev pub GrantedFor : PubKey → Option Message → SignEnd → Type 0
GrantedFor key message (ending.Signed given under) = (under.key ≡ key) × (under.message ≡ message)
GrantedFor key message e = Unit {0}

abbrev pub IsGrantedFor : Result SigningRequest SigningRefusal → SignEnd → Type 0
IsGrantedFor (Ok asked) e = GrantedFor asked.key (message_in (wanted_of asked.domains asked.object)) e
IsGrantedFor (Err r) e = Unit {0}

-- How the request that these bytes are was answered.
pub data Answers {K : Type 0} (leads : K → List (DeskCall × DeskReply) → K → Type 0) (identifier : List ℕ) (genesis : Root) (body : List ℕ) (now : ℕ) (before after : Seat K) (e : SignEnd) : Type 0 where
  -- It was read, or fails a check; what it asks was done, and ended so; and the grant of a signature is of what it asks.
  reads : (read : Result SigningRequest SigningRefusal) → IsRead identifier genesis body read → Ends leads (signing_plan now read) before after e → IsGrantedFor read e → Answers leads identifier genesis body now before after e
  -- Memory ran out before it was read, and nothing was done.
  unread : e ≡ ending.OutOfMemory → after ≡ before → Answers leads identifier genesis body now before after e
