-- A connection of the signing proxy that is served.
use Rattle.std.specs.Prelude.{◌≡◌, ◌<◌, ℕ, Bool, true, false, List, [], ◌∷◌, take, unwrap_or, Option, Some, None, Result, Ok, Err}
use Rattle.std.specs.Io.KnownBytes.{Appends}
use Rattle.edge_kit.specs.Causes.{Rose}
use Rattle.edge_kit.specs.Links.{Stays}
use Rattle.edge_kit.specs.declared.bytes.Root.{Root}
use Rattle.call_plans.specs.Plans.{Done}
use Rattle.desk_machine.specs.declared.call.DeskCall.{DeskCall}
use Rattle.desk_machine.specs.declared.call.DeskCall.TheVariants as call
use Rattle.desk_machine.specs.declared.call.DeskReply.{DeskReply}
use Rattle.desk_machine.specs.declared.call.DeskReply.TheVariants as reply
use Rattle.desk_machine.specs.declared.call.Outcome.{Outcome}
use Rattle.desk_machine.specs.declared.call.Outcome.TheVariants as outcome
use Rattle.desk_machine.specs.declared.open_grant.OpenGrant.{OpenGrant}
use Rattle.client_calls.specs.Steps.{ClientPlan}
use Rattle.client_calls.specs.Seats.{Seat, Ran}
use Rattle.http_wire.specs.Parts.{parts_of}
use Rattle.http_wire.specs.Steps.{Took}
use Rattle.http_wire.specs.declared.message.Request.{Request}
use Rattle.http_wire.specs.declared.message.WireFault.{WireFault}
use Rattle.http_wire.specs.declared.message.WireFault.TheVariants as fault
use Rattle.keymanager_routes.specs.Refusals.{refusal_reply}
use Rattle.keymanager_routes.specs.declared.refusal.Refusal.{Refusal}
use Rattle.keymanager_routes.specs.declared.reply.Reply.{Reply}
use Rattle.keymanager_bodies.specs.Asking.{body_asks}
use Rattle.keymanager_api.specs.Plans.{checked_plan, faulty_plan}
use Rattle.keymanager_api.specs.Readings.{Continues, MessageStep}
use Rattle.keymanager_api.specs.Serving.{AppendsSome, LinkSeen, Sends, SentAs, memory_reply}
use Rattle.keymanager_api.specs.declared.serve.Served.{Served}
use Rattle.keymanager_api.specs.declared.serve.Served.TheVariants as served
use Rattle.sign_proxy.specs.Signing.{Answers}
use Rattle.sign_proxy.specs.declared.signing.SignEnd.{SignEnd}
use Rattle.sign_proxy.specs.declared.signing.SignEnd.TheVariants as ending
use Rattle.proxy_api.specs.Forms.{form_of, signed_text}
use Rattle.proxy_api.specs.Listing.{keys_plan, upcheck_text}
use Rattle.proxy_api.specs.Routes.{identifier_of, wanted_for}
use Rattle.proxy_api.specs.declared.form.Form.{Form}
use Rattle.proxy_api.specs.declared.route.Wanted.{Wanted}
use Rattle.proxy_api.specs.declared.route.Wanted.TheVariants as wanted

-- ---- the reply to a signature

-- A reply was begun: at least one byte of it was sent. The whole of it was; or a front of it, and the count of faults rose.
abbrev pub SentBegun : Option (List ℕ) → Option (List ℕ) → ℕ → ℕ → List ℕ → Served → Type 0
SentBegun held_before held_now faults_before faults_now said (served.Replied status) = (status ≡ 200) × Appends held_before held_now said
SentBegun held_before held_now faults_before faults_now said served.Dropped =
    ((n : ℕ) × (0 < n) × Appends held_before held_now (take n said)) × Rose faults_before faults_now

-- It was begun; or no byte of it was sent (the two replies differ from their tenth byte on): then the reply that says that memory ran
-- out was sent in its place, or a front of that, maybe no byte, and the count of faults rose.
abbrev pub SendsSigned : Option (List ℕ) → Option (List ℕ) → ℕ → ℕ → List ℕ → Bool → Served → Type 0
SendsSigned held_before held_now faults_before faults_now said true s = SentBegun held_before held_now faults_before faults_now said s
SendsSigned held_before held_now faults_before faults_now said false s = SentAs held_before held_now faults_before faults_now memory_reply s

-- a grant is settled as sent where the reply with its signature was begun, and else as dropped
abbrev pub outcome_of : Bool → Outcome
outcome_of true = outcome.Sent
outcome_of false = outcome.Dropped

abbrev pub settles_as : OpenGrant → Bool → List (DeskCall × DeskReply)
settles_as grant begun = (call.Settle grant (outcome_of begun), reply.Settled) ∷ []

-- the reply to a signature was sent, or not, and its grant settled by that
pub record SettlesSigned {K : Type 0} (leads : K → List (DeskCall × DeskReply) → K → Type 0) (held_before held_now : Option (List ℕ)) (faults_before faults_now : ℕ) (said : List ℕ) (grant : OpenGrant) (middle after : Seat K) (s : Served) : Type 0 where
  pub begun : Bool
  pub sends : SendsSigned held_before held_now faults_before faults_now said begun s
  pub settles : leads middle.desk (settles_as grant begun) after.desk
  pub signer : after.signer ≡ middle.signer

-- what was sent, in this form, and settled, of a request for a signature that ended so
abbrev pub RepliesTo : {K : Type 0} → Form → (K → List (DeskCall × DeskReply) → K → Type 0) → Option (List ℕ) → Option (List ℕ) → ℕ → ℕ → SignEnd → Seat K → Seat K → Served → Type 0
RepliesTo form leads held_before held_now faults_before faults_now (ending.Refused given) middle after s = (after ≡ middle) × Sends held_before held_now faults_before faults_now (Some given) s
RepliesTo form leads held_before held_now faults_before faults_now ending.OutOfMemory middle after s = (after ≡ middle) × Sends held_before held_now faults_before faults_now None s
RepliesTo form leads held_before held_now faults_before faults_now (ending.Signed given grant) middle after s = SettlesSigned leads held_before held_now faults_before faults_now (signed_text form given) grant middle after s

-- ---- how its bytes are sent

-- what is left of a text was sent: all of it, with this status; or a front of it, and the count of faults rose
abbrev pub SendsRest : Option (List ℕ) → Option (List ℕ) → ℕ → ℕ → ℕ → List ℕ → Served → Type 0
SendsRest held_before held_now faults_before faults_now status rest (served.Replied s) = (s ≡ status) × Appends held_before held_now rest
SendsRest held_before held_now faults_before faults_now status rest served.Dropped = AppendsSome held_before held_now rest × Rose faults_before faults_now

-- a text was begun, and so sent; or nothing of it was, and the count of faults rose
abbrev pub SendsText : Option (List ℕ) → Option (List ℕ) → ℕ → ℕ → ℕ → List ℕ → Bool → Served → Type 0
SendsText held_before held_now faults_before faults_now status text true (served.Replied s) = (s ≡ status) × Appends held_before held_now text
SendsText held_before held_now faults_before faults_now status text true served.Dropped = ((n : ℕ) × (0 < n) × Appends held_before held_now (take n text)) × Rose faults_before faults_now
SendsText held_before held_now faults_before faults_now status text false s = (s ≡ served.Dropped) × Stays held_before held_now × Rose faults_before faults_now

-- and the grant was settled by that
pub record SendsUnder {K : Type 0} (leads : K → List (DeskCall × DeskReply) → K → Type 0) (held_before held_now : Option (List ℕ)) (faults_before faults_now : ℕ) (status : ℕ) (text : List ℕ) (grant : OpenGrant) (before after : K) (s : Served) : Type 0 where
  pub begun : Bool
  pub sends : SendsText held_before held_now faults_before faults_now status text begun s
  pub settles : leads before (settles_as grant begun) after

-- ---- what is done for a message

-- the desk and the signer did what a plan says, and what came of it was sent
pub record ByPlan {K : Type 0} (leads : K → List (DeskCall × DeskReply) → K → Type 0) (plan : ClientPlan Reply) (held_before held_now : Option (List ℕ)) (faults_before faults_now : ℕ) (before after : Seat K) (s : Served) : Type 0 where
  pub reply : Option Reply
  pub ran : Ran leads plan before after reply
  pub sends : Sends held_before held_now faults_before faults_now reply s

-- A request for a signature was answered, with the identifier that its target has, at this epoch and for the chain with this root of its
-- genesis validators; and what came of it was sent, and settled.
pub record BySigning {K : Type 0} (leads : K → List (DeskCall × DeskReply) → K → Type 0) (genesis : Root) (now : ℕ) (request : Request) (held_before held_now : Option (List ℕ)) (faults_before faults_now : ℕ) (before after : Seat K) (s : Served) : Type 0 where
  pub ended : SignEnd
  pub middle : Seat K
  pub answers : Answers leads (unwrap_or (identifier_of request.target.items) []) genesis request.body.items now before middle ended
  pub replies : RepliesTo (form_of (parts_of request.fields.items)) leads held_before held_now faults_before faults_now ended middle after s

-- Nothing was called, and the reply that says that the proxy serves was sent: all of it, or a front, and the count of faults rose.
abbrev pub SaysServing : {K : Type 0} → Option (List ℕ) → Option (List ℕ) → ℕ → ℕ → Seat K → Seat K → Served → Type 0
SaysServing held_before held_now faults_before faults_now before after s = (after ≡ before) × SendsRest held_before held_now faults_before faults_now 200 upcheck_text s

-- by what a request wants
abbrev pub DoesWanted : {K : Type 0} → (K → List (DeskCall × DeskReply) → K → Type 0) → Root → ℕ → Request → Result Wanted Refusal → Option (List ℕ) → Option (List ℕ) → ℕ → ℕ → Seat K → Seat K → Served → Type 0
DoesWanted leads genesis now request (Err r) = ByPlan leads (Done (refusal_reply r))
DoesWanted leads genesis now request (Ok (wanted.Keys what)) = ByPlan leads (checked_plan now (body_asks what request.body.items))
DoesWanted leads genesis now request (Ok wanted.Signature) = BySigning leads genesis now request
DoesWanted leads genesis now request (Ok wanted.PublicKeys) = ByPlan leads keys_plan
DoesWanted leads genesis now request (Ok wanted.Upcheck) = SaysServing

-- and by what was read
abbrev pub DoesRead : {K : Type 0} → (K → List (DeskCall × DeskReply) → K → Type 0) → List ℕ → Root → ℕ → Result Request WireFault → Option (List ℕ) → Option (List ℕ) → ℕ → ℕ → Seat K → Seat K → Served → Type 0
DoesRead leads token genesis now (Ok request) = DoesWanted leads genesis now request (wanted_for token request)
DoesRead leads token genesis now (Err f) = ByPlan leads (faulty_plan f)

-- One message was read, or none, of a head that fails its checks the head alone; the response of status 100 was sent where it is due; and
-- what the message wants was done, and what came of it sent.
pub record SignServes {K : Type 0} (leads : K → List (DeskCall × DeskReply) → K → Type 0) (token : List ℕ) (genesis : Root) (now : ℕ) (link_before link_now : LinkSeen) (before after : Seat K) (s : Served) : Type 0 where
  pub read : Result Request WireFault
  pub left : Option (List ℕ)
  pub took : Took link_before.left left (MessageStep (wanted_for token) left read)
  pub held : Option (List ℕ)
  pub continued : Continues (wanted_for token) left read took.bytes took.holds link_before.held held
  pub does : DoesRead leads token genesis now read held link_now.held link_before.faults link_now.faults before after s
  pub failed : read ≡ Err fault.Link → s ≡ served.Dropped
