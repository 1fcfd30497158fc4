-- A connection that is served.
use Rattle.std.specs.Prelude.{◌≡◌, ◌⊎◌, ◌≤◌, ℕ, List, [], take, Option, Some, None, IfSome, Result, Ok, Err, codes}
use Rattle.std.specs.Io.KnownBytes.{Appends}
use Rattle.http.specs.StatusCode.{IsStatusCode}
use Rattle.edge_kit.specs.Causes.{Rose}
use Rattle.edge_kit.specs.Links.{Stays}
use Rattle.edge_kit.specs.declared.traits.Failed.{Failed}
use Rattle.call_plans.specs.Plans.{Done}
use Rattle.desk_machine.specs.declared.call.DeskCall.{DeskCall}
use Rattle.desk_machine.specs.declared.call.DeskReply.{DeskReply}
use Rattle.client_calls.specs.Seats.{Seat, Ran}
use Rattle.http_wire.specs.Steps.{Took}
use Rattle.http_wire.specs.Plain.{IsRequestHead}
use Rattle.http_wire.specs.Parts.{parts_of}
use Rattle.http_wire.specs.declared.message.Request.{Request}
use Rattle.http_wire.specs.declared.message.Response.{Response}
use Rattle.http_wire.specs.declared.message.WireFault.{WireFault}
use Rattle.http_wire.specs.declared.message.WireFault.TheVariants as fault
use Rattle.keymanager_routes.specs.Checks.{action_for}
use Rattle.keymanager_routes.specs.Replies.{message_reply, reply_text}
use Rattle.keymanager_routes.specs.declared.reply.Reply.{Reply}
use Rattle.keymanager_api.specs.Plans.{faulty_plan, message_plan}
use Rattle.keymanager_api.specs.Readings.{Continues, MessageStep}
use Rattle.keymanager_api.specs.declared.serve.Served.{Served}
use Rattle.keymanager_api.specs.declared.serve.Served.TheVariants as served

-- the reply that a response is
abbrev pub reply_in : Response → Reply
reply_in r = record { status = r.status; body = r.body.items }

-- a response with a status, and no field next to those that each has
pub record IsBare (r : Response) : Type 0 where
  pub status : IsStatusCode r.status
  pub fields : parts_of r.fields.items ≡ []

-- where memory ran out
abbrev pub memory_reply : Reply
memory_reply = message_reply 503 (codes "out of memory")

-- this is said: the reply, if there is one, unless memory ran out
abbrev pub MaySay : Option Reply → Reply → Type 0
MaySay None said = said ≡ memory_reply
MaySay (Some reply) said = (said ≡ reply) ⊎ (said ≡ memory_reply)

-- a front of the text was sent, maybe all of it
abbrev pub AppendsSome : Option (List ℕ) → Option (List ℕ) → List ℕ → Type 0
AppendsSome held_before held_now text = (n : ℕ) × Appends held_before held_now (take n text)

-- the bytes of it were sent; or a front of them, and the count of faults rose
abbrev pub SentAs : Option (List ℕ) → Option (List ℕ) → ℕ → ℕ → Reply → Served → Type 0
SentAs held_before held_now faults_before faults_now said (served.Replied status) = (status ≡ said.status) × Appends held_before held_now (reply_text said)
SentAs held_before held_now faults_before faults_now said served.Dropped =
    AppendsSome held_before held_now (reply_text said) × Rose faults_before faults_now

pub record Sends (held_before held_now : Option (List ℕ)) (faults_before faults_now : ℕ) (reply : Option Reply) (s : Served) : Type 0 where
  pub said : Reply
  pub may : MaySay reply said
  pub sent : SentAs held_before held_now faults_before faults_now said s

-- what one reply's bytes were sent as, before the connection is ended: its status, or the link failed
abbrev pub SentWhole : Option (List ℕ) → Option (List ℕ) → Reply → Result ℕ Failed → Type 0
SentWhole held_before held_now said (Ok status) = (status ≡ said.status) × Appends held_before held_now (reply_text said)
SentWhole held_before held_now said (Err e) = AppendsSome held_before held_now (reply_text said)

pub record SendsWhole (held_before held_now : Option (List ℕ)) (reply : Option Reply) (result : Result ℕ Failed) : Type 0 where
  pub said : Reply
  pub may : MaySay reply said
  pub sent : SentWhole held_before held_now said result

-- it is replied where both the sending and the end of the connection succeeded
abbrev pub served_by : Result ℕ Failed → Result (Unit {0}) Failed → Served
served_by (Ok status) (Ok u) = served.Replied status
served_by (Ok status) (Err e) = served.Dropped
served_by (Err e) ended = served.Dropped

-- what a link tells of itself
pub record LinkSeen : Type 0 where
  pub left : Option (List ℕ)
  pub held : Option (List ℕ)
  pub faults : ℕ

-- One message was read, or none, of a head that fails its checks the head alone; the response of status 100 was sent where it is due; the
-- desk and the signer did what the message's plan says; and what came of it was sent.
pub record Serves {K : Type 0} (leads : K → List (DeskCall × DeskReply) → K → Type 0) (token : List ℕ) (now : ℕ) (link_before link_now : LinkSeen) (before after : Seat K) (s : Served) : Type 0 where
  pub read : Result Request WireFault
  pub left : Option (List ℕ)
  pub took : Took link_before.left left (MessageStep (action_for token) left read)
  pub held : Option (List ℕ)
  pub continued : Continues (action_for token) left read took.bytes took.holds link_before.held held
  pub reply : Option Reply
  pub ran : Ran leads (message_plan token now read) before after reply
  pub sends : Sends held link_now.held link_before.faults link_now.faults reply s
  pub failed : read ≡ Err fault.Link → s ≡ served.Dropped

-- this head was taken, and nothing else has happened
pub record ReadsHead (head : Request) (link_before link_now : LinkSeen) : Type 0 where
  pub took : Took link_before.left link_now.left (λ text. IsRequestHead text head)
  pub empty : head.body.items ≡ []
  pub held : Stays link_before.held link_now.held
  pub later : link_before.faults ≤ link_now.faults

-- What became of a connection of which no request was read but this fault: the fault's reply, if there is one, was sent. Where the link
-- failed, which it did since that many faults were counted, none was.
pub record EndsFaulty (f : WireFault) (held_before held_now : Option (List ℕ)) (faults_before faults_now : ℕ) (s : Served) : Type 0 where
  pub reply : Option Reply
  pub plan : IfSome reply (λ r. faulty_plan f ≡ Done r)
  pub sends : (counted : ℕ) → counted ≤ faults_before → (f ≡ fault.Link → Rose counted faults_before) → Sends held_before held_now counted faults_now reply s
  pub failed : f ≡ fault.Link → s ≡ served.Dropped
