-- The signatures that a service gave to a proxy: the grant of each, and whether it was handed out, or that was begun: at least a byte of its reply
-- was sent.
use Rattle.std.proofs.Common.{inl, inr}
use Rattle.std.specs.Prelude.{ℕ, cond, Bool, List, [], ◌∷◌, ◌++◌, flat_map, Option, None, Some, Result, Ok, Err}
use Rattle.edge_kit.specs.declared.bytes.PubKey.{PubKey}
use Rattle.edge_kit.specs.declared.bytes.Root.{Root}
use Rattle.slash_defs.specs.declared.message.Message.{Message}
use Rattle.desk_machine.specs.declared.call.DeskCall.{DeskCall}
use Rattle.desk_machine.specs.declared.call.DeskReply.{DeskReply}
use Rattle.desk_machine.specs.declared.open_grant.OpenGrant.{OpenGrant}
use Rattle.call_plans.specs.Paths.{Path}
use Rattle.client_calls.specs.Seats.{Seat}
use Rattle.http_wire.specs.Parts.{parts_of}
use Rattle.http_wire.specs.declared.message.Request.{Request}
use Rattle.http_wire.specs.declared.message.WireFault.{WireFault}
use Rattle.keymanager_routes.specs.declared.refusal.Refusal.{Refusal}
use Rattle.keymanager_api.specs.Serving.{LinkSeen}
use Rattle.keymanager_api.specs.declared.serve.Served.{Served}
use Rattle.sign_proxy.specs.declared.signing.SignEnd.{SignEnd}
use Rattle.sign_proxy.specs.declared.signing.SignEnd.TheVariants as ending
use Rattle.door_lanes.specs.Doors.{DoorSeen}
use Rattle.door_lanes.specs.Lanes.{Visit, Visits}
use Rattle.door_lanes.specs.Runs.{LanesServed, Served as DoorServed}
use Rattle.door_lanes.specs.declared.lanes.LoopEnd.{LoopEnd}
use Rattle.proxy_api.specs.Attending.{Attends, Terms}
use Rattle.proxy_api.specs.Forms.{form_of}
use Rattle.proxy_api.specs.Routes.{wanted_for}
use Rattle.proxy_api.specs.Signing.{DoesRead, DoesWanted, RepliesTo}
use Rattle.proxy_api.specs.declared.form.Form.{Form}
use Rattle.proxy_api.specs.declared.route.Wanted.{Wanted}
use Rattle.proxy_api.specs.declared.route.Wanted.TheVariants as wanted
use Rattle.proxy_lanes.specs.Lanes.{AttendsBy, LaneSeen}

-- a signature: its grant, and whether the reply with it was begun
abbrev pub Signed : Type 0
Signed = OpenGrant × Bool

module _ {K : Type 0} (leads : K → List (DeskCall × DeskReply) → K → Type 0) where
  -- a request for a signature ended so: with a signature, whose reply was begun or not, or without one
  abbrev pub signed_by : (form : Form) (held_before held_now : Option (List ℕ)) (faults_before faults_now : ℕ) (e : SignEnd) (middle after : Seat K) (s : Served) → RepliesTo form leads held_before held_now faults_before faults_now e middle after s → List Signed
  signed_by form held_before held_now faults_before faults_now (ending.Refused given) middle after s r = []
  signed_by form held_before held_now faults_before faults_now ending.OutOfMemory middle after s r = []
  signed_by form held_before held_now faults_before faults_now (ending.Signed given grant) middle after s r = (grant, r.begun) ∷ []

  -- by what a request wants: only one for a signature has one
  abbrev pub signed_wanted : (genesis : Root) (now : ℕ) (request : Request) (w : Result Wanted Refusal) (held_before held_now : Option (List ℕ)) (faults_before faults_now : ℕ) (before after : Seat K) (s : Served)
      → DoesWanted leads genesis now request w held_before held_now faults_before faults_now before after s → List Signed
  signed_wanted genesis now request (Err r) held_before held_now faults_before faults_now before after s d = []
  signed_wanted genesis now request (Ok (wanted.Keys what)) held_before held_now faults_before faults_now before after s d = []
  signed_wanted genesis now request (Ok wanted.Signature) held_before held_now faults_before faults_now before after s d = signed_by (form_of (parts_of request.fields.items)) held_before held_now faults_before faults_now d.ended d.middle after s d.replies
  signed_wanted genesis now request (Ok wanted.PublicKeys) held_before held_now faults_before faults_now before after s d = []
  signed_wanted genesis now request (Ok wanted.Upcheck) held_before held_now faults_before faults_now before after s d = []

  -- and by what was read
  abbrev pub signed_read : (token : List ℕ) (genesis : Root) (now : ℕ) (read : Result Request WireFault) (held_before held_now : Option (List ℕ)) (faults_before faults_now : ℕ) (before after : Seat K) (s : Served)
      → DoesRead leads token genesis now read held_before held_now faults_before faults_now before after s → List Signed
  signed_read token genesis now (Ok request) held_before held_now faults_before faults_now before after s d = signed_wanted genesis now request (wanted_for token request) held_before held_now faults_before faults_now before after s d
  signed_read token genesis now (Err f) held_before held_now faults_before faults_now before after s d = []

  -- over one connection
  abbrev pub signed_at : (p : Terms) (accepted finished : LinkSeen) (before now : Seat K) (failed : Bool) → Attends leads p accepted finished before now failed → List Signed
  signed_at p accepted finished before now failed a =
      signed_read p.token p.genesis _ a.serves.read a.serves.held finished.held accepted.faults finished.faults before a.answered a.served a.serves.does

module _ {C : Type 0} (see : C → LinkSeen) (terms : Terms) where
  -- over the connections of one lane, in order
  abbrev pub signed_along : (a : LaneSeen) (visits : List (Visit C)) (b : LaneSeen) → Path (Visits (AttendsBy see terms)) a visits b → List Signed
  signed_along a [] b p = []
  signed_along a (v ∷ visits) b p = signed_at _ terms (see v.accepted) (see v.finished) a p.0 v.failed p.1 ++ signed_along p.0 visits b p.2

  -- over those of all lanes, lane by lane
  abbrev pub signed_lanes : (befores : List LaneSeen) (visits : List (List (Visit C))) (nows : List LaneSeen) → LanesServed (AttendsBy see terms) befores visits nows → List (List Signed)
  signed_lanes [] [] [] s = []
  signed_lanes [] [] (b ∷ bs) s = []
  signed_lanes [] (x ∷ xs) bs s = []
  signed_lanes (a ∷ befores) [] bs s = []
  signed_lanes (a ∷ befores) (x ∷ xs) [] s = []
  signed_lanes (a ∷ befores) (x ∷ xs) (b ∷ bs) s = signed_along a x b s.0 ∷ signed_lanes befores xs bs s.1

  -- none, where nothing was done
  abbrev pub signed_in : (wanted : ℕ) (before now : DoorSeen C) (befores nows : List LaneSeen) (result : Result (Unit {0}) LoopEnd) → DoorServed (AttendsBy see terms) wanted before now befores nows result → List (List Signed)
  signed_in wanted before now befores nows result (inl none) = []
  signed_in wanted before now befores nows result (inr ran) = signed_lanes befores ran.visits nows ran.served

-- the lists as one, in order
abbrev pub joined : {X : Type 0} → List (List X) → List X
joined [] = []
joined (xs ∷ xss) = xs ++ joined xss

-- the message of a grant, if it has one
abbrev pub message_of : PubKey → Option Message → List (PubKey × Message)
message_of key None = []
message_of key (Some m) = (key, m) ∷ []

-- the messages of those signatures that were handed out, or that were begun to be
abbrev pub sent_by : Signed → List (PubKey × Message)
sent_by x = cond x.1 (message_of x.0.key x.0.message) []

abbrev pub sent_of : List Signed → List (PubKey × Message)
sent_of signed = flat_map sent_by signed
