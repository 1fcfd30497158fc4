-- That a session is a list of events of one client.
use Rattle.std.proofs.Common.{◌≡◌, inl, inr, ℕ, List, [], ◌∷◌, ◌++◌, Option, Some, None, refl, sym, ◌∙◌, ap, subst}
use Rattle.std.specs.Prelude.{Contains}
use Rattle.std.specs.Map.{keys_of}
use Rattle.std.proofs.lemmas.Grind.{flat_map-append}
use Rattle.std.proofs.lemmas.List.Elements.{Contains-push}
use Rattle.edge_kit.specs.declared.bytes.PubKey.{PubKey}
use Rattle.slash_defs.specs.declared.message.Message.{Message}
use Rattle.session_format.specs.declared.chain.SessionChain.{SessionChain}
use Rattle.signer_link.specs.declared.request.SignRequest.{SignRequest}
use Rattle.signer_link.specs.declared.reply.SignReply.{SignReply}
use Rattle.signer_link.specs.declared.reply.SignReply.TheVariants as signing
use Rattle.desk_machine.specs.States.{State}
use Rattle.desk_machine.specs.Machine.{Reply, after}
use Rattle.desk_machine.specs.declared.open_grant.OpenGrant.{OpenGrant}
use Rattle.desk_machine.specs.declared.call.DeskCall.{DeskCall}
use Rattle.desk_machine.specs.declared.call.DeskCall.TheVariants as call
use Rattle.desk_machine.specs.declared.call.DeskReply.{DeskReply}
use Rattle.desk_machine.specs.declared.call.DeskReply.TheVariants as reply
use Rattle.check_sign.specs.Contents.{Seen}
use Rattle.check_sign.specs.Paths.{Path}
use Rattle.check_sign.specs.Standing.{DeskStands}
use Rattle.client_calls.specs.Machines.{CanMake, state_after}
use Rattle.client_calls.specs.Steps.{ClientCall, ClientReply, ClientStep, Calls, Closes, Signs, SignsPlain, Imports, Deletes, Replies, ClosedBy, Signed, Imported, Deleted, message_of, step_calls, step_sent, desk_calls, sent_in}
use Rattle.client_calls.proofs.MachineLemmas.{can_split, after_on}
use Rattle.client_calls.proofs.QuietLemmas.{IsQuiet, AllQuiet, quiet_sent}
use Rattle.world_law.specs.Worlds.{Event}
use Rattle.world_law.specs.Worlds.Event.{Call, Send}
use Rattle.session_run.specs.Plans.{moment_by, outcome_of}
use Rattle.session_run.specs.Turns.{Turn, AllPlanned, steps_of, made, sent}
use Rattle.session_run.proofs.PathLemmas.{path_machine}
use Rattle.session_run.proofs.SafeLemmas.{made_more, sent_more}
use Rattle.session_run.proofs.ViewLemmas.{ProposalView, TurnView, view_of}
use Rattle.serve_world.specs.Events.{send_of, step_events, steps_events, calls_of, turn_events, AreOf, SessionRuns, CallsRun}
use Rattle.serve_world.proofs.ListLemmas.{Piece, nothing, own_first, both, sends_as, are_of, then_of}

-- ---- calls

pub called : (client : ℕ) (state : State) (c : DeskCall) (r : DeskReply) → Reply state c r → Piece client state (Call client c r ∷ []) [] (after state c r)
called client state c r h = record { at_client = own_first client (Call client c r) [] refl refl; runs = (h, tt); sends = refl; ends = refl }

pub calls_piece : (client : ℕ) (state : State) (xs : List (DeskCall × DeskReply)) → CanMake state xs → Piece client state (calls_of client xs) [] (state_after state xs)
calls_piece client state [] can = nothing client state
calls_piece client state (x ∷ xs) can =
    let next = after state x.0 x.1 in
    both client state next (state_after next xs) (Call client x.0 x.1 ∷ []) (calls_of client xs) [] [] (called client state x.0 x.1 can.0) (calls_piece client next xs can.1)

-- ---- steps in which nothing is signed

quiet_events : (client : ℕ) (c : ClientCall) (y : ClientReply) → IsQuiet c → step_events client (c, y) ≡ calls_of client (step_calls (c, y))
quiet_events client (Calls c) (Replies r) h = refl
quiet_events client (Calls c) (ClosedBy made r) h = refl
quiet_events client (Calls c) (Signed r) h = refl
quiet_events client (Calls c) (Imported r) h = refl
quiet_events client (Calls c) (Deleted r) h = refl
quiet_events client (Closes key) (Replies r) h = refl
quiet_events client (Closes key) (ClosedBy made r) h = refl
quiet_events client (Closes key) (Signed r) h = refl
quiet_events client (Closes key) (Imported r) h = refl
quiet_events client (Closes key) (Deleted r) h = refl
quiet_events client (Signs grant q) y h = absurd h
quiet_events client (SignsPlain grant q) y h = refl
quiet_events client (Imports q) y h = refl
quiet_events client (Deletes key) y h = refl

quiet_piece : (client : ℕ) (state : State) (steps : List ClientStep) → AllQuiet steps → CanMake state (desk_calls steps) → Piece client state (steps_events client steps) [] (state_after state (desk_calls steps))
quiet_piece client state [] quiet can = nothing client state
quiet_piece client state (s ∷ steps) quiet can =
    let parts = can_split state (step_calls s) (desk_calls steps) can in
    let next = state_after state (step_calls s) in
    let E : List Event → Type 0 = λ l. Piece client state l [] next in
    let Z : State → Type 0 = λ z. Piece client state (steps_events client (s ∷ steps)) [] z in
    let one = subst E (sym (quiet_events client s.0 s.1 quiet.0.0)) (calls_piece client state (step_calls s) parts.0) in
    subst Z (sym (after_on state (step_calls s) (desk_calls steps)))
    (both client state next (state_after next (desk_calls steps)) (step_events client s) (steps_events client steps) [] [] one (quiet_piece client next steps quiet.1 parts.1))

-- ---- a turn

sends_message : (client : ℕ) (state : State) (grant : OpenGrant) (m : Option Message) → grant.message ≡ m → Contains state.grants grant → Piece client state (send_of client grant m) (message_of grant m) state
sends_message client state grant None e open_at = nothing client state
sends_message client state grant (Some m) e open_at = record { at_client = own_first client (Send client grant m) [] refl refl; runs = ((open_at, e), tt); sends = refl; ends = refl }

sends : (client : ℕ) (state : State) (grant : OpenGrant) (q : SignRequest) (s : SignReply) → Contains state.grants grant → Piece client state (step_events client (Signs grant q, Signed s)) (step_sent (Signs grant q, Signed s)) state
sends client state grant q (signing.Signed signature) open_at = sends_message client state grant grant.message refl open_at
sends client state grant q (signing.NoKey status) open_at = nothing client state
sends client state grant q (signing.Denied status) open_at = nothing client state
sends client state grant q signing.Fault open_at = nothing client state
sends client state grant q (signing.BadAnswer body) open_at = nothing client state
sends client state grant q signing.OutOfMemory open_at = nothing client state

turn_piece : (client : ℕ) (state : State) (t : Turn) → TurnView t → CanMake state (desk_calls t.steps) → Piece client state (steps_events client t.steps) (sent_in t.steps) (state_after state (desk_calls t.steps))
turn_piece client state t (inl quiet) can = sends_as client state (state_after state (desk_calls t.steps)) (steps_events client t.steps) [] (sent_in t.steps) (sym (quiet_sent t.steps quiet)) (quiet_piece client state t.steps quiet can)
turn_piece client state t (inr p) can = by_view p.view where
  by_view : ProposalView p.request (call.Propose p.key p.message p.now) t.steps t.answer → Piece client state (steps_events client t.steps) (sent_in t.steps) (state_after state (desk_calls t.steps))
  by_view (inl plain) =
      let P : List ClientStep → Type 0 = λ l. Piece client state (steps_events client l) (sent_in l) (state_after state (desk_calls l)) in
      let C : List ClientStep → Type 0 = λ l. CanMake state (desk_calls l) in
      subst P (sym plain.steps_are) (called client state (call.Propose p.key p.message p.now) plain.reply (subst C plain.steps_are can).0)
  by_view (inr g) =
      let P : List ClientStep → Type 0 = λ l. Piece client state (steps_events client l) (sent_in l) (state_after state (desk_calls l)) in
      let C : List ClientStep → Type 0 = λ l. CanMake state (desk_calls l) in
      let c = call.Propose p.key p.message p.now in
      let mid = after state c (reply.Granted g.grant) in
      let settle = call.Settle g.grant (outcome_of g.signing) in
      let end = after mid settle reply.Settled in
      let asks : ClientStep = (Signs g.grant p.request, Signed g.signing) in
      let first = called client state c (reply.Granted g.grant) (subst C g.steps_are can).0 in
      let second = sends client mid g.grant p.request g.signing (Contains-push state.grants g.grant) in
      let third = called client mid settle reply.Settled tt in
      subst P (sym g.steps_are)
      (both client state mid end (Call client c (reply.Granted g.grant) ∷ []) (step_events client asks ++ Call client settle reply.Settled ∷ []) [] (step_sent asks ++ []) first
      (both client mid mid end (step_events client asks) (Call client settle reply.Settled ∷ []) (step_sent asks) [] second third))

-- ---- lines, one after another

events_more : (client : ℕ) (t : Turn) (ts : List Turn) → turn_events client (t ∷ ts) ≡ steps_events client t.steps ++ turn_events client ts
events_more client t ts = flat_map-append (step_events client) t.steps (steps_of ts)

pub turns_piece : (client : ℕ) (chain : SessionChain) (latest : ℕ) (state : State) (ts : List Turn) → CanMake state (made ts) → AllPlanned chain latest state ts → Piece client state (turn_events client ts) (sent ts) (state_after state (made ts))
turns_piece client chain latest state [] can planned = nothing client state
turns_piece client chain latest state (t ∷ ts) can planned =
    let C : List (DeskCall × DeskReply) → Type 0 = λ l. CanMake state l in
    let parts = can_split state (desk_calls t.steps) (made ts) (subst C (made_more t ts) can) in
    let next = state_after state (desk_calls t.steps) in
    let one = turn_piece client state t (view_of chain (keys_of state.keys) t latest planned.0) parts.0 in
    let rest = turns_piece client chain (moment_by latest t.request) next ts parts.1 planned.1 in
    let all = both client state next (state_after next (made ts)) (steps_events client t.steps) (turn_events client ts) (sent_in t.steps) (sent ts) one rest in
    let E : List Event → Type 0 = λ l. Piece client state l (sent_in t.steps ++ sent ts) (state_after next (made ts)) in
    let M : List (PubKey × Message) → Type 0 = λ l. Piece client state (turn_events client (t ∷ ts)) l (state_after next (made ts)) in
    let Z : State → Type 0 = λ z. Piece client state (turn_events client (t ∷ ts)) (sent (t ∷ ts)) z in
    let end : state_after state (made (t ∷ ts)) ≡ state_after next (made ts) = ap (state_after state) (made_more t ts) ∙ after_on state (desk_calls t.steps) (made ts) in
    subst Z (sym end) (subst M (sym (sent_more t ts)) (subst E (sym (events_more client t ts)) all))

-- ---- calls of a desk

module _ {D : Type 0} (moment : D → ℕ) (leaves : D → ℕ → List ℕ → Type 0) (faults : D → ℕ) (client : ℕ) where
  pub calls_are : (first last : Seen D) (xs : List (DeskCall × DeskReply)) → Path moment leaves faults first xs last → (state : State) → DeskStands first.contents state → AreOf client state (calls_of client xs) [] last.contents
  calls_are first last xs path state stands =
      let by = path_machine moment leaves faults first last xs path state stands in
      are_of client state (state_after state xs) (calls_of client xs) [] last.contents (calls_piece client state xs by.0) by.1

pub calls_run : {D : Type 0} (moment : D → ℕ) (leaves : D → ℕ → List ℕ → Type 0) (faults : D → ℕ) → CallsRun moment leaves faults
calls_run moment leaves faults first last made path client state stands = calls_are moment leaves faults client first last made path state stands

pub session_runs : {D : Type 0} (moment : D → ℕ) (leaves : D → ℕ → List ℕ → Type 0) (faults : D → ℕ) → SessionRuns moment leaves faults
session_runs moment leaves faults chain first last before now result ends client state stands =
    let by = ends.ran.machine state stands in
    let end = state_after state (made ends.turns) in
    let tail = desk_calls ends.unanswered.steps in
    then_of client state end (turn_events client ends.turns) (calls_of client tail) (sent ends.turns) last.desk.contents
    (turns_piece client chain 0 state ends.turns by.0 (ends.ran.planned state stands))
    (calls_are moment leaves faults client ends.mid.desk last.desk tail ends.unanswered.makes.desk end by.1)
