-- A session as events of one client.
use Rattle.std.specs.Prelude.{◌≡◌, ℕ, List, [], ◌∷◌, ◌++◌, flat_map, Option, Some, None}
use Rattle.edge_kit.specs.declared.bytes.PubKey.{PubKey}
use Rattle.slash_defs.specs.declared.message.Message.{Message}
use Rattle.session_format.specs.declared.chain.SessionChain.{SessionChain}
use Rattle.signer_link.specs.declared.reply.SignReply.TheVariants as signing
use Rattle.desk_machine.specs.States.{State}
use Rattle.desk_machine.specs.declared.open_grant.OpenGrant.{OpenGrant}
use Rattle.desk_machine.specs.declared.call.DeskCall.{DeskCall}
use Rattle.desk_machine.specs.declared.call.DeskReply.{DeskReply}
use Rattle.check_sign.specs.Contents.{Contents, Seen}
use Rattle.check_sign.specs.Standing.{DeskStands}
use Rattle.check_sign.specs.Paths.{Path}
use Rattle.client_calls.specs.Steps.{ClientStep, Calls, Closes, Signs, Replies, ClosedBy, Signed, desk_calls}
use Rattle.world_law.specs.Worlds.{Event}
use Rattle.world_law.specs.Worlds.Event.{Call, Send}
use Rattle.world_law.specs.Clients.{RunsFrom, state_over, own, messages_in}
use Rattle.program_end.specs.declared.status.Status.{Status}
use Rattle.session_run.specs.Acts.{AtBench}
use Rattle.session_run.specs.Turns.{Turn, sent, steps_of}
use Rattle.session_run.specs.Ends.{Ends, Wires}

-- calls of the desk, one after another
abbrev pub calls_of : ℕ → List (DeskCall × DeskReply) → List Event
calls_of client [] = []
calls_of client (x ∷ made) = Call client x.0 x.1 ∷ calls_of client made

-- the message of a grant is sent
abbrev pub send_of : ℕ → OpenGrant → Option Message → List Event
send_of client grant None = []
send_of client grant (Some m) = Send client grant m ∷ []

-- a step: its calls of the desk; and what is sent, where the signer gave a signature under a grant
abbrev pub step_events : ℕ → ClientStep → List Event
step_events client (Calls c, Replies r) = Call client c r ∷ []
step_events client (Closes key, ClosedBy made r) = calls_of client made
step_events client (Signs grant q, Signed (signing.Signed signature)) = send_of client grant grant.message
step_events client s = []

abbrev pub steps_events : ℕ → List ClientStep → List Event
steps_events client steps = flat_map (step_events client) steps

-- the lines that were answered, one after another
abbrev pub turn_events : ℕ → List Turn → List Event
turn_events client turns = steps_events client (steps_of turns)

-- a session: after its lines, the calls of the line that was not answered, under which nothing is sent
abbrev pub session_events : {D : Type 0} (moment : D → ℕ) (leaves : D → ℕ → List ℕ → Type 0) (faults : D → ℕ) (chain : SessionChain) (first last : AtBench D) (before now : Wires) (result : Status)
    → Ends moment leaves faults chain first last before now result → ℕ → List Event
session_events moment leaves faults chain first last before now result ends client = turn_events client ends.turns ++ calls_of client (desk_calls ends.unanswered.steps)

-- these are events of the client; they may happen from the state; so much is sent; and the desk stands for the state after them
pub record AreOf (client : ℕ) (state : State) (events : List Event) (messages : List (PubKey × Message)) (desk : Contents) : Type 0 where
  pub at_client : own client events ≡ events
  pub runs : RunsFrom state events
  pub sends : messages_in events ≡ messages
  pub stands : DeskStands desk (state_over state events)

-- however a session ends, it is such a list, whichever state the desk stood for
abbrev pub SessionRuns : {D : Type 0} → (D → ℕ) → (D → ℕ → List ℕ → Type 0) → (D → ℕ) → Type 0
SessionRuns {D} moment leaves faults = (chain : SessionChain) (first last : AtBench D) (before now : Wires) (result : Status) (ends : Ends moment leaves faults chain first last before now result)
    (client : ℕ) (state : State) → DeskStands first.desk.contents state
    → AreOf client state (session_events moment leaves faults chain first last before now result ends client) (sent ends.turns) last.desk.contents

-- and calls of the desk are, where nothing is sent
abbrev pub CallsRun : {D : Type 0} → (D → ℕ) → (D → ℕ → List ℕ → Type 0) → (D → ℕ) → Type 0
CallsRun {D} moment leaves faults = (first last : Seen D) (made : List (DeskCall × DeskReply)) → Path moment leaves faults first made last
    → (client : ℕ) (state : State) → DeskStands first.contents state → AreOf client state (calls_of client made) [] last.contents
