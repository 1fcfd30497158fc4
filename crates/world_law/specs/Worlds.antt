-- Any number of clients, each with a desk: what may happen, and what has become of the keys.
use Rattle.std.specs.Prelude.{◌≡◌, ℕ, ◌==◌, Bool, true, false, List, [], ◌∷◌, ◌++◌, Contains, Option, Some, None, if◌then◌else◌}
use Rattle.edge_kit.specs.declared.bytes.PubKey.{PubKey}
use Rattle.edge_kit.specs.declared.bytes.Root.{Root}
use Rattle.slash_defs.specs.declared.message.Message.{Message}
use Rattle.slash_defs.specs.declared.book.Book.{Book}
use Rattle.desk_machine.specs.States.{State, Lasting, lasting, reopened, no_state}
use Rattle.desk_machine.specs.Machine.{Reply, after, lasting_after}
use Rattle.desk_machine.specs.Kinds.{HasOk}
use Rattle.desk_machine.specs.declared.open_grant.OpenGrant.{OpenGrant}
use Rattle.desk_machine.specs.declared.call.DeskCall.{DeskCall}
use Rattle.desk_machine.specs.declared.call.DeskCall.TheVariants as call
use Rattle.desk_machine.specs.declared.call.DeskReply.{DeskReply}
use Rattle.desk_machine.specs.declared.call.DeskReply.TheVariants as reply

-- what was done with keys, and by which client
pub data Deed : Type 0 where
  -- the key became active
  Activated : (client : ℕ) (key : PubKey) → Deed
  -- the key was closed
  Closed : (client : ℕ) (key : PubKey) → Deed
  -- these books were handed out, each of its key
  Exported : (client : ℕ) (books : List (PubKey × Book)) → Deed
  -- a message of the key was sent
  Sent : (client : ℕ) (key : PubKey) (message : Message) → Deed

-- the desk of each client, the call of each that a fault of its disk tore, and what was done so far, the latest first
pub record World : Type 0 where
  pub desks : ℕ → State
  pub torn : ℕ → Option DeskCall
  pub deeds : List Deed

-- one client's thing is another, and each other client has what it had
abbrev pub at_client : {X : Type 0} → (ℕ → X) → ℕ → X → ℕ → X
at_client things client x other = if other == client then x else things other

-- all desks are empty, each of a chain of its own maybe
abbrev pub empty_world : (ℕ → Root) → World
empty_world roots = record { desks = λ client. no_state (roots client); torn = λ client. None; deeds = [] }

-- what may happen: a desk is called and replies; a message is sent under a grant; or a client stops, maybe within a call,
-- which was done or not, and starts again at this moment, with the watch on or off
pub data Event : Type 0 where
  Call : (client : ℕ) (call : DeskCall) (reply : DeskReply) → Event
  Send : (client : ℕ) (grant : OpenGrant) (message : Message) → Event
  Crash : (client : ℕ) (within : Option DeskCall) (done : Bool) (now : ℕ) (watch : Bool) → Event

-- the client at which it happens
abbrev pub client_of : Event → ℕ
client_of (Call client c r) = client
client_of (Send client grant m) = client
client_of (Crash client within done now watch) = client

-- a stop may leave a call done: one that is torn, or else one in progress to which Ok was a possible reply
abbrev pub MayBeDone : State → Option Lasting → Option DeskCall → Type 0
MayBeDone state (Some l) within = Unit {0}
MayBeDone state None (Some c) = HasOk state c
MayBeDone state None None = ⊥

abbrev pub MayStop : State → Option DeskCall → Bool → Type 0
MayStop state within true = MayBeDone state state.torn within
MayStop state within false = Unit {0}

-- whether this may happen to a client whose desk is in this state
abbrev pub MayHappenAt : State → Event → Type 0
MayHappenAt state (Call client c r) = Reply state c r
MayHappenAt state (Send client grant m) = Contains state.grants grant × (grant.message ≡ Some m)
MayHappenAt state (Crash client within done now watch) = MayStop state within done

abbrev pub MayHappen : World → Event → Type 0
MayHappen w e = MayHappenAt (w.desks (client_of e)) e

-- what lasts of a client that stops, where a call is done: what would have outlasted the torn call's Ok, or that of the call in progress
abbrev pub lasting_done : State → Option Lasting → Option DeskCall → Lasting
lasting_done state (Some l) within = l
lasting_done state None (Some c) = lasting_after state c
lasting_done state None None = lasting state

abbrev pub lasting_stopped : State → Option DeskCall → Bool → Lasting
lasting_stopped state within true = lasting_done state state.torn within
lasting_stopped state within false = lasting state

-- the state of the client's desk after it
abbrev pub state_after : State → Event → State
state_after state (Call client c r) = after state c r
state_after state (Send client grant m) = state
state_after state (Crash client within done now watch) = reopened state.genesis (lasting_stopped state within done) watch now

-- the first call that a fault of the disk tears stays so until the client stops
abbrev pub first_torn : Option DeskCall → DeskCall → Option DeskCall
first_torn None c = Some c
first_torn (Some first) c = Some first

abbrev pub torn_call : Option DeskCall → DeskCall → DeskReply → Option DeskCall
torn_call t c reply.Disk = first_torn t c
torn_call t c r = t

abbrev pub torn_after : Option DeskCall → Event → Option DeskCall
torn_after t (Call client c r) = torn_call t c r
torn_after t (Send client grant m) = t
torn_after t (Crash client within done now watch) = None

-- what a call that is done does with its key, answered or not
abbrev pub deeds_done : ℕ → DeskCall → List Deed
deeds_done client (call.Activate key now) = Activated client key ∷ []
deeds_done client (call.FinishClose key) = Closed client key ∷ []
deeds_done client c = []

-- what an answered call did; a book is handed out with the Close, or as it was asked for
abbrev pub deeds_answered : ℕ → DeskCall → DeskReply → List Deed
deeds_answered client (call.Activate key now) reply.Active = Activated client key ∷ []
deeds_answered client (call.FinishClose key) (reply.Closed book) = Exported client ((key, book) ∷ []) ∷ Closed client key ∷ []
deeds_answered client (call.Export keys) (reply.Exported file) = Exported client file.books ∷ []
deeds_answered client c r = []

-- of a torn call and one in progress the torn one may be done
abbrev pub call_stopped : Option DeskCall → Option DeskCall → Option DeskCall
call_stopped (Some c) within = Some c
call_stopped None within = within

abbrev pub deeds_stopped : ℕ → Option DeskCall → Bool → List Deed
deeds_stopped client (Some c) true = deeds_done client c
deeds_stopped client (Some c) false = []
deeds_stopped client None done = []

abbrev pub deeds_of : Option DeskCall → Event → List Deed
deeds_of t (Call client c r) = deeds_answered client c r
deeds_of t (Send client grant m) = Sent client grant.key m ∷ []
deeds_of t (Crash client within done now watch) = deeds_stopped client (call_stopped t within) done

-- the world after an event
abbrev pub happens : World → Event → World
happens w e = record {
  desks = at_client w.desks (client_of e) (state_after (w.desks (client_of e)) e);
  torn = at_client w.torn (client_of e) (torn_after (w.torn (client_of e)) e);
  deeds = deeds_of (w.torn (client_of e)) e ++ w.deeds;
}

-- and after each of a list, one after another
abbrev pub run : World → List Event → World
run w [] = w
run w (e ∷ es) = run (happens w e) es

-- each of the list may happen where its turn comes
abbrev pub IsRun : World → List Event → Type 0
IsRun w [] = Unit {0}
IsRun w (e ∷ es) = MayHappen w e × IsRun (happens w e) es

-- the messages that were sent, in order, each with its key
abbrev pub sent_of : List Deed → List (PubKey × Message)
sent_of [] = []
sent_of (Sent client key m ∷ ds) = sent_of ds ++ (key, m) ∷ []
sent_of (Activated client key ∷ ds) = sent_of ds
sent_of (Closed client key ∷ ds) = sent_of ds
sent_of (Exported client books ∷ ds) = sent_of ds
