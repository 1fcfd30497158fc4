-- What happens at one client, and what many clients do together.
use Rattle.std.specs.Prelude.{◌≡◌, ◌↔◌, ℕ, ◌==◌, filter, List, [], ◌∷◌, ◌++◌}
use Rattle.edge_kit.specs.declared.bytes.PubKey.{PubKey}
use Rattle.slash_defs.specs.declared.message.Message.{Message}
use Rattle.desk_machine.specs.States.{State}
use Rattle.world_law.specs.Worlds.{World, Event, client_of, MayHappenAt, state_after, run, IsRun, sent_of}
use Rattle.world_law.specs.Worlds.Event.{Call, Send, Crash}

-- each of these events may happen, where its turn comes, at a client whose desk was in this state
abbrev pub RunsFrom : State → List Event → Type 0
RunsFrom state [] = Unit {0}
RunsFrom state (e ∷ es) = MayHappenAt state e × RunsFrom (state_after state e) es

-- the state of the desk after them
abbrev pub state_over : State → List Event → State
state_over state [] = state
state_over state (e ∷ es) = state_over (state_after state e) es

-- the events of one client
abbrev pub own : ℕ → List Event → List Event
own client es = filter (λ e. client_of e == client) es

-- the messages that are sent, in order, each with its key
abbrev pub messages_in : List Event → List (PubKey × Message)
messages_in [] = []
messages_in (Call client c r ∷ es) = messages_in es
messages_in (Send client grant m ∷ es) = (grant.key, m) ∷ messages_in es
messages_in (Crash client within done now watch ∷ es) = messages_in es

-- what may happen at a client depends on its own events alone
abbrev pub RunsApart : Type 0
RunsApart = (w : World) (es : List Event) → IsRun w es ↔ ((client : ℕ) → RunsFrom (w.desks client) (own client es))

-- and so does the state of its desk
abbrev pub StandsApart : Type 0
StandsApart = (w : World) (es : List Event) (client : ℕ) → (run w es).desks client ≡ state_over (w.desks client) (own client es)

-- what was sent has grown by the messages of the list
abbrev pub SendsAll : Type 0
SendsAll = (w : World) (es : List Event) → sent_of (run w es).deeds ≡ sent_of w.deeds ++ messages_in es
