-- Several clients beside one another, as the world of all clients.
use Rattle.std.specs.Prelude.{◌≡◌, ℕ, ◌+◌, ◌<◌, ◌≤◌, Bool, false, List, [], ◌∷◌, ◌++◌, None, count_by, length, slice_index_or}
use Rattle.edge_kit.specs.declared.bytes.PubKey.{PubKey}
use Rattle.slash_defs.specs.declared.message.Message.{Message}
use Rattle.desk_machine.specs.declared.call.DeskCall.{DeskCall}
use Rattle.desk_machine.specs.declared.call.DeskReply.{DeskReply}
use Rattle.check_sign.specs.Standing.{DeskStands}
use Rattle.world_law.specs.Worlds.{World, Event, run, IsRun}
use Rattle.world_law.specs.Worlds.Event.{Call, Crash}
use Rattle.world_law.specs.Clients.{messages_in}
use Rattle.rehearsal.specs.Draws.{genesis}
use Rattle.rehearsal.specs.Plays.{IsAnswered, IsGiven, Plays, is_refusal, proposal_events}
use Rattle.rehearsal.specs.Clients.{voted_of}
use Rattle.rehearsal.specs.declared.acts.Act.{Act}
use Rattle.rehearsal.specs.declared.cast.Cast.{Cast}
use Rattle.rehearsal.specs.declared.client.Client.{Client}
use Rattle.rehearsal.specs.declared.told.Voted.{Voted}

-- each client's desk stands for its state in the world, and is of the one chain
abbrev pub Stands : List Client → World → Type 0
Stands clients w = (c : ℕ) (d : Client) → c < length clients → DeskStands (slice_index_or clients c d).desk.contents (w.desks c) × ((slice_index_or clients c d).desk.contents.genesis ≡ genesis)

-- these events happen, so much is sent in them, and so many are refusals
pub record Happens (old new : Cast) (w : World) (es : List Event) : Type 0 where
  pub runs : IsRun w es
  pub stands : Stands new.clients.items (run w es)
  pub sent : new.sent.items ≡ old.sent.items ++ messages_in es
  pub refused : new.refused ≡ old.refused + count_by is_refusal es

-- there are as many clients, and little is counted
pub record Grows (old new : Cast) : Type 0 where
  pub clients : length new.clients.items ≡ length old.clients.items
  pub sent : length new.sent.items ≤ length old.sent.items + 1
  pub refused : new.refused ≤ old.refused + 1

-- one call of a client's desk
pub record Calls (old new : Cast) (client : ℕ) (c : DeskCall) : Type 0 where
  pub grows : Grows old new
  pub reply : DeskReply
  pub given : IsGiven reply
  pub happens : (w : World) → Stands old.clients.items w → Happens old new w (Call client c reply ∷ [])

-- a proposal
pub record Votes (old new : Cast) (client : ℕ) (key : PubKey) (m : Message) (now : ℕ) (voted : Voted) : Type 0 where
  pub grows : Grows old new
  pub reply : DeskReply
  pub answered : IsAnswered reply
  pub voted_is : voted ≡ voted_of reply
  pub happens : (w : World) → Stands old.clients.items w → Happens old new w (proposal_events client key m now reply)

-- a stop, and a start
pub record Restarted (old new : Cast) (client now : ℕ) : Type 0 where
  pub clients : length new.clients.items ≡ length old.clients.items
  pub sent : new.sent.items ≡ old.sent.items
  pub refused : new.refused ≡ old.refused
  pub happens : (w : World) → Stands old.clients.items w → (done : Bool) × Happens old new w (Crash client None done now false ∷ [])

-- an act, after which this client has the key
pub record PlaysAt (old new : Cast) (client : ℕ) (key : PubKey) (now : ℕ) (act : Act) (holder : ℕ) : Type 0 where
  pub grows : Grows old new
  pub within : holder < length new.clients.items
  pub happens : (w : World) → Stands old.clients.items w → (es : List Event) × Plays client key now act es holder × Happens old new w es
