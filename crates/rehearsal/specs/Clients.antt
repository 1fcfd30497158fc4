-- What a client's desk does, as events of the client.
use Rattle.std.specs.Prelude.{◌≡◌, ℕ, Bool, true, false, List, [], ◌∷◌, ◌++◌, Option, Some, None}
use Rattle.edge_kit.specs.declared.bytes.PubKey.{PubKey}
use Rattle.slash_defs.specs.declared.message.Message.{Message}
use Rattle.slash_defs.specs.declared.book.Book.{Book}
use Rattle.desk_machine.specs.States.{State, Lasting, reopened}
use Rattle.desk_machine.specs.declared.call.DeskCall.{DeskCall}
use Rattle.desk_machine.specs.declared.call.DeskCall.TheVariants as call
use Rattle.desk_machine.specs.declared.call.DeskReply.{DeskReply}
use Rattle.desk_machine.specs.declared.call.DeskReply.TheVariants as reply
use Rattle.check_sign.specs.Contents.{Contents}
use Rattle.check_sign.specs.Crashes.{Files}
use Rattle.check_sign.specs.Standing.{DeskStands, Opens}
use Rattle.world_law.specs.Worlds.{Event}
use Rattle.world_law.specs.Worlds.Event.{Call, Crash}
use Rattle.world_law.specs.Clients.{RunsFrom, state_over, messages_in}
use Rattle.world_law.specs.Plans.{file_of}
use Rattle.rehearsal.specs.Draws.{genesis}
use Rattle.rehearsal.specs.Plays.{Activates, IsAnswered, IsGiven, proposal_events}
use Rattle.rehearsal.specs.declared.told.Told.{Told}
use Rattle.rehearsal.specs.declared.told.Told.TheVariants as told
use Rattle.rehearsal.specs.declared.told.Voted.{Voted}
use Rattle.rehearsal.specs.declared.told.Voted.TheVariants as voted

-- whichever state the desk stood for, the events may happen from it, and the desk stands for the state after them
abbrev pub Goes : List Event → Contents → Contents → Type 0
Goes es old new = (state : State) → DeskStands old state → RunsFrom state es × DeskStands new (state_over state es)

-- and the chain is the same
pub record GoesBy (es : List Event) (old new : Contents) : Type 0 where
  pub goes : Goes es old new
  pub genesis : new.genesis ≡ old.genesis

-- ---- replies

-- there is nothing to settle
abbrev pub IsNoGrant : DeskReply → Type 0
IsNoGrant (reply.Granted grant) = ⊥
IsNoGrant r = Unit {0}

-- the call was done, with the book that it handed out, or not
abbrev pub told_of : DeskReply → Told
told_of (reply.Merged keys) = told.Merged
told_of (reply.Closed book) = told.Closed book
told_of r = told.Other

-- what became of a proposal
abbrev pub voted_of : DeskReply → Voted
voted_of (reply.Granted grant) = voted.Sent
voted_of reply.Disk = voted.Torn
voted_of r = voted.Refused

-- it was refused
abbrev pub is_refusal_told : Voted → Bool
is_refusal_told voted.Sent = false
is_refusal_told voted.Refused = true
is_refusal_told voted.Torn = false

abbrev pub book_of : DeskReply → Option Book
book_of (reply.Closed book) = Some book
book_of r = None

-- ---- what each call of a client does

-- one call of its desk
pub record Asks (c : DeskCall) (old new : Contents) : Type 0 where
  pub reply : DeskReply
  pub given : IsGiven reply
  pub goes : (client : ℕ) → GoesBy (Call client c reply ∷ []) old new

-- a proposal, and so much was sent more
pub record Proposes (key : PubKey) (m : Message) (now : ℕ) (old new : Contents) (before after : List (PubKey × Message)) (voted : Voted) : Type 0 where
  pub reply : DeskReply
  pub answered : IsAnswered reply
  pub voted_is : voted ≡ voted_of reply
  pub goes : (client : ℕ) → GoesBy (proposal_events client key m now reply) old new
  pub sent : (client : ℕ) → after ≡ before ++ messages_in (proposal_events client key m now reply)

-- a key is closed, and this book is handed out
pub record GivesUp (key : PubKey) (old new : Contents) (given : Option Book) : Type 0 where
  pub begun : DeskReply
  pub closed : DeskReply
  pub begun_given : IsGiven begun
  pub closed_given : IsGiven closed
  pub given_is : given ≡ book_of closed
  pub goes : (client : ℕ) → GoesBy (Call client (call.BeginClose key) begun ∷ Call client (call.FinishClose key) closed ∷ []) old new

-- a book is merged for a key, which is made active
pub record TakesIn (key : PubKey) (book : Book) (now : ℕ) (old new : Contents) : Type 0 where
  pub merged : DeskReply
  pub merged_given : IsGiven merged
  pub rest : ℕ → List Event
  pub activates : (client : ℕ) → Activates client key now merged (rest client)
  pub goes : (client : ℕ) → GoesBy (Call client (call.Merge (file_of genesis key book)) merged ∷ rest client) old new

-- ---- starts

-- a desk that is opened over these files stands for what lasts by them
pub record OpensBy (files : Files) (now : ℕ) (new : Contents) : Type 0 where
  pub stands : (l : Lasting) → Opens genesis files l → DeskStands new (reopened genesis l false now)
  pub genesis_is : new.genesis ≡ genesis

-- a stop of the client, and its start
abbrev pub StopsBy : ℕ → ℕ → Contents → Contents → Type 0
StopsBy client now old new = (state : State) → DeskStands old state → (done : Bool) × RunsFrom state (Crash client None done now false ∷ []) × DeskStands new (state_over state (Crash client None done now false ∷ []))

pub record Restarts (now : ℕ) (old new : Contents) : Type 0 where
  pub stops : (client : ℕ) → StopsBy client now old new
  pub genesis_is : new.genesis ≡ genesis
