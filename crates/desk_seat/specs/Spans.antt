-- How long a pass has a grant in the history of a shared desk, and when a key is closed in it.
use Rattle.std.specs.Prelude.{◌≡◌, ℕ, List, [], ◌∷◌, ◌++◌, Contains}
use Rattle.edge_kit.specs.declared.bytes.PubKey.{PubKey}
use Rattle.slash_defs.specs.declared.book.Book.{Book}
use Rattle.desk_machine.specs.Given.{given}
use Rattle.desk_machine.specs.Grants.{IsGrantFor}
use Rattle.desk_machine.specs.declared.open_grant.OpenGrant.{OpenGrant}
use Rattle.desk_machine.specs.declared.call.Outcome.{Outcome}
use Rattle.desk_machine.specs.declared.call.DeskCall.{DeskCall}
use Rattle.desk_machine.specs.declared.call.DeskCall.TheVariants as call
use Rattle.desk_machine.specs.declared.call.DeskReply.{DeskReply}
use Rattle.desk_machine.specs.declared.call.DeskReply.TheVariants as reply
use Rattle.desk_lock.specs.declared.types.Entry.{Entry}
use Rattle.desk_lock.specs.Histories.{entry, own}

-- the turns of a desk that passes share, in order: each with the number of its pass, its call and its reply
abbrev pub History : Type 0
History = List (Entry DeskCall DeskReply)

-- the turn closed this key, and handed out a book of it
pub record ClosesKey (key : PubKey) (turn : Entry DeskCall DeskReply) : Type 0 where
  pub book : Book
  pub call_is : turn.call ≡ call.FinishClose key
  pub reply_is : turn.reply ≡ reply.Closed book

-- none of these turns, of whatever pass, closed this key
abbrev pub NoneCloses : PubKey → History → Type 0
NoneCloses key turns = (turn : Entry DeskCall DeskReply) → Contains turns turn → ClosesKey key turn → ⊥

-- Pass k was given the grant, for what it asked, by one turn of the history, and settled it by a later one, with this outcome. By no
-- turn between the two, of whatever pass, was the grant's key closed.
pub record Spans (log : History) (k : ℕ) (grant : OpenGrant) (outcome : Outcome) : Type 0 where
  pub before : History
  pub asked : DeskCall
  pub between : History
  pub later : History
  pub log_is : log ≡ before ++ entry k asked (reply.Granted grant) ∷ (between ++ entry k (call.Settle grant outcome) reply.Settled ∷ later)
  pub granted : IsGrantFor asked (reply.Granted grant)
  pub unclosed : NoneCloses grant.key between

-- after these turns no pass has a grant of this key in hand: each that it was given it has settled
abbrev pub NoneInHand : History → PubKey → Type 0
NoneInHand turns key = (k : ℕ) (grant : OpenGrant) → grant.key ≡ key → Contains (given [] (own k turns)) grant → ⊥
