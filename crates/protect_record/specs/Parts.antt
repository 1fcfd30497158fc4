-- What a record keeps, as contracts see it.
use Rattle.std.specs.Prelude.{◌≡◌, ℕ, ◌≤◌, ◌<◌, List, None}
use Rattle.slash_defs.specs.declared.entry.BlockEntry.{BlockEntry}
use Rattle.slash_defs.specs.declared.entry.VoteEntry.{VoteEntry}
use Rattle.slash_defs.specs.declared.message.Message.{Message}
use Rattle.slash_defs.specs.declared.message.Message.TheVariants as message
use Rattle.protect_record.specs.declared.floors.Floors.{Floors}

-- the floors, the kept entries, and the room that was reserved for more of each kind
pub record Parts : Type 0 where
  pub floors : Floors
  pub blocks : List BlockEntry
  pub votes : List VoteEntry
  pub block_room : ℕ
  pub vote_room : ℕ

-- no floor is set
abbrev pub no_floors : Floors
no_floors = record { block = None; vote = None }

-- the same floors and entries, and no less room than before
pub record SameParts (old new : Parts) : Type 0 where
  pub floors : new.floors ≡ old.floors
  pub blocks : new.blocks ≡ old.blocks
  pub votes : new.votes ≡ old.votes
  pub block_room : old.block_room ≤ new.block_room
  pub vote_room : old.vote_room ≤ new.vote_room

-- there is room for one more entry of the message's kind
abbrev pub HasRoom : Parts → Message → Type 0
HasRoom parts (message.Block slot root) = 0 < parts.block_room
HasRoom parts (message.Vote source target root) = 0 < parts.vote_room
