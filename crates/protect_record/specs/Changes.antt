-- What recording a message makes of a record's parts.
use Rattle.std.specs.Prelude.{◌≡◌, ◌↔◌, ◌⊎◌, ◌+◌, ◌≤◌, List, Contains, Some}
use Rattle.std.specs.declared.cmp.Ordering.{Ordering}
use Rattle.slash_defs.specs.declared.message.Message.{Message}
use Rattle.slash_defs.specs.declared.message.Message.TheVariants as message
use Rattle.slash_defs.specs.FileOrder.{block_cmp, vote_cmp}
use Rattle.protect_record.specs.Order.{IsInOrder}
use Rattle.protect_record.specs.Parts.{Parts}

-- the list has the old elements and this one, each once, in order
pub record HasJoined {X : Type 0} (cmp : X → X → Ordering) (old new : List X) (x : X) : Type 0 where
  pub elements : (e : X) → Contains new e ↔ (Contains old e ⊎ (e ≡ x))
  pub in_order : IsInOrder cmp new

-- the message's entry has joined those of its kind, and the rest is as it was
abbrev pub HasAdded : Parts → Parts → Message → Type 0
HasAdded old new (message.Block slot root) =
    HasJoined block_cmp old.blocks new.blocks (record { slot = slot; root = Some root })
    × (new.votes ≡ old.votes) × (new.floors ≡ old.floors) × (old.block_room ≤ new.block_room + 1) × (new.vote_room ≡ old.vote_room)
HasAdded old new (message.Vote source target root) =
    HasJoined vote_cmp old.votes new.votes (record { target = target; source = source; root = Some root })
    × (new.blocks ≡ old.blocks) × (new.floors ≡ old.floors) × (old.vote_room ≤ new.vote_room + 1) × (new.block_room ≡ old.block_room)

-- the message's entry is among those of its kind, root and all
abbrev pub IsKept : Parts → Message → Type 0
IsKept parts (message.Block slot root) = Contains parts.blocks (record { slot = slot; root = Some root })
IsKept parts (message.Vote source target root) = Contains parts.votes (record { target = target; source = source; root = Some root })
