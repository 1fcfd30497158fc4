-- A record gains entries and floors of another record or of a book, and drops what is dead.
use Rattle.std.specs.Prelude.{◌≡◌, ◌↔◌, ◌⊎◌, List, All, Contains}
use Rattle.std.specs.declared.cmp.Ordering.{Ordering}
use Rattle.slash_defs.specs.declared.entry.BlockEntry.{BlockEntry}
use Rattle.slash_defs.specs.declared.entry.VoteEntry.{VoteEntry}
use Rattle.slash_defs.specs.declared.book.Book.{Book}
use Rattle.slash_defs.specs.FileOrder.{block_cmp, vote_cmp}
use Rattle.protect_record.specs.declared.floors.Floors.{Floors}
use Rattle.protect_record.specs.Order.{IsInOrder}
use Rattle.protect_record.specs.Parts.{Parts}
use Rattle.protect_record.specs.Floors.{greater_floors, book_floors, IsDeadBlock, IsDeadVote}

-- the elements of both lists, each once, in order
pub record HasUnited {X : Type 0} (cmp : X → X → Ordering) (old more new : List X) : Type 0 where
  pub elements : (e : X) → Contains new e ↔ (Contains old e ⊎ Contains more e)
  pub in_order : IsInOrder cmp new

-- the elements that are not dead, each once, in order
pub record HasDropped {X : Type 0} (cmp : X → X → Ordering) (Dead : X → Type 0) (old new : List X) : Type 0 where
  pub elements : (e : X) → Contains new e ↔ (Contains old e × ¬ (Dead e))
  pub in_order : IsInOrder cmp new

-- the elements of both lists that are not dead, each once, in order
pub record HasGathered {X : Type 0} (cmp : X → X → Ordering) (Dead : X → Type 0) (old more new : List X) : Type 0 where
  pub elements : (e : X) → Contains new e ↔ ((Contains old e ⊎ Contains more e) × ¬ (Dead e))
  pub in_order : IsInOrder cmp new

-- a record gains floors and entries: union of the entries, greatest of each floor, dead entries dropped
pub record Gathers (old new : Parts) (gained : Floors) (more_blocks : List BlockEntry) (more_votes : List VoteEntry) : Type 0 where
  pub floors : new.floors ≡ greater_floors old.floors gained
  pub blocks : HasGathered block_cmp (IsDeadBlock new.floors) old.blocks more_blocks new.blocks
  pub votes : HasGathered vote_cmp (IsDeadVote new.floors) old.votes more_votes new.votes

-- one record joined to another
abbrev pub IsJoin : Parts → Parts → Parts → Type 0
IsJoin one other both = Gathers one both other.floors other.blocks other.votes

-- a book merged into a record
abbrev pub IsMerge : Parts → Book → Parts → Type 0
IsMerge old b new = Gathers old new (book_floors b) b.blocks b.votes

-- what is true of every record: its entries are in file order, each once, and none is dead
pub record IsWellKept (floors : Floors) (blocks : List BlockEntry) (votes : List VoteEntry) : Type 0 where
  pub blocks_in_order : IsInOrder block_cmp blocks
  pub votes_in_order : IsInOrder vote_cmp votes
  pub live_blocks : All (λ e. ¬ (IsDeadBlock floors e)) blocks
  pub live_votes : All (λ e. ¬ (IsDeadVote floors e)) votes

-- the same floors and entries
pub record SameEntries (one other : Parts) : Type 0 where
  pub floors : one.floors ≡ other.floors
  pub blocks : one.blocks ≡ other.blocks
  pub votes : one.votes ≡ other.votes
