-- When a record stands for a past.
use Rattle.std.specs.Prelude.{◌≡◌, ◌↔◌, Contains}
use Rattle.slash_defs.specs.declared.entry.BlockEntry.{BlockEntry}
use Rattle.slash_defs.specs.declared.entry.VoteEntry.{VoteEntry}
use Rattle.slash_defs.specs.FileOrder.{block_cmp, vote_cmp}
use Rattle.protect_record.specs.Order.{IsInOrder}
use Rattle.protect_record.specs.Parts.{Parts}
use Rattle.protect_record.specs.Pasts.{Past, IsPastBlock, IsPastVote}
use Rattle.protect_record.specs.Floors.{floors_of, IsDeadBlock, IsDeadVote}

-- the floors are the past's, and the entries are the past's that are not dead, each once, in file order
pub record Stands (parts : Parts) (past : Past) : Type 0 where
  pub floors : parts.floors ≡ floors_of past.books
  pub blocks : (e : BlockEntry) → Contains parts.blocks e ↔ (IsPastBlock past e × ¬ (IsDeadBlock parts.floors e))
  pub votes : (e : VoteEntry) → Contains parts.votes e ↔ (IsPastVote past e × ¬ (IsDeadVote parts.floors e))
  pub blocks_in_order : IsInOrder block_cmp parts.blocks
  pub votes_in_order : IsInOrder vote_cmp parts.votes
