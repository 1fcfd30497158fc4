-- What is left of a key's entries while they are taken.
use Rattle.std.specs.Prelude.{◌≡◌, ◌⊎◌, ℕ, ◌≤◌, List, [], ◌++◌, length}
use Rattle.edge_kit.specs.declared.bytes.PubKey.{PubKey}
use Rattle.slash_defs.specs.declared.entry.Entry.{Entry}
use Rattle.slash_defs.specs.declared.entry.Entry.TheVariants as entry
use Rattle.record_codec.specs.declared.item.JournalItem.{JournalItem}
use Rattle.record_codec.specs.declared.item.JournalItem.TheVariants as item

-- the item of a kept entry of a key
abbrev pub item_of : PubKey → Entry → JournalItem
item_of key (entry.Block kept) = item.Block key kept
item_of key (entry.Vote kept) = item.Vote key kept

-- So many items were taken off the front of those that were left: up to the limit, or all of them.
pub record Takes (limit : ℕ) (before taken left : List JournalItem) : Type 0 where
  pub split : before ≡ taken ++ left
  pub within : length taken ≤ limit
  pub full : (length taken ≡ limit) ⊎ (left ≡ [])
