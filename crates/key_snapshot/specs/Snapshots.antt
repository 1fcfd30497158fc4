-- The batches of a key's snapshot.
use Rattle.std.specs.Prelude.{List, [], ◌∷◌, ◌++◌, map, flat_map}
use Rattle.edge_kit.specs.declared.bytes.PubKey.{PubKey}
use Rattle.protect_record.specs.Parts.{Parts}
use Rattle.record_codec.specs.declared.item.JournalItem.{JournalItem}
use Rattle.record_codec.specs.declared.item.JournalItem.TheVariants as item
use Rattle.record_replay.specs.Batches.{floors_item}
use Rattle.record_replay.specs.declared.state.KeyState.{KeyState}
use Rattle.record_replay.specs.declared.state.KeyState.TheVariants.{Known, Active, Closing, Closed}
use Rattle.key_snapshot.specs.Cuts.{cut}

-- the kept entries of a key in file order, its blocks and then its votes
abbrev pub entry_items : PubKey → Parts → List JournalItem
entry_items key parts = map (item.Block key) parts.blocks ++ map (item.Vote key) parts.votes

-- what says the state of a key, alone in its batch: that it is closing does not outlast a stop
abbrev pub state_batches : PubKey → KeyState → List (List JournalItem)
state_batches key Known = []
state_batches key Active = (item.ActivateUndated key ∷ []) ∷ []
state_batches key Closing = (item.ActivateUndated key ∷ []) ∷ []
state_batches key Closed = (item.Close key ∷ []) ∷ []

-- the entries in batches of 4,096, the last with the rest; the record's floors, so that the key is named; its state
abbrev pub snapshot_of : PubKey → KeyState → Parts → List (List JournalItem)
snapshot_of key state parts = cut 4096 (entry_items key parts) ++ (floors_item key parts.floors ∷ []) ∷ state_batches key state

-- the items of batches, one after another
abbrev pub items_of : List (List JournalItem) → List JournalItem
items_of batches = flat_map (λ batch. batch) batches
