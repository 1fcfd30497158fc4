-- What the items of a journal say of each key.
use Rattle.std.specs.Prelude.{ℕ, List, [], ◌∷◌, map, flat_map, fold, Result, Ok, Err, if◌then◌else◌}
use Rattle.std.specs.BTreeMap.{is_at}
use Rattle.std.specs.BTreeSet.{insert_key}
use Rattle.edge_kit.specs.declared.bytes.PubKey.{PubKey}
use Rattle.slash_defs.specs.declared.entry.BlockEntry.{BlockEntry}
use Rattle.slash_defs.specs.declared.entry.VoteEntry.{VoteEntry}
use Rattle.protect_record.specs.declared.floors.Floors.{Floors}
use Rattle.protect_record.specs.Parts.{no_floors}
use Rattle.protect_record.specs.Floors.{greater_floors}
use Rattle.record_codec.specs.declared.item.JournalItem.{JournalItem}
use Rattle.record_codec.specs.declared.item.JournalItem.TheVariants as item
use Rattle.record_codec.specs.declared.version.JournalVersion.{JournalVersion}
use Rattle.record_codec.specs.Reading.{batch_of}
use Rattle.record_join.specs.Keys.{key_cmp, with_key}
use Rattle.record_replay.specs.declared.state.KeyState.{KeyState}
use Rattle.record_replay.specs.declared.state.KeyState.TheVariants.{Active, Closed}

-- the items of a payload; none where it can't be read
abbrev pub items_or_none : Result (List JournalItem) ℕ → List JournalItem
items_or_none (Ok items) = items
items_or_none (Err offset) = []

-- the items of payloads of a file of this version, in order
abbrev pub items_in : JournalVersion → List (List ℕ) → List JournalItem
items_in version payloads = flat_map (λ payload. items_or_none (batch_of version payload)) payloads

-- the key that an item names
abbrev pub key_of : JournalItem → PubKey
key_of (item.Block key entry) = key
key_of (item.Vote key entry) = key
key_of (item.Floors key block vote) = key
key_of (item.ActivateUndated key) = key
key_of (item.Activate key epoch) = key
key_of (item.Answer key epoch live moment) = key
key_of (item.Close key) = key

-- the keys that are named, in key order, each once
abbrev pub named_keys : List JournalItem → List PubKey
named_keys items = fold (insert_key key_cmp) [] (map key_of items)

-- what an item adds to the blocks, to the votes and to the floors of a key
abbrev pub blocks_of : PubKey → JournalItem → List BlockEntry
blocks_of key (item.Block k entry) = if is_at (key_cmp key) k then entry ∷ [] else []
blocks_of key other = []

abbrev pub votes_of : PubKey → JournalItem → List VoteEntry
votes_of key (item.Vote k entry) = if is_at (key_cmp key) k then entry ∷ [] else []
votes_of key other = []

abbrev pub floors_of_item : PubKey → JournalItem → Floors
floors_of_item key (item.Floors k block vote) = if is_at (key_cmp key) k then record { block = block; vote = vote } else no_floors
floors_of_item key other = no_floors

-- all blocks and votes that the items give a key
abbrev pub blocks_in : List JournalItem → PubKey → List BlockEntry
blocks_in items key = flat_map (blocks_of key) items

abbrev pub votes_in : List JournalItem → PubKey → List VoteEntry
votes_in items key = flat_map (votes_of key) items

-- the greatest of each floor that the items give a key
abbrev pub floors_in : List JournalItem → PubKey → Floors
floors_in items key = fold greater_floors no_floors (map (floors_of_item key) items)

-- a key that was activated is active, and one that was closed is closed
abbrev pub with_state : List (PubKey × KeyState) → JournalItem → List (PubKey × KeyState)
with_state states (item.ActivateUndated key) = with_key states key Active
with_state states (item.Activate key epoch) = with_key states key Active
with_state states (item.Close key) = with_key states key Closed
with_state states other = states

-- the keys that were activated or closed, in key order, each as the last of its items says
abbrev pub states_in : List JournalItem → List (PubKey × KeyState)
states_in items = fold with_state [] items
