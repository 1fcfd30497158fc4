-- What is gathered of each key, item by item.
use Rattle.std.specs.Prelude.{◌≡◌, List, [], ◌∷◌, ◌++◌, Option, None, Some}
use Rattle.std.specs.Map.{keys_of}
use Rattle.edge_kit.specs.declared.bytes.PubKey.{PubKey}
use Rattle.slash_defs.specs.declared.entry.BlockEntry.{BlockEntry}
use Rattle.slash_defs.specs.declared.entry.VoteEntry.{VoteEntry}
use Rattle.slash_defs.specs.FileOrder.{block_cmp, vote_cmp}
use Rattle.protect_record.specs.declared.floors.Floors.{Floors}
use Rattle.protect_record.specs.Parts.{Parts, no_floors}
use Rattle.protect_record.specs.Floors.{greater_floors, IsDeadBlock, IsDeadVote}
use Rattle.protect_record.specs.Gathering.{HasDropped}
use Rattle.doppel_watch.specs.declared.watch.Watch.{Watch}
use Rattle.record_codec.specs.declared.item.JournalItem.{JournalItem}
use Rattle.record_codec.specs.declared.item.JournalItem.TheVariants as item
use Rattle.record_join.specs.Keys.{kept_of, with_key}
use Rattle.record_replay.specs.Items.{key_of, named_keys, blocks_in, votes_in, floors_in, states_in}
use Rattle.record_replay.specs.Watches.{AreWatchesOf, watches_in}
use Rattle.record_replay.specs.declared.state.KeyState.{KeyState}

-- what items say of one key: the greatest of each floor, and the blocks and votes
pub record Gains : Type 0 where
  pub floors : Floors
  pub blocks : List BlockEntry
  pub votes : List VoteEntry

-- nothing is said
abbrev pub no_gains : Gains
no_gains = record { floors = no_floors; blocks = []; votes = [] }

-- with what one more item says of its key
abbrev pub with_gain : Gains → JournalItem → Gains
with_gain gains (item.Block key entry) = record { floors = gains.floors; blocks = gains.blocks ++ entry ∷ []; votes = gains.votes }
with_gain gains (item.Vote key entry) = record { floors = gains.floors; blocks = gains.blocks; votes = gains.votes ++ entry ∷ [] }
with_gain gains (item.Floors key block vote) = record { floors = greater_floors gains.floors (record { block = block; vote = vote }); blocks = gains.blocks; votes = gains.votes }
with_gain gains (item.ActivateUndated key) = gains
with_gain gains (item.Activate key epoch) = gains
with_gain gains (item.Answer key epoch live moment) = gains
with_gain gains (item.Close key) = gains

-- what all of these items say of a key
abbrev pub gains_in : List JournalItem → PubKey → Gains
gains_in items key = record { floors = floors_in items key; blocks = blocks_in items key; votes = votes_in items key }

-- of a key of which nothing is kept nothing was said
abbrev pub known_gains : Option Gains → Gains
known_gains None = no_gains
known_gains (Some gains) = gains

-- with what one more item says, which may be the first of its key
abbrev pub with_item : List (PubKey × Gains) → JournalItem → List (PubKey × Gains)
with_item kept one = with_key kept (key_of one) (with_gain (known_gains (kept_of kept (key_of one))) one)

-- the keys that the items name are kept, each with what they say of it; so are the states and the watches
pub record IsGathered (items : List JournalItem) (kept : List (PubKey × Gains)) (states : List (PubKey × KeyState)) (watches : List (PubKey × Watch)) : Type 0 where
  pub named : keys_of kept ≡ named_keys items
  pub each : (key : PubKey) → known_gains (kept_of kept key) ≡ gains_in items key
  pub stated : states ≡ states_in items
  pub watched : AreWatchesOf watches (watches_in items)

-- a record keeps what was gathered: its floors, and the entries that still count
pub record IsRecordOf (gains : Gains) (parts : Parts) : Type 0 where
  pub floors : parts.floors ≡ gains.floors
  pub blocks : HasDropped block_cmp (IsDeadBlock parts.floors) gains.blocks parts.blocks
  pub votes : HasDropped vote_cmp (IsDeadVote parts.floors) gains.votes parts.votes
