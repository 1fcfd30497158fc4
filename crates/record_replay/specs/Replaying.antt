-- What items make of the keys that they name, and which pasts they stand for.
use Rattle.std.specs.Prelude.{◌≡◌, ◌↔◌, ◌<◌, List, map, length, Contains, Some, is_some, if◌then◌else◌}
use Rattle.std.specs.Map.{keys_of}
use Rattle.edge_kit.specs.declared.bytes.PubKey.{PubKey}
use Rattle.slash_defs.specs.declared.entry.BlockEntry.{BlockEntry}
use Rattle.slash_defs.specs.declared.entry.VoteEntry.{VoteEntry}
use Rattle.slash_defs.specs.FileOrder.{block_cmp, vote_cmp}
use Rattle.protect_record.specs.Parts.{Parts}
use Rattle.protect_record.specs.Pasts.{Past, no_past, IsPastBlock, IsPastVote}
use Rattle.protect_record.specs.Floors.{floors_of, IsDeadBlock, IsDeadVote}
use Rattle.protect_record.specs.Gathering.{HasDropped}
use Rattle.record_codec.specs.declared.item.JournalItem.{JournalItem}
use Rattle.record_join.specs.Keys.{kept_of, with_key}
use Rattle.record_join.specs.BooksPasts.{key_limit}
use Rattle.record_replay.specs.Items.{named_keys, blocks_in, votes_in, floors_in, states_in}
use Rattle.record_replay.specs.Watches.{Watched, watches_in}
use Rattle.record_replay.specs.declared.fault.ReplayFault.{ReplayFault}
use Rattle.record_replay.specs.declared.fault.ReplayFault.TheVariants as fault
use Rattle.record_replay.specs.declared.state.KeyState.{KeyState}
use Rattle.record_replay.specs.declared.state.KeyState.TheVariants.{Known, Active, Closing, Closed}

-- a record keeps what the items say of its key: the greatest of each floor, and the entries that still count, each once,
-- in file order
pub record IsReplayed (items : List JournalItem) (key : PubKey) (parts : Parts) : Type 0 where
  pub floors : parts.floors ≡ floors_in items key
  pub blocks : HasDropped block_cmp (IsDeadBlock parts.floors) (blocks_in items key) parts.blocks
  pub votes : HasDropped vote_cmp (IsDeadVote parts.floors) (votes_in items key) parts.votes

-- there are more keys than may be kept; how many they are
abbrev pub IsReplayFault : List JournalItem → ReplayFault → Type 0
IsReplayFault items (fault.TooManyKeys have new) = (have ≡ 0) × (new ≡ length (named_keys items)) × (key_limit < new)
IsReplayFault items fault.OutOfMemory = Unit {0}

-- the items stand for the past of a key: they have its floors, and its entries that still count
pub record KeyStands (items : List JournalItem) (key : PubKey) (past : Past) : Type 0 where
  pub floors : floors_in items key ≡ floors_of past.books
  pub blocks : (e : BlockEntry) → ¬ (IsDeadBlock (floors_in items key) e) → (Contains (blocks_in items key) e ↔ IsPastBlock past e)
  pub votes : (e : VoteEntry) → ¬ (IsDeadVote (floors_in items key) e) → (Contains (votes_in items key) e ↔ IsPastVote past e)

-- what outlasts a stop of a key's state: that it is closing does not
abbrev pub lasting_state : KeyState → KeyState
lasting_state Known = Known
lasting_state Active = Active
lasting_state Closing = Active
lasting_state Closed = Closed

abbrev pub lasting_states : List (PubKey × KeyState) → List (PubKey × KeyState)
lasting_states states = map (λ s. (s.0, lasting_state s.1)) states

-- the items stand for the pasts of just the keys that they name, and for these states and watches
pub record ItemsStand (items : List JournalItem) (keys : List (PubKey × Past)) (held : List (PubKey × KeyState)) (watched : List (PubKey × Watched)) : Type 0 where
  pub named : keys_of keys ≡ named_keys items
  pub each : (key : PubKey) (past : Past) → kept_of keys key ≡ Some past → KeyStands items key past
  pub states : states_in items ≡ lasting_states held
  pub watches : watches_in items ≡ watched

-- the key is kept, a new one with the empty past
abbrev pub with_known : List (PubKey × Past) → PubKey → List (PubKey × Past)
with_known keys key = if is_some (kept_of keys key) then keys else with_key keys key no_past
