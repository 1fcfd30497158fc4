-- What a call writes into the journal, and whether that fits.
use Rattle.std.specs.Prelude.{◌≡◌, ℕ, ◌+◌, ◌-◌, ◌^◌, ◌<◌, ◌≤◌, ◌⊎◌, if◌then◌else◌, length, List, [], ◌∷◌, Option, Some, None}
use Rattle.edge_kit.specs.declared.bytes.PubKey.{PubKey}
use Rattle.slash_defs.specs.declared.message.Message.{Message}
use Rattle.protect_record.specs.Pasts.{Past}
use Rattle.interchange_io.specs.WrittenOrder.{canonical}
use Rattle.record_codec.specs.Spelling.{spelling}
use Rattle.record_codec.specs.declared.item.JournalItem.{JournalItem}
use Rattle.record_codec.specs.declared.item.JournalItem.TheVariants as item
use Rattle.record_join.specs.Repeats.{repeats}
use Rattle.record_replay.specs.Batches.{book_items, file_items, message_item, message_items}
use Rattle.record_replay.specs.Pruning.{pruning_of}
use Rattle.desk_machine.specs.States.{State, past_of}
use Rattle.desk_machine.specs.Snapshots.{snapshot_size}
use Rattle.desk_machine.specs.declared.call.DeskCall.{DeskCall}
use Rattle.desk_machine.specs.declared.call.DeskCall.TheVariants as call

-- a proposal writes its message, and a repeat nothing
abbrev pub proposal_items : Option Past → PubKey → Message → List JournalItem
proposal_items None key m = []
proposal_items (Some past) key m = if repeats past m then [] else message_item key m ∷ []

-- a prune writes the book that the past gains
abbrev pub prune_items : PubKey → Option Past → List JournalItem
prune_items key None = []
prune_items key (Some past) = book_items (key, pruning_of past)

-- the batch that a call adds to the journal where it succeeds; a file without keys adds nothing, and a compaction begins a file anew
abbrev pub written : State → DeskCall → List JournalItem
written state (call.Merge file) = file_items (canonical file).books
written state (call.Activate key now) = item.ActivateUndated key ∷ []
written state (call.Propose key m now) = proposal_items (past_of state key) key m
written state (call.Record ps now) = message_items ps
written state (call.Allow key now) = []
written state (call.Answer key epoch live now) = []
written state (call.Settle grant outcome) = []
written state (call.BeginClose key) = []
written state (call.FinishClose key) = item.Close key ∷ []
written state (call.Export keys) = []
written state (call.Prune key) = prune_items key (past_of state key)
written state call.Keys = []
written state call.HasFailed = []
written state call.Size = []
written state call.Compact = []

-- how many bytes a batch adds to the journal: its own, and 5 of its frame
abbrev pub frame_size : List JournalItem → ℕ
frame_size [] = 0
frame_size (i ∷ items) = length (spelling (i ∷ items)) + 5

-- a batch fits: it has at most 2^32 - 1 bytes, and the journal with it at most 2^40
abbrev pub HasRoomFor : ℕ → List JournalItem → Type 0
HasRoomFor size [] = Unit {0}
HasRoomFor size (i ∷ items) = (length (spelling (i ∷ items)) ≤ 2 ^ 32 - 1) × (size + (length (spelling (i ∷ items)) + 5) ≤ 2 ^ 40)

-- a batch does not fit into a journal of so many bytes, to which it would add so many
abbrev pub IsOver : ℕ → List JournalItem → ℕ → ℕ → Type 0
IsOver size [] have wanted = ⊥
IsOver size (i ∷ items) have wanted =
    (have ≡ size) × (wanted ≡ length (spelling (i ∷ items)) + 5) × ((2 ^ 32 - 1 < length (spelling (i ∷ items))) ⊎ (2 ^ 40 < size + (length (spelling (i ∷ items)) + 5)))

-- a batch is written where there is one and it fits
abbrev pub IsWritten : ℕ → List JournalItem → Type 0
IsWritten size [] = ⊥
IsWritten size (i ∷ items) = HasRoomFor size (i ∷ items)

-- ---- of a call

-- what a call writes fits
abbrev pub Fits : State → DeskCall → Type 0
Fits state call.Compact = snapshot_size state ≤ 2 ^ 40
Fits state c = HasRoomFor state.size (written state c)

-- what it writes doesn't fit into a journal of so many bytes, to which it would add so many
abbrev pub Overfills : State → DeskCall → ℕ → ℕ → Type 0
Overfills state call.Compact have wanted = (have ≡ 0) × (wanted ≡ snapshot_size state) × (2 ^ 40 < wanted)
Overfills state c have wanted = IsOver state.size (written state c) have wanted

-- it writes, and what it writes fits
abbrev pub Writes : State → DeskCall → Type 0
Writes state call.Compact = snapshot_size state ≤ 2 ^ 40
Writes state c = IsWritten state.size (written state c)
