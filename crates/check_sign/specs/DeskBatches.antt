-- The batches of a desk's snapshot, and their payloads.
use Rattle.std.specs.Prelude.{◌≡◌, ℕ, List, flat_map, map}
use Rattle.std.specs.List.{AllByRecursion}
use Rattle.edge_kit.specs.declared.bytes.PubKey.{PubKey}
use Rattle.journal_frames.specs.Frames.{IsPayload}
use Rattle.protect_record.specs.Parts.{Parts}
use Rattle.record_codec.specs.Spelling.{spelling}
use Rattle.record_codec.specs.declared.item.JournalItem.{JournalItem}
use Rattle.record_replay.specs.declared.state.KeyState.{KeyState}
use Rattle.key_snapshot.specs.Restoring.{AreRead}
use Rattle.key_snapshot.specs.Snapshots.{snapshot_of}
use Rattle.desk_machine.specs.States.{key_state}

-- the batches that bring back each kept key, in key order: its record and its state
abbrev pub desk_batches : List (PubKey × KeyState) → List (PubKey × Parts) → List (List JournalItem)
desk_batches states keys = flat_map (λ kept. snapshot_of kept.0 (key_state states kept.0) kept.1) keys

-- the payloads of batches: each is its batch, spelled, and is read as it was meant
pub record AreSpelled (payloads : List (List ℕ)) (batches : List (List JournalItem)) : Type 0 where
  pub spelled : payloads ≡ map spelling batches
  pub read : AreRead payloads batches
  pub framed : AllByRecursion IsPayload payloads
