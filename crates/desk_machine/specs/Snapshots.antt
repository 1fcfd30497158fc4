-- The file that a compaction writes of a state.
use Rattle.std.specs.Prelude.{ℕ, ◌+◌, ◌-◌, ◌^◌, List, flat_map, length, map, min, sum, sum_by}
use Rattle.record_codec.specs.Spelling.{spelling}
use Rattle.record_codec.specs.declared.item.JournalItem.{JournalItem}
use Rattle.record_replay.specs.Pruning.{record_of}
use Rattle.key_snapshot.specs.Snapshots.{snapshot_of}
use Rattle.key_snapshot.specs.Weights.{key_weight}
use Rattle.desk_machine.specs.States.{State, key_state}

-- the batches of each kept key, in key order
abbrev pub snapshot_batches : State → List (List JournalItem)
snapshot_batches state = flat_map (λ kept. snapshot_of kept.0 (key_state state.states kept.0) (record_of kept.1)) state.keys

-- the size in bytes of the file: 42 of its header, 14 of its generation's frame, and of each batch its own and 5 of its frame
unfoldable pub snapshot_size : State → ℕ
snapshot_size state = 56 + sum (map (λ batch. length (spelling batch) + 5) (snapshot_batches state))

-- at most how many bytes the file has, by counts alone, or 2^64 - 1 where that is less: 56 of its header and its generation's frame,
-- and the weight of each kept key's record
unfoldable pub weight_of : State → ℕ
weight_of state = min (2 ^ 64 - 1) (56 + sum_by (λ kept. key_weight (record_of kept.1)) state.keys)
