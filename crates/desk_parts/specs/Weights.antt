-- What a compaction would leave of a desk's records, at most.
use Rattle.std.specs.Prelude.{ℕ, ◌+◌, ◌-◌, ◌^◌, List, min, sum_by}
use Rattle.edge_kit.specs.declared.bytes.PubKey.{PubKey}
use Rattle.protect_record.specs.Parts.{Parts}
use Rattle.key_snapshot.specs.Weights.{key_weight}

-- in bytes: 56 of a file's header and its generation's frame, and the weight of each kept key's record; or 2^64 - 1 where that is less
abbrev pub desk_weight : List (PubKey × Parts) → ℕ
desk_weight keys = min (2 ^ 64 - 1) (56 + sum_by (λ kept. key_weight kept.1) keys)
