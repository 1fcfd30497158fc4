-- The file that a compaction writes of a state has no more bytes than the state's weight.
use Rattle.std.proofs.Common.{◌≡◌, ℕ, ◌^◌, ◌<◌, ◌≤◌, List, [], ◌∷◌, ◌++◌, map, refl, ap, arith}
use Rattle.std.specs.Prelude.{flat_map, sum_by}
use Rattle.std.specs.List.{AllByRecursion}
use Rattle.std.proofs.lemmas.List.Sums.{sum_by-cons}
use Rattle.edge_kit.specs.declared.bytes.PubKey.{PubKey}
use Rattle.protect_record.specs.Parts.{Parts}
use Rattle.protect_record.specs.Pasts.{Past}
use Rattle.record_codec.specs.declared.item.JournalItem.{JournalItem}
use Rattle.record_replay.specs.Pruning.{record_of}
use Rattle.record_replay.specs.declared.state.KeyState.{KeyState}
use Rattle.key_snapshot.specs.Snapshots.{snapshot_of}
use Rattle.key_snapshot.specs.Weights.{IsSized, framed_size, key_weight}
use Rattle.desk_machine.specs.States.{State, key_state}
use Rattle.desk_machine.specs.Snapshots.{snapshot_batches, snapshot_size, weight_of}

-- each key with the record of its past
records : List (PubKey × Past) → List (PubKey × Parts)
records keys = map (λ kept. (kept.0, record_of kept.1)) keys

batches_of : (PubKey → KeyState) → List (PubKey × Parts) → List (List JournalItem)
batches_of state_of keys = flat_map (λ kept. snapshot_of kept.0 (state_of kept.0) kept.1) keys

same_batches : (state_of : PubKey → KeyState) (keys : List (PubKey × Past)) → batches_of state_of (records keys) ≡ flat_map (λ kept. snapshot_of kept.0 (state_of kept.0) (record_of kept.1)) keys
unfolding records batches_of
same_batches state_of [] = refl
same_batches state_of (k ∷ keys) = ap (λ more. snapshot_of k.0 (state_of k.0) (record_of k.1) ++ more) (same_batches state_of keys)

same_weight : (keys : List (PubKey × Past)) → sum_by (λ kept. key_weight kept.1) (records keys) ≡ sum_by (λ kept. key_weight (record_of kept.1)) keys
unfolding records
same_weight [] = refl
same_weight (k ∷ keys) =
    let weigh : PubKey × Parts → ℕ = λ kept. key_weight kept.1 in
    let weigh_past : PubKey × Past → ℕ = λ kept. key_weight (record_of kept.1) in
    omega (arith, sum_by-cons weigh (k.0, record_of k.1) (records keys), sum_by-cons weigh_past k keys, same_weight keys)

all_sized : (keys : List (PubKey × Past)) → AllByRecursion (λ kept. IsSized kept.0 (record_of kept.1)) keys → AllByRecursion (λ kept. IsSized kept.0 kept.1) (records keys)
unfolding records
all_sized [] sized = tt
all_sized (k ∷ keys) sized = (sized.0, all_sized keys sized.1)

-- snapshots of keys take no more than the keys' records weigh
abbrev Weighs : Type 0
Weighs = (state_of : PubKey → KeyState) (keys : List (PubKey × Parts)) → AllByRecursion (λ kept. IsSized kept.0 kept.1) keys
    → framed_size (flat_map (λ kept. snapshot_of kept.0 (state_of kept.0) kept.1) keys) ≤ sum_by (λ kept. key_weight kept.1) keys

pub state_weighs : Weighs → (state : State) → AllByRecursion (λ kept. IsSized kept.0 (record_of kept.1)) state.keys → snapshot_size state < 2 ^ 64 → snapshot_size state ≤ weight_of state
unfolding batches_of snapshot_size weight_of
state_weighs weighs state sized short =
    let same : framed_size (batches_of (key_state state.states) (records state.keys)) ≡ framed_size (snapshot_batches state) = ap (λ b. framed_size b) (same_batches (key_state state.states) state.keys) in
    omega (arith, short, same, same_weight state.keys, weighs (key_state state.states) (records state.keys) (all_sized state.keys sized))
