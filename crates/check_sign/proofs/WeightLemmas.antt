-- The weight of a desk's records, key by key, and of the state that the desk stands for.
use Rattle.std.proofs.Common.{◌≡◌, ℕ, ◌+◌, ◌-◌, ◌^◌, List, [], ◌∷◌, length, refl, sym, ◌∙◌, ap, arith}
use Rattle.std.specs.Prelude.{min, sum_by}
use Rattle.std.proofs.lemmas.List.Sums.{sum_by-cons}
use Rattle.edge_kit.specs.declared.bytes.PubKey.{PubKey}
use Rattle.protect_record.specs.Parts.{Parts}
use Rattle.protect_record.specs.Pasts.{Past}
use Rattle.protect_record.specs.Standing.{Stands}
use Rattle.record_join.specs.BooksPasts.{BooksStand}
use Rattle.record_replay.specs.Pruning.{record_of}
use Rattle.record_replay.proofs.PruningLemmas.{record_same}
use Rattle.key_snapshot.specs.Weights.{key_weight}
use Rattle.desk_machine.specs.States.{State}
use Rattle.desk_machine.specs.Snapshots.{weight_of}
use Rattle.check_sign.specs.Contents.{Contents}
use Rattle.check_sign.specs.Standing.{DeskStands}
use Rattle.desk_parts.specs.Weights.{desk_weight}

same_key_weight : (parts : Parts) (past : Past) → Stands parts past → key_weight parts ≡ key_weight (record_of past)
same_key_weight parts past stands =
    let same = record_same parts past stands in
    let blocks : length parts.blocks ≡ length (record_of past).blocks = ap length same.blocks in
    let votes : length parts.votes ≡ length (record_of past).votes = ap length same.votes in
    omega (arith, blocks, votes)

all_same : (records : List (PubKey × Parts)) (keys : List (PubKey × Past)) → BooksStand records keys → sum_by (λ kept. key_weight kept.1) records ≡ sum_by (λ kept. key_weight (record_of kept.1)) keys
all_same [] [] stand = refl
all_same [] (k ∷ keys) stand = absurd stand
all_same (r ∷ records) [] stand = absurd stand
all_same (r ∷ records) (k ∷ keys) stand =
    let weigh_past : PubKey × Past → ℕ = λ kept. key_weight (record_of kept.1) in
    let weigh_parts : PubKey × Parts → ℕ = λ kept. key_weight kept.1 in
    sum_by-cons weigh_parts r records ∙ ap (λ n. n + sum_by weigh_parts records) (same_key_weight r.1 k.1 stand.1) ∙ ap (λ n. key_weight (record_of k.1) + n) (all_same records keys stand.2) ∙ sym (sum_by-cons weigh_past k keys)

pub weight_stands : (desk : Contents) (state : State) → DeskStands desk state → desk_weight desk.keys ≡ weight_of state
unfolding weight_of
weight_stands desk state stands = ap (λ n. min (2 ^ 64 - 1) (56 + n)) (all_same desk.keys state.keys stands.keys)
