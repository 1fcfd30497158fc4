-- The weight of records, key by key.
use Rattle.std.proofs.Common.{◌≡◌, ℕ, ◌+◌, ◌-◌, ◌^◌, ◌<◌, List, length, get_or, take, ◌∙◌, ap, arith}
use Rattle.std.specs.Prelude.{min, sum_by}
use Rattle.std.proofs.lemmas.List.Sums.{sum_by_more}
use Rattle.edge_kit.specs.declared.bytes.PubKey.{PubKey}
use Rattle.protect_record.specs.Parts.{Parts}
use Rattle.key_snapshot.specs.Weights.{key_weight}
use Rattle.desk_parts.specs.Weights.{desk_weight}

weigh : PubKey × Parts → ℕ
weigh kept = key_weight kept.1

-- one key more is weighed
pub weight_more : (keys : List (PubKey × Parts)) (k : ℕ) (x : PubKey × Parts) (weight one : ℕ) → k < length keys → get_or keys k x ≡ x → weight ≡ desk_weight (take k keys) → one ≡ min (2 ^ 64 - 1) (key_weight x.1)
    → min (weight + one) (2 ^ 64 - 1) ≡ desk_weight (take (k + 1) keys)
unfolding weigh
weight_more keys k x weight one lt is so_far weighed =
    let more : sum_by weigh (take (k + 1) keys) ≡ sum_by weigh (take k keys) + weigh x = sum_by_more weigh keys k x lt ∙ ap (λ y. sum_by weigh (take k keys) + weigh y) is in
    omega (arith, so_far, weighed, more)
