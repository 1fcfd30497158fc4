use Rattle.std.proofs.Common.{◌≡◌, ℕ, ◌-◌, ◌^◌, ◌<◌, ◌≤◌, ◌⊎◌, length, get_or, vec_len, vec_capacity}
use Rattle.sorted_search.specs.Sources.{IsLeastFrom}
use Rattle.sorted_search.proofs.sources.fill_least.Given as goal

abbrev pub invariant-loop-at : goal.invariant-loop-at
invariant-loop-at l = record {
  within : l.at ≤ length l.votes;
  len : length l.list.items ≡ length l.votes;
  count : vec_len l.list ≡ length l.votes;
  capacity : vec_capacity l.fn.list ≤ vec_capacity l.list;
  each : (k : ℕ) (d : ℕ) → l.at ≤ k → k < length l.votes → IsLeastFrom l.votes k (get_or l.list.items k d);
  last : ((l.at ≡ length l.votes) × (l.least ≡ 2 ^ 64 - 1)) ⊎ IsLeastFrom l.votes l.at l.least;
}

abbrev pub decreases-loop-at : goal.decreases-loop-at
decreases-loop-at l = l.at
