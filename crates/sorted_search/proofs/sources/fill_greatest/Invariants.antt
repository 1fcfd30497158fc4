use Rattle.std.proofs.Common.{◌≡◌, ℕ, ◌-◌, ◌<◌, ◌≤◌, ◌⊎◌, length, get_or, vec_len, vec_capacity}
use Rattle.sorted_search.specs.Sources.{IsGreatestTo}
use Rattle.sorted_search.proofs.sources.fill_greatest.Given as goal

abbrev pub invariant-loop-entry : goal.invariant-loop-entry
invariant-loop-entry l = record {
  len : length l.list.items ≡ l.entry-index;
  count : vec_len l.list ≡ l.entry-index;
  room : length l.votes ≤ vec_capacity l.list;
  capacity : vec_capacity l.fn.list ≤ vec_capacity l.list;
  each : (k : ℕ) (d : ℕ) → k < l.entry-index → IsGreatestTo l.votes k (get_or l.list.items k d);
  last : ((l.entry-index ≡ 0) × (l.greatest ≡ 0)) ⊎ IsGreatestTo l.votes (l.entry-index - 1) l.greatest;
}
