use Rattle.std.proofs.Common.{◌≡◌, ℕ, ◌<◌, ◌≤◌, min, length, get_or, vec_len, vec_capacity}
use Rattle.sorted_search.proofs.raising.lower_before.Given as goal

abbrev pub invariant-loop-at : goal.invariant-loop-at
invariant-loop-at l = record {
  within : l.at ≤ l.place;
  len : length l.list.items ≡ length l.fn.list.items;
  count : vec_len l.list ≡ vec_len l.fn.list;
  capacity : vec_capacity l.fn.list ≤ vec_capacity l.list;
  behind : (k : ℕ) (d : ℕ) → l.place ≤ k → get_or l.list.items k d ≡ get_or l.fn.list.items k d;
  lowered : (k : ℕ) (d : ℕ) → l.at ≤ k → k < l.place → get_or l.list.items k d ≡ min l.bound (get_or l.fn.list.items k d);
  rest : (k : ℕ) (d : ℕ) → k < l.at → get_or l.list.items k d ≡ get_or l.fn.list.items k d;
}

abbrev pub decreases-loop-at : goal.decreases-loop-at
decreases-loop-at l = l.at
