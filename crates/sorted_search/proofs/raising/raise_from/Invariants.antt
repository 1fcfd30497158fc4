use Rattle.std.proofs.Common.{◌≡◌, ℕ, ◌<◌, ◌≤◌, max, length, get_or, vec_len, vec_capacity}
use Rattle.sorted_search.proofs.raising.raise_from.Given as goal

abbrev pub invariant-loop-at : goal.invariant-loop-at
invariant-loop-at l = record {
  len : length l.list.items ≡ length l.fn.list.items;
  count : vec_len l.list ≡ vec_len l.fn.list;
  capacity : vec_capacity l.fn.list ≤ vec_capacity l.list;
  before : (k : ℕ) (d : ℕ) → k < l.place → get_or l.list.items k d ≡ get_or l.fn.list.items k d;
  raised : (k : ℕ) (d : ℕ) → l.place ≤ k → k < l.at → get_or l.list.items k d ≡ max l.bound (get_or l.fn.list.items k d);
  rest : (k : ℕ) (d : ℕ) → l.at ≤ k → get_or l.list.items k d ≡ get_or l.fn.list.items k d;
}
