use Rattle.std.proofs.Common.{◌-◌, ℕ, ◌*◌, ◌^◌, ◌<◌, ◌≤◌, max, length, get_or}
use Rattle.sorted_search.proofs.looking.place_of.Given as goal

abbrev pub invariant-loop-low : goal.invariant-loop-low
invariant-loop-low g l = record {
  in_order : l.low ≤ l.high;
  within : l.high ≤ length l.list;
  before : (k : ℕ) (d : g.row.T.Denot) → k < l.low → g.T.Numbered.number_of (get_or l.list k d) < l.number;
  behind : (k : ℕ) (d : g.row.T.Denot) → l.high ≤ k → k < length l.list → l.number ≤ g.T.Numbered.number_of (get_or l.list k d);
  counts : l.fn.steps ≤ l.steps;
  halved : 2 ^ (l.steps - l.fn.steps) * (l.high - l.low) ≤ length l.list;
  few : 2 ^ (l.steps - l.fn.steps) ≤ max 1 (2 * length l.list);
}

abbrev pub decreases-loop-low : goal.decreases-loop-low
decreases-loop-low g l = l.high - l.low
