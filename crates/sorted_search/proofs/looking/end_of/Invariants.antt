use Rattle.std.proofs.Common.{◌≡◌, ℕ, ◌+◌, ◌-◌, ◌<◌, ◌≤◌, get_or}
use Rattle.sorted_search.proofs.looking.end_of.Given as goal

abbrev pub invariant-loop-at : goal.invariant-loop-at
invariant-loop-at g l = record {
  inside : (k : ℕ) (d : g.row.T.Denot) → l.start ≤ k → k < l.at → g.T.Numbered.number_of (get_or l.list k d) ≡ l.number;
  count : l.steps ≡ l.fn.steps + (l.at - l.start);
}
