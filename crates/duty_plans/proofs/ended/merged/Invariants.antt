use Rattle.std.proofs.Common.{◌≡◌, ◌≤◌, ◌++◌, drop}
use Rattle.duty_plans.specs.Ends.{merged}
use Rattle.duty_plans.proofs.ended.merged.Given as goal

abbrev pub invariant-ends : goal.invariant-ends
invariant-ends l = record {
  within : l.at ≤ l.one-index;
  so_far : l.results.items ++ merged (drop l.one-index l.ended) (drop l.at l.again) ≡ merged l.ended l.again;
}
