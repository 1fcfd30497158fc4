use Rattle.std.proofs.Common.{◌≡◌, ◌≤◌, ◌++◌, drop}
use Rattle.duty_plans.specs.Choices.{reports}
use Rattle.duty_plans.proofs.choices.reports.Given as goal

abbrev pub invariant-choices : goal.invariant-choices
invariant-choices l = record {
  within : l.at ≤ l.one-index;
  so_far : l.found.items ++ reports (drop l.one-index l.choices) (drop l.at l.aggregates) ≡ reports l.choices l.aggregates;
}
