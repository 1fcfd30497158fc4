use Rattle.std.proofs.Common.{◌≡◌, take}
use Rattle.duty_plans.specs.Ends.{results_of}
use Rattle.duty_plans.proofs.ended.results_of.Given as goal

abbrev pub invariant-ends : goal.invariant-ends
invariant-ends l = l.results.items ≡ results_of (take l.one-index l.ended)
