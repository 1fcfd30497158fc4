use Rattle.std.proofs.Common.{◌≡◌, ◌++◌, drop}
use Rattle.duty_turns.specs.Standing.{indices_of}
use Rattle.duty_asks.proofs.indices.indices_of.Given as goal

abbrev pub invariant-keys : goal.invariant-keys
invariant-keys l = l.found.items ++ indices_of l.indices.entries (drop l.key-index l.keys) ≡ indices_of l.indices.entries l.keys
