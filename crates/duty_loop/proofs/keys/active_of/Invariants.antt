use Rattle.std.proofs.Common.{◌≡◌, ◌++◌, drop}
use Rattle.duty_turns.specs.Turns.{active_of}
use Rattle.duty_loop.proofs.keys.active_of.Given as goal

abbrev pub invariant-listed : goal.invariant-listed
invariant-listed l = l.active.items ++ active_of (drop l.key-index l.listed) ≡ active_of l.listed
