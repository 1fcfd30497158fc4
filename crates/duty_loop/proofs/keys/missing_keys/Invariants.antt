use Rattle.std.proofs.Common.{◌≡◌, ◌++◌, drop}
use Rattle.duty_turns.specs.Turns.{missing_keys}
use Rattle.duty_loop.proofs.keys.missing_keys.Given as goal

abbrev pub invariant-listed : goal.invariant-listed
invariant-listed l = l.keys.items ++ missing_keys l.epoch (drop l.row-index l.listed) ≡ missing_keys l.epoch l.listed
