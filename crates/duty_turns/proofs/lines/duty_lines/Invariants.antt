use Rattle.std.proofs.Common.{◌≡◌, ◌++◌, drop, string_bytes}
use Rattle.duty_turns.specs.Lines.{duty_lines}
use Rattle.duty_turns.proofs.lines.duty_lines.Given as goal

abbrev pub invariant-duties : goal.invariant-duties
invariant-duties l = string_bytes l.text ++ duty_lines l.slot (drop l.i l.duties) (drop l.i l.results) ≡ duty_lines l.slot l.duties l.results
