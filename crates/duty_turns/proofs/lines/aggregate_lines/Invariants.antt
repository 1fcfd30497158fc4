use Rattle.std.proofs.Common.{◌≡◌, ◌++◌, drop, string_bytes}
use Rattle.duty_turns.specs.Lines.{aggregate_lines}
use Rattle.duty_turns.proofs.lines.aggregate_lines.Given as goal

abbrev pub invariant-choices : goal.invariant-choices
invariant-choices l = string_bytes l.text ++ aggregate_lines l.slot (drop l.i l.choices) (drop l.i l.reports) ≡ aggregate_lines l.slot l.choices l.reports
