use Rattle.std.proofs.Common.{string_bytes}
use Rattle.std.specs.Str.Iter.{LacksByte}
use Rattle.validator_cli.proofs.usage.usage_line.Given as goal

abbrev pub invariant-words : goal.invariant-words
invariant-words l = LacksByte 10 (string_bytes l.line)
