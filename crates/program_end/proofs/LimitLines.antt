-- The line of each limit, with its number spelled out.
use Rattle.std.proofs.Common.{◌≡◌, refl}
use Rattle.std.specs.Prelude.{codes}
use Rattle.std.specs.Fmt.{digits}
use Rattle.program_end.specs.Closing.{closing_text}
use Rattle.program_end.specs.declared.closing.ClosingLine.TheVariants as closing
use Rattle.program_end.specs.declared.limit.Limit.TheVariants as limit

pub of_lines : codes "validator: input too long: limit 16777216\n" ≡ closing_text (closing.TooLong limit.Line)
unfolding closing_text digits
of_lines = refl

pub of_inputs : codes "validator: input too long: limit 18446744073709551615\n" ≡ closing_text (closing.TooLong limit.Input)
unfolding closing_text digits
of_inputs = refl

pub of_files : codes "validator: input too long: limit 268435456\n" ≡ closing_text (closing.TooLong limit.File)
unfolding closing_text digits
of_files = refl

pub of_keys : codes "validator: input too long: limit 65536\n" ≡ closing_text (closing.TooLong limit.Keys)
unfolding closing_text digits
of_keys = refl
