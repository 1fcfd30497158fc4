-- The limits of what is read.
use Rattle.std.specs.Prelude.{ℕ, ◌^◌, ◌-◌}
use Rattle.interchange_io.specs.Reading.{file_limit}
use Rattle.program_end.specs.declared.limit.Limit.{Limit}
use Rattle.program_end.specs.declared.limit.Limit.TheVariants as limit

-- how many bytes a line may have, without its newline
abbrev pub line_limit : ℕ
line_limit = 16777216

-- how many bytes end an input
abbrev pub input_limit : ℕ
input_limit = 2 ^ 64 - 1

-- how many keys a journal may name
abbrev pub key_limit : ℕ
key_limit = 65536

abbrev pub limit_number : Limit → ℕ
limit_number limit.Line = line_limit
limit_number limit.Input = input_limit
limit_number limit.File = file_limit
limit_number limit.Keys = key_limit
