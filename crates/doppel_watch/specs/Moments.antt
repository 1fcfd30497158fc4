-- Moments are epochs.
use Rattle.std.specs.Prelude.{ℕ}

-- the greatest moment: that of the greatest slot, (2 ^ 64 - 1) / 32
abbrev pub moment_limit : ℕ
moment_limit = 576460752303423487
