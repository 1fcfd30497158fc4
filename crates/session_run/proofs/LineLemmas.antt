-- The front of one line is one line.
use Rattle.std.proofs.Common.{ℕ, ◌+◌, ◌<◌, ◌≤◌, List, length, take, sym, ◌∙◌, arith, length-take}
use Rattle.std.proofs.lemmas.List.{get_or-take, length-take-le, take_all}
use Rattle.program_end.specs.Limits.{line_limit}
use Rattle.session_run.specs.Lines.{IsOneLine, BeginsTooLong}

front_of_line : (bytes : List ℕ) (m n : ℕ) → m ≤ n → n ≤ length bytes → IsOneLine (take n bytes) → IsOneLine (take m bytes)
front_of_line bytes m n le within h k lt e =
    let below : k < m = omega (arith, length-take {A = ℕ}) in
    h k (omega (arith, length-take-le n bytes within)) (get_or-take n bytes k 0 (omega arith) ∙ sym (get_or-take m bytes k 0 below) ∙ e)

pub too_long : (bytes : List ℕ) (n : ℕ) → line_limit < n → n ≤ length bytes → IsOneLine (take n bytes) → BeginsTooLong bytes
too_long bytes n over within h = (omega arith, front_of_line bytes (line_limit + 1) n (omega arith) within h)

pub too_long_whole : (bytes : List ℕ) → line_limit < length bytes → IsOneLine bytes → BeginsTooLong bytes
too_long_whole bytes over h = too_long bytes (length bytes) over (omega arith) (rw (take_all (length bytes) bytes (omega arith)) h)
