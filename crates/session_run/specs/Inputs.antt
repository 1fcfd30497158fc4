-- What was read of an input.
use Rattle.std.specs.Prelude.{◌≡◌, ℕ, ◌+◌, ◌<◌, ◌≤◌, ◌==◌, ◌⊎◌, List, [], ◌∷◌, ◌++◌, length, flat_map, map, if◌then◌else◌, Option, Some, None, min}
use Rattle.std.specs.Io.KnownBytes.{Consumes, IsAtEnd}
use Rattle.program_end.specs.Limits.{line_limit, input_limit}
use Rattle.program_end.specs.declared.limit.Limit.{Limit}
use Rattle.program_end.specs.declared.limit.Limit.TheVariants as limit
use Rattle.session_run.specs.Lines.{lines_of, IsShortLine, BeginsTooLong}
use Rattle.session_run.specs.Reading.{piece_size}
use Rattle.session_run.specs.Turns.{Turn, line_of}

-- The turns are the lines that ended in what was read; what is pending goes on.
abbrev pub HasLines : List ℕ → List Turn → List ℕ → Type 0
HasLines read turns pending = (tail : List ℕ) → lines_of (read ++ tail) ≡ map line_of turns ++ lines_of (pending ++ tail)

-- each line is within the limit
abbrev pub AreShort : List (List ℕ) → Type 0
AreShort [] = Unit {0}
AreShort (line ∷ lines) = IsShortLine line × AreShort lines

-- the lines of what stands after the last newline
abbrev pub last_lines : List ℕ → List (List ℕ)
last_lines line = if length line == 0 then [] else line ∷ []

-- the lines of the turns, each with the newline that ended it
abbrev pub ended_line : Turn → List ℕ
ended_line t = t.line ++ 10 ∷ []

abbrev pub ended_lines : List Turn → List ℕ
ended_lines ts = flat_map ended_line ts

-- So much was read: the lines of the turns, and what is pending, which is at most as long as a line may be, and one piece more.
pub record HasRead (left_before left_now : Option (List ℕ)) (turns : List Turn) (pending : List ℕ) (total : ℕ) : Type 0 where
  pub read : List ℕ
  pub taken : Consumes left_before left_now read
  pub lines : HasLines read turns pending
  pub short : AreShort (map line_of turns)
  pub count : total ≡ min (length read) input_limit
  pub parts : read ≡ ended_lines turns ++ pending
  pub ahead : length pending ≤ line_limit + piece_size

-- the whole input was read, within the limits, and the turns are its lines
pub record ReadsWhole (left_before left_now : Option (List ℕ)) (turns : List Turn) : Type 0 where
  pub read : List ℕ
  pub taken : Consumes left_before left_now read
  pub at_end : IsAtEnd left_now
  pub lines : lines_of read ≡ map line_of turns
  pub short : AreShort (map line_of turns)
  pub within : length read < input_limit
  pub ahead : length read ≤ length (ended_lines turns)

-- the lines of the turns are the first of these bytes, however they go on
abbrev pub BeginWith : List ℕ → List Turn → Type 0
BeginWith read turns = (tail : List ℕ) → (rest : List (List ℕ)) × (lines_of (read ++ tail) ≡ map line_of turns ++ rest)

-- The turns are the first lines of what was read, each whole: it ended in what was read, or the input did. At most one piece more was read.
pub record ReadsFirst (left_before left_now : Option (List ℕ)) (turns : List Turn) : Type 0 where
  pub read : List ℕ
  pub taken : Consumes left_before left_now read
  pub lines : BeginWith read turns ⊎ (IsAtEnd left_now × (lines_of read ≡ map line_of turns))
  pub short : AreShort (map line_of turns)
  pub ahead : length read ≤ length (ended_lines turns) + piece_size

-- the first line of these bytes, whole: a newline ended it, or the input did
abbrev pub IsNext : Option (List ℕ) → List ℕ → List ℕ → Type 0
IsNext left bytes line = IsShortLine line × (((bytes ≡ line) × IsAtEnd left × (0 < length line)) ⊎ ((rest : List ℕ) × (bytes ≡ line ++ 10 ∷ rest)))

-- why reading stopped
abbrev pub StoppedShort : List ℕ → ℕ → Type 0
StoppedShort pending total = IsShortLine pending × (total < input_limit)

abbrev pub PassesLimit : Limit → List ℕ → ℕ → Type 0
PassesLimit limit.Line pending total = BeginsTooLong pending
PassesLimit limit.Input pending total = total ≡ input_limit
PassesLimit limit.File pending total = ⊥
PassesLimit limit.Keys pending total = ⊥

-- reading stopped after the lines of the turns, at what is such
pub record StopsReading (left_before left_now : Option (List ℕ)) (turns : List Turn) (IsSuch : List ℕ → ℕ → Type 0) : Type 0 where
  pub pending : List ℕ
  pub total : ℕ
  pub has_read : HasRead left_before left_now turns pending total
  pub such : IsSuch pending total

-- the input that is left is known, and within the limits
abbrev pub WithinLimits : Option (List ℕ) → Type 0
WithinLimits None = ⊥
WithinLimits (Some bytes) = AreShort (lines_of bytes) × (length bytes < input_limit)
