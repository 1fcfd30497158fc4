-- The lines of an input.
use Rattle.std.specs.Prelude.{◌≡◌, ◌≢◌, ℕ, ◌+◌, ◌<◌, ◌≤◌, ◌==◌, List, [], ◌∷◌, ◌++◌, length, take, slice_index, if◌then◌else◌}
use Rattle.program_end.specs.Limits.{line_limit}
use Rattle.session_run.specs.declared.next.Next.{Next}
use Rattle.session_run.specs.declared.next.Next.TheVariants as next

-- cut at newlines, after the first part of a line; a last piece that isn't empty is a line too
abbrev pub lines_after : List ℕ → List ℕ → List (List ℕ)
lines_after part [] = if length part == 0 then [] else part ∷ []
lines_after part (b ∷ bs) = if b == 10 then part ∷ lines_after [] bs else lines_after (part ++ b ∷ []) bs

unfoldable pub lines_of : List ℕ → List (List ℕ)
lines_of bytes = lines_after [] bytes

-- no newline is among them
abbrev pub IsOneLine : List ℕ → Type 0
IsOneLine bytes = (k : ℕ) → k < length bytes → slice_index bytes k ≢ 10

-- one line, within the limit
abbrev pub IsShortLine : List ℕ → Type 0
IsShortLine bytes = IsOneLine bytes × (length bytes ≤ line_limit)

-- the next line of these bytes, within the limit, and what is left of them
abbrev pub TakesLine : List ℕ → Next → List ℕ → Type 0
TakesLine bytes (next.Line line) rest = (bytes ≡ line.items ++ 10 ∷ rest) × IsShortLine line.items
TakesLine bytes (next.Last line) rest = (bytes ≡ line.items) × IsShortLine line.items × (rest ≡ [])

-- nothing comes behind it
abbrev pub IsLast : Next → Type 0
IsLast (next.Line line) = ⊥
IsLast (next.Last line) = Unit {0}

-- the first line of these bytes is over the limit, however they go on
abbrev pub BeginsTooLong : List ℕ → Type 0
BeginsTooLong bytes = (line_limit < length bytes) × IsOneLine (take (line_limit + 1) bytes)
