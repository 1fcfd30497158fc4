-- What a reader of lines holds.
use Rattle.std.specs.Prelude.{◌≡◌, ℕ, ◌+◌, ◌≤◌, ◌<◌, ◌++◌, min, List, Option, slice_index, length}
use Rattle.std.specs.Io.KnownBytes.{Consumes}
use Rattle.program_end.specs.Limits.{input_limit}
use Rattle.session_run.specs.Lines.{IsShortLine, TakesLine}
use Rattle.session_run.specs.declared.next.Next.{Next}

-- how many bytes are asked of the source at once
abbrev pub piece_size : ℕ
piece_size = 65536

pub record Pending : Type 0 where
  -- what was read and not yet given
  pub bytes : List ℕ
  -- how many bytes were read in all
  pub total : ℕ

-- where what is not yet given begins in the buffer, and how far no newline is in it
pub record IsScanned (ready : List ℕ) (start scanned : ℕ) : Type 0 where
  pub order : start ≤ scanned
  pub within : scanned ≤ length ready
  pub no_newline : (k : ℕ) → start ≤ k → k < scanned → slice_index ready k ≡ 10 → ⊥

-- How far ahead these bytes more were read where others were held: without the last of them, which are one piece at most, what was held
-- was one line within the limit, not yet ended. So where a whole line was held nothing more was read.
pub record ReadsAhead (held more : List ℕ) : Type 0 where
  pub front : List ℕ
  pub last : List ℕ
  pub parts : more ≡ front ++ last
  pub piece : length last ≤ piece_size
  pub needed : 0 < length more → IsShortLine (held ++ front)

-- these bytes more were read, as far ahead as a line needs, and none was given
pub record ReadsMore (left_before left_now : Option (List ℕ)) (old new : Pending) : Type 0 where
  pub more : List ℕ
  pub taken : Consumes left_before left_now more
  pub bytes : new.bytes ≡ old.bytes ++ more
  pub total : new.total ≡ min (old.total + length more) input_limit
  pub ahead : ReadsAhead old.bytes more

-- these bytes more were read, one piece at most, and none was given
pub record ReadsPiece (left_before left_now : Option (List ℕ)) (old new : Pending) : Type 0 where
  pub more : List ℕ
  pub taken : Consumes left_before left_now more
  pub bytes : new.bytes ≡ old.bytes ++ more
  pub total : new.total ≡ min (old.total + length more) input_limit
  pub piece : length more ≤ piece_size

-- the next line was given, after these bytes more were read, as far ahead as the line needs
pub record GivesLine (left_before left_now : Option (List ℕ)) (old new : Pending) (next : Next) : Type 0 where
  pub more : List ℕ
  pub taken : Consumes left_before left_now more
  pub line : TakesLine (old.bytes ++ more) next new.bytes
  pub total : new.total ≡ old.total + length more
  pub within : new.total < input_limit
  pub ahead : ReadsAhead old.bytes more
