-- How late a file comes, by its head alone.
use Rattle.std.specs.Prelude.{ℕ, ◌+◌, List, length, drop, get_or, nat_eq, ◌&&◌, if◌then◌else◌}
use Rattle.std.specs.List.{starts_with}
use Rattle.std.specs.Int.{w64, from_le_bytes}
use Rattle.journal_frames.specs.Frames.{mark}

-- of the first 55 bytes of a file: 0 where it isn't begun, and else one more than its generation, which stands in its first
-- frame or is 0
abbrev pub rank : List ℕ → ℕ
rank head =
    if nat_eq (get_or head 0 0) 1 then
    (if nat_eq (length head) 55 && starts_with nat_eq (drop 41 head) mark then from_le_bytes w64 (drop 47 head) + 1 else 1)
    else 0
