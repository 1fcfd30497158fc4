-- What a crash between two syncs may leave, said twice: change by change, and byte by byte.
use Rattle.std.specs.Prelude.{◌≡◌, ◌⊎◌, ℕ, ◌+◌, ◌<◌, ◌≤◌, min, max, List, [], ◌∷◌, length, slice_index}
use Rattle.edge_kit.specs.Disks.{Torn, Cut, reach}

-- a change of a disk's content: a write of n bytes at an offset, or a cut to a length
pub data Change : Type 0 where
  Wrote : (at n : ℕ) → Change
  Shortened : (len : ℕ) → Change

abbrev pub step_of : Change → List ℕ → List ℕ → Type 0
step_of (Wrote at n) = Torn at n
step_of (Shortened len) = Cut len

-- change by change, the newest first, of a disk that was synced with these bytes
abbrev pub LeftBy : List ℕ → List Change → List ℕ → Type 0
LeftBy synced [] c = c ≡ synced
LeftBy synced (change ∷ earlier) c = (d : List ℕ) × LeftBy synced earlier d × step_of change d c

-- the length that a change makes of one
abbrev pub length_after : Change → ℕ → ℕ
length_after (Wrote at n) len = max len (reach at n)
length_after (Shortened to) len = min len to

-- the length after these changes, and the least and the greatest since the sync
abbrev pub length_now : ℕ → List Change → ℕ
length_now len [] = len
length_now len (change ∷ earlier) = length_after change (length_now len earlier)

abbrev pub shortest : ℕ → List Change → ℕ
shortest len [] = len
shortest len (change ∷ earlier) = min (shortest len earlier) (length_after change (length_now len earlier))

abbrev pub longest : ℕ → List Change → ℕ
longest len [] = len
longest len (change ∷ earlier) = max (longest len earlier) (length_after change (length_now len earlier))

-- the place is in the range of a write
abbrev pub IsWritten : List Change → ℕ → Type 0
IsWritten [] k = ⊥
IsWritten (Wrote at n ∷ earlier) k = ((at ≤ k) × (k < at + n)) ⊎ IsWritten earlier k
IsWritten (Shortened to ∷ earlier) k = IsWritten earlier k

-- Byte by byte: the length is any from the shortest to the longest since the sync; each written range, and
-- everything from the old end on, which is the shortest length, may hold any bytes; bytes outside stay.
pub record IsImage (synced : List ℕ) (changes : List Change) (c : List ℕ) : Type 0 where
  pub no_shorter : shortest (length synced) changes ≤ length c
  pub no_longer : length c ≤ longest (length synced) changes
  pub stays : (k : ℕ) → k < shortest (length synced) changes → ¬ (IsWritten changes k) → slice_index c k ≡ slice_index synced k
