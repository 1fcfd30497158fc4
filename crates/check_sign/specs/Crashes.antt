-- A crash of two disks: a moment of each, and what it leaves of both.
use Rattle.std.specs.Prelude.{ℕ, ◌≤◌, List}
use Rattle.edge_kit.specs.declared.disk.Disks.{Disks}
use Rattle.record_journal.specs.TwoDisks.{LeavesPairs, LeftPair}

-- two files, the first disk's and the second's
abbrev pub Files : Type 0
Files = List ℕ × List ℕ

-- a moment of each disk's clock, the first's and the second's
abbrev pub Moments : Type 0
Moments = ℕ × ℕ

-- what they are now
abbrev pub now_of : {D : Type 0} → (D → ℕ) → Disks D → Moments
now_of moment disks = (moment disks.first, moment disks.second)

-- of neither disk the later one
abbrev pub NotAfter : Moments → Moments → Type 0
NotAfter m n = (m.0 ≤ n.0) × (m.1 ≤ n.1)

-- a crash at these moments might have left these files
abbrev pub LeftAt : {D : Type 0} → (D → ℕ → List ℕ → Type 0) → Disks D → Moments → Files → Type 0
LeftAt leaves disks k files = leaves disks.first k.0 files.0 × leaves disks.second k.1 files.1

-- a crash at any moment since old leaves files that have P, and what one before might have left stays
abbrev pub LeavesFiles : {D : Type 0} → (D → ℕ) → (D → ℕ → List ℕ → Type 0) → Disks D → Disks D → (Files → Type 0) → Type 0
LeavesFiles moment leaves old new P = LeavesPairs moment leaves old new (λ a b. P (a, b))

-- a crash now leaves files that have P
abbrev pub LeftNow : {D : Type 0} → (D → ℕ) → (D → ℕ → List ℕ → Type 0) → Disks D → (Files → Type 0) → Type 0
LeftNow moment leaves disks P = LeftPair moment leaves disks (λ a b. P (a, b))

-- files that the last disks might have been left as, at any moments from these to those, have P
abbrev pub Between : {D : Type 0} → (D → ℕ → List ℕ → Type 0) → Disks D → Moments → Moments → (Files → Type 0) → Type 0
Between leaves last from to P = (k : Moments) (files : Files) → NotAfter from k → NotAfter k to → LeftAt leaves last k files → P files
