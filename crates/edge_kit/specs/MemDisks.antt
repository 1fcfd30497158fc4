-- A disk in memory, by the list of its writes, cuts and syncs.
use Rattle.std.specs.Prelude.{◌≡◌, ℕ, ◌/◌, ◌==◌, nat_lt, Bool, true, false, List, [], ◌∷◌, length, take, Option, Some, None, Result, Ok, Err, ◌⊎◌, if◌then◌else◌}
use Rattle.std.specs.List.{list_any}
use Rattle.edge_kit.specs.declared.mem_disk.DiskStep.{DiskStep}
use Rattle.edge_kit.specs.declared.mem_disk.DiskStep.TheVariants.{Wrote, Shortened, Synced}
use Rattle.edge_kit.specs.declared.mem_disk.Crash.{Crash}
use Rattle.edge_kit.specs.declared.mem_disk.Crash.TheVariants as crash
use Rattle.edge_kit.specs.declared.mem_disk.Turn.{Turn}
use Rattle.edge_kit.specs.declared.mem_disk.Turn.TheVariants as turn
use Rattle.edge_kit.specs.Disks.{Torn, Cut, overwrite}

-- not a sync
abbrev pub is_change : DiskStep → Bool
is_change (Wrote at bytes) = true
is_change (Shortened len) = true
is_change Synced = false

-- what is there after a step, and after these steps
abbrev pub after : DiskStep → List ℕ → List ℕ
after (Wrote at bytes) now = overwrite at bytes.items now
after (Shortened len) now = take len now
after Synced now = now

abbrev pub content : List ℕ → List DiskStep → List ℕ
content now [] = now
content now (step ∷ steps) = content (after step now) steps

-- what a crash makes of a step that isn't synced, and of these steps
abbrev pub crashed_after : Crash → DiskStep → List ℕ → List ℕ
crashed_after crash.Written step now = after step now
crashed_after crash.Before step now = now
crashed_after crash.Torn (Wrote at bytes) now = overwrite at (take (length bytes.items / 2) bytes.items) now
crashed_after crash.Torn (Shortened len) now = now
crashed_after crash.Torn Synced now = now

abbrev pub crashed : Crash → List ℕ → List DiskStep → List ℕ
crashed how now [] = now
crashed how now (step ∷ steps) = crashed how (crashed_after how step now) steps

-- what a crash after these steps may leave, where one before them leaves what has base and now is there
abbrev pub LeavesAfter : (List ℕ → Type 0) → List ℕ → List DiskStep → List ℕ → Type 0
LeavesAfter base now [] c = base c
LeavesAfter base now (Wrote at bytes ∷ steps) c = LeavesAfter (λ e. (d : List ℕ) × base d × Torn at (length bytes.items) d e) (overwrite at bytes.items now) steps c
LeavesAfter base now (Shortened len ∷ steps) c = LeavesAfter (λ e. (d : List ℕ) × base d × Cut len d e) (take len now) steps c
LeavesAfter base now (Synced ∷ steps) c = LeavesAfter (λ e. e ≡ now) now steps c

-- the same after the first k steps, of a disk that held these bytes at first, all of them synced
abbrev pub LeavesAt : List ℕ → List DiskStep → ℕ → List ℕ → Type 0
LeavesAt first steps k c = LeavesAfter (λ e. e ≡ first) first (take k steps) c

-- how the call of a number goes: from the stop on each fails, and before it those of the list
abbrev pub unstopped : List ℕ → ℕ → Turn
unstopped failing call = if list_any (λ k. k == call) failing then turn.Fails else turn.Works

abbrev pub turn_of : ℕ → List ℕ → Option ℕ → Turn
turn_of call failing None = unstopped failing call
turn_of call failing (Some stop) = if call == stop then turn.Stops else (if nat_lt stop call then turn.Fails else unstopped failing call)

abbrev pub is_working : Turn → Bool
is_working turn.Works = true
is_working turn.Stops = false
is_working turn.Fails = false

-- A write or cut, by how its call goes and what it answers. Where the call works, or the disk stops at it, it is
-- made, or lacks memory; where the disk stops at it, it fails all the same. Where the call fails it is not made.
abbrev pub GoesBy : {T E : Type 0} → Turn → Result T E → (made unmade lacked : Type 0) → Type 0
GoesBy turn.Works (Ok x) made unmade lacked = made
GoesBy turn.Works (Err e) made unmade lacked = lacked
GoesBy turn.Stops (Ok x) made unmade lacked = ⊥
GoesBy turn.Stops (Err e) made unmade lacked = made ⊎ lacked
GoesBy turn.Fails (Ok x) made unmade lacked = ⊥
GoesBy turn.Fails (Err e) made unmade lacked = unmade
