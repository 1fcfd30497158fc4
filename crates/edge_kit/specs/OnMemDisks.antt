-- What contracts see of a disk in memory.
use Rattle.std.specs.Prelude.{◌≡◌, ℕ, List, [], ◌∷◌, ◌++◌, length, take, drop, Option, Result}
use Rattle.edge_kit.specs.declared.mem_disk.MemDisk.{MemDisk}
use Rattle.edge_kit.specs.declared.mem_disk.DiskStep.{DiskStep}
use Rattle.edge_kit.specs.declared.mem_disk.DiskStep.TheVariants.{Synced}
use Rattle.edge_kit.specs.declared.mem_disk.Crash.{Crash}
use Rattle.edge_kit.specs.MemDisks.{after, content, crashed, LeavesAt, turn_of}
use Rattle.edge_kit.specs.declared.calls.Calls.{Calls}
use Rattle.edge_kit.specs.declared.mem_disk.Turn.{Turn}
use Rattle.edge_kit.specs.Causes.{next_count}
use Rattle.edge_kit.specs.Calls.{IsCounted}

-- the bytes that it was made of
abbrev pub first_bytes : MemDisk → List ℕ
first_bytes d = d.first.items

-- the bytes that a read sees
abbrev pub disk_bytes : MemDisk → List ℕ
disk_bytes d = d.held.items

-- its writes, cuts and syncs
abbrev pub disk_steps : MemDisk → List DiskStep
disk_steps d = d.steps.items

-- what it keeps of its calls
abbrev pub disk_calls : MemDisk → Calls
disk_calls d = d.calls

-- the number of the call at which it stops
abbrev pub disk_stop : MemDisk → Option ℕ
disk_stop d = d.stop

-- how often memory ran out at a write or cut
abbrev pub disk_lacks : MemDisk → ℕ
disk_lacks d = d.lacks

-- one call of this result has come, and the stop stays
pub record IsCalled {T E : Type 0} (old new : MemDisk) (result : Result T E) : Type 0 where
  pub calls : IsCounted (disk_calls old) (disk_calls new) result
  pub stop : disk_stop new ≡ disk_stop old

-- how its next call goes
abbrev pub next_call : MemDisk → Turn
next_call d = turn_of d.calls.count d.calls.failing.items d.stop

-- what a crash now makes of the bytes of the last sync and the changes since
abbrev pub image_of : Crash → MemDisk → List ℕ
image_of how d = crashed how (content d.first.items (take d.synced d.steps.items)) (drop d.synced d.steps.items)

-- what a crash now may leave
abbrev pub Leaves : MemDisk → List ℕ → Type 0
Leaves d c = LeavesAt d.first.items d.steps.items (length d.steps.items) c

-- what a read sees
abbrev pub Shows : MemDisk → List ℕ → Type 0
Shows d c = c ≡ disk_bytes d

-- the moment: how many steps there are
abbrev pub moment : MemDisk → ℕ
moment d = length d.steps.items

-- what a crash at a moment might have left
abbrev pub Left : MemDisk → ℕ → List ℕ → Type 0
Left d k c = LeavesAt d.first.items d.steps.items k c

-- the changes since the last sync
abbrev pub unsynced : MemDisk → List DiskStep
unsynced d = drop d.synced d.steps.items

-- everything that it holds stays
pub record HoldsSame (old new : MemDisk) : Type 0 where
  pub first : first_bytes new ≡ first_bytes old
  pub bytes : disk_bytes new ≡ disk_bytes old
  pub steps : disk_steps new ≡ disk_steps old
  pub since : unsynced new ≡ unsynced old

-- a change is made: a read sees it, and it is kept behind the others
pub record KeepsChange (old new : MemDisk) (step : DiskStep) : Type 0 where
  pub first : first_bytes new ≡ first_bytes old
  pub bytes : disk_bytes new ≡ after step (disk_bytes old)
  pub steps : disk_steps new ≡ disk_steps old ++ step ∷ []
  pub since : unsynced new ≡ unsynced old ++ step ∷ []

-- how a write or cut ends: made, or not made, with memory enough; or not made for want of memory
abbrev pub MadeAt : MemDisk → MemDisk → DiskStep → Type 0
MadeAt old new step = KeepsChange old new step × (disk_lacks new ≡ disk_lacks old)

abbrev pub Unmade : MemDisk → MemDisk → Type 0
Unmade old new = HoldsSame old new × (disk_lacks new ≡ disk_lacks old)

abbrev pub Lacked : MemDisk → MemDisk → Type 0
Lacked old new = HoldsSame old new × (disk_lacks new ≡ next_count (disk_lacks old))

-- a sync is kept where something was changed since the last
abbrev pub steps_with_sync : List DiskStep → List DiskStep → List DiskStep
steps_with_sync [] steps = steps
steps_with_sync (change ∷ changes) steps = steps ++ Synced ∷ []

pub record KeepsSync (old new : MemDisk) : Type 0 where
  pub first : first_bytes new ≡ first_bytes old
  pub bytes : disk_bytes new ≡ disk_bytes old
  pub steps : disk_steps new ≡ steps_with_sync (unsynced old) (disk_steps old)
  pub since : unsynced new ≡ []
  pub lacks : disk_lacks new ≡ disk_lacks old
