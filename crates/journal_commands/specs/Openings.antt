-- The desk of a command: it was not opened, or it was, and ended.
use Rattle.std.specs.Prelude.{◌≡◌, ℕ, Bool, List, [], Option, Some, None, IsSome}
use Rattle.edge_kit.specs.declared.bytes.Root.{Root}
use Rattle.edge_kit.specs.declared.disk.Disks.{Disks}
use Rattle.record_journal.specs.TwoDisks.{EitherRose, FaultsLater}
use Rattle.record_journal.specs.Opened.{AsBeforeOrRead}
use Rattle.record_journal.specs.declared.open.OpenFault.TheVariants as journal_fault
use Rattle.desk_machine.specs.States.{State}
use Rattle.desk_machine.specs.declared.event.DeskEvent.{DeskEvent}
use Rattle.check_sign.specs.Contents.{Seen, disks_in}
use Rattle.check_sign.specs.Crashes.{Between, Files, LeavesFiles, now_of}
use Rattle.check_sign.specs.Standing.{DeskStands}
use Rattle.check_sign.specs.Calls.{LeavesDesk}
use Rattle.check_sign.specs.Opening.{Opening, OpeningRefused}
use Rattle.check_sign.specs.declared.open.OpenFault.{OpenFault}
use Rattle.check_sign.specs.declared.open.OpenFault.TheVariants as open_fault
use Rattle.program_end.specs.declared.closing.ClosingLine.{ClosingLine}
use Rattle.program_end.specs.declared.closing.ClosingLine.TheVariants as closing
use Rattle.program_end.specs.declared.limit.Limit.TheVariants as limit
use Rattle.program_end.specs.declared.status.Status.{Status}
use Rattle.journal_commands.specs.Views.{Output, ClosedBy}

-- the line of a journal that is not opened; none where memory ran out
abbrev pub open_line : OpenFault → Option ClosingLine
open_line (open_fault.Journal journal_fault.Disk) = Some closing.DiskFault
open_line (open_fault.Journal journal_fault.OutOfMemory) = None
open_line (open_fault.Journal (journal_fault.Damaged file offset byte)) = Some (closing.Damaged file offset byte)
open_line (open_fault.Journal (journal_fault.Genesis kept given)) = Some (closing.GenesisDiffers kept given)
open_line (open_fault.TooManyKeys have new) = Some (closing.TooLong limit.Keys)

-- No desk was opened, by this fault: the disks are left as a refused opening leaves them, the output has the line of the fault, and
-- nothing is noted.
pub record NotOpened {D : Type 0} (shows : D → List ℕ → Type 0) (moment : D → ℕ) (leaves : D → ℕ → List ℕ → Type 0) (faults : D → ℕ) (genesis : Root)
    (disks_before disks_now : Disks D) (before now : Output) (events : List DeskEvent) (result : Status) : Type 0 where
  pub fault : OpenFault
  pub refused : OpeningRefused shows moment leaves faults disks_before genesis fault disks_now
  pub tells : ClosedBy (open_line fault) before now result
  pub unnoted : events ≡ []

-- what holds of a desk that was opened over these disks and ended, whatever the command did with it: its disks are handed back and
-- what it noted is handed out; its chain is the same; it has failed only where a disk's count of faults rose, and none has fallen;
-- and each image of the disks opens to what the desk stands for
pub record DeskEnded {D : Type 0} (moment : D → ℕ) (leaves : D → ℕ → List ℕ → Type 0) (faults : D → ℕ) (genesis : Root) (disks_before disks_now : Disks D) (ended : Seen D) (events : List DeskEvent) : Type 0 where
  pub disks : disks_now ≡ disks_in ended
  pub noted : events ≡ ended.contents.events
  pub genesis_is : ended.contents.genesis ≡ genesis
  pub fails : IsSome ended.contents.torn → EitherRose faults disks_before disks_now
  pub later : FaultsLater faults disks_before disks_now
  pub left : LeavesDesk moment leaves disks_now ended.contents

-- What a crash at any moment leaves. While the desk is opened: files that open as those that a crash before might have left, or as
-- those that were read. From then on: files that are let for the state that the desk stood for.
pub record OpenedLeaves {D : Type 0} (shows : D → List ℕ → Type 0) (moment : D → ℕ) (leaves : D → ℕ → List ℕ → Type 0) (genesis : Root) (disks_before disks_now : Disks D) (May : Files → Type 0) (opened : Seen D) : Type 0 where
  pub opening : Between leaves disks_now (now_of moment disks_before) (now_of moment (disks_in opened)) (λ files. AsBeforeOrRead shows moment leaves genesis.0 disks_before files.0 files.1)
  pub command : LeavesFiles moment leaves (disks_in opened) disks_now May

-- so it is for whichever state the desk stood for
abbrev pub EachImage : {D : Type 0} → (D → List ℕ → Type 0) → (D → ℕ) → (D → ℕ → List ℕ → Type 0) → Root → Disks D → Disks D → (State → Files → Type 0) → Seen D → Type 0
EachImage shows moment leaves genesis disks_before disks_now May opened = (state : State) → DeskStands opened.contents state → OpenedLeaves shows moment leaves genesis disks_before disks_now (May state) opened

-- between these two only the disk of the current file was written, and it stays the current one
pub record WritesCurrent {D : Type 0} (opened ended : Seen D) : Type 0 where
  pub other : ended.other ≡ opened.other
  pub place : ended.place ≡ opened.place

-- a desk was opened, at this epoch, its keys watched or not, and ended
pub record HadDeskAt {D : Type 0} (shows : D → List ℕ → Type 0) (moment : D → ℕ) (leaves : D → ℕ → List ℕ → Type 0) (faults : D → ℕ) (genesis : Root) (watch : Bool) (epoch : ℕ)
    (disks_before disks_now : Disks D) (events : List DeskEvent) (Ends : Seen D → Seen D → Type 0) : Type 0 where
  pub opened : Seen D
  pub ended : Seen D
  pub opening : Opening shows moment leaves faults disks_before genesis watch epoch opened
  pub ends : Ends opened ended
  pub desk : DeskEnded moment leaves faults genesis disks_before disks_now ended events

-- so at epoch 0
abbrev pub HadDesk : {D : Type 0} → (D → List ℕ → Type 0) → (D → ℕ) → (D → ℕ → List ℕ → Type 0) → (D → ℕ) → Root → Bool → Disks D → Disks D → List DeskEvent → (Seen D → Seen D → Type 0) → Type 0
HadDesk shows moment leaves faults genesis watch disks_before disks_now events Ends = HadDeskAt shows moment leaves faults genesis watch 0 disks_before disks_now events Ends
