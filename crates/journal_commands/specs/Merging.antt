-- How a merge of the input into a journal ends.
use Rattle.std.specs.Prelude.{◌≡◌, ◌⊎◌, ℕ, ◌≤◌, List, ◌++◌, Option, Some, None, Ok, Err, length, codes, decimal, false}
use Rattle.std.specs.Io.KnownBytes.{Consumes, IsAtEnd}
use Rattle.edge_kit.specs.declared.bytes.Root.{Root}
use Rattle.edge_kit.specs.declared.disk.Disks.{Disks}
use Rattle.slash_defs.specs.declared.book.File.{File}
use Rattle.interchange_io.specs.Reading.{file_of, file_limit}
use Rattle.interchange_io.specs.declared.fault.ReadFault.{ReadFault}
use Rattle.desk_machine.specs.States.{State}
use Rattle.desk_machine.specs.Machine.{Reply, after}
use Rattle.desk_machine.specs.declared.call.DeskCall.TheVariants as call
use Rattle.desk_machine.specs.declared.call.DeskReply.{DeskReply}
use Rattle.desk_machine.specs.declared.call.DeskReply.TheVariants as reply
use Rattle.desk_machine.specs.declared.event.DeskEvent.{DeskEvent}
use Rattle.check_sign.specs.Crashes.{Files}
use Rattle.check_sign.specs.Contents.{Seen}
use Rattle.check_sign.specs.Standing.{MayOpen}
use Rattle.check_sign.specs.Calls.{IsCallOf}
use Rattle.program_end.specs.declared.closing.ClosingLine.{ClosingLine}
use Rattle.program_end.specs.declared.closing.ClosingLine.TheVariants as closing
use Rattle.program_end.specs.declared.file_refusal.FileRefusal.TheVariants as refusal
use Rattle.program_end.specs.declared.limit.Limit.TheVariants as limit
use Rattle.program_end.specs.declared.status.Status.{Status}
use Rattle.program_end.specs.declared.status.Status.TheVariants as status
use Rattle.command_line.specs.declared.planned.Plan.{Plan}
use Rattle.command_line.specs.declared.planned.Plan.TheVariants as plan
use Rattle.journal_commands.specs.Views.{Output, View, ClosedBy, EndsBy, Unwritten}
use Rattle.journal_commands.specs.Openings.{EachImage, HadDesk, NotOpened, WritesCurrent}
use Rattle.journal_commands.specs.Whole.{WholeStops}
use Rattle.journal_commands.specs.declared.whole.WholeFault.{WholeFault}
use Rattle.journal_commands.specs.declared.whole.WholeFault.TheVariants as whole_fault

-- the plan is a merge's
abbrev pub IsMerge : Plan → Type 0
IsMerge (plan.Merge genesis journal) = Unit {0}
IsMerge (plan.Session genesis journal fork altair signer watch) = ⊥
IsMerge (plan.Serve options) = ⊥
IsMerge (plan.Proxy options) = ⊥
IsMerge (plan.Show genesis journal) = ⊥
IsMerge (plan.Rehearse number size) = ⊥
IsMerge (plan.Shown text) = ⊥

-- the line of a file of so many keys that is merged
abbrev pub merged_text : ℕ → List ℕ
merged_text keys = codes "merged " ++ (decimal keys ++ codes "\n")

-- the input was read to its end: it is these bytes, no more than a file may have
pub record ReadsAll (before now : View) (bytes : List ℕ) : Type 0 where
  pub taken : Consumes before.left now.left bytes
  pub at_end : IsAtEnd now.left
  pub within : length bytes ≤ file_limit

-- the line of an input that was not read to its end; none where memory ran out
abbrev pub unread_line : WholeFault → Option ClosingLine
unread_line whole_fault.Read = Some closing.ReadFault
unread_line whole_fault.TooLong = Some (closing.TooLong limit.File)
unread_line whole_fault.OutOfMemory = None

-- the line of a reply; none for a merged file, which has a text, and where memory ran out
abbrev pub reply_line : DeskReply → Option ClosingLine
reply_line (reply.GenesisDiffers kept given) = Some (closing.GenesisDiffers kept given)
reply_line (reply.TooManyKeys have new) = Some (closing.FileRefused (refusal.TooManyKeys have new))
reply_line (reply.Full size wanted) = Some (closing.FileRefused (refusal.Full size wanted))
reply_line reply.Disk = Some closing.DiskFault
reply_line r = None

-- the text or the line of a reply to the merge of a file of so many keys ended the output
abbrev pub ReplyEnds : ℕ → DeskReply → Output → Output → Status → Type 0
ReplyEnds count (reply.Merged keys) before now result = EndsBy status.Done (merged_text count) before now result ⊎ Unwritten before now result
ReplyEnds count r before now result = ClosedBy (reply_line r) before now result

-- the input was not read to its end, and the desk not called
pub record InputUnread {D : Type 0} (before now : View) (opened ended : Seen D) (result : Status) : Type 0 where
  pub fault : WholeFault
  pub stops : WholeStops fault file_limit before.left now.left before.failed now.failed
  pub closes : ClosedBy (unread_line fault) before.out now.out result
  pub uncalled : ended ≡ opened

-- the input was read to its end, and is no file by this fault; the desk was not called
pub record NoFile {D : Type 0} (before now : View) (opened ended : Seen D) (result : Status) : Type 0 where
  pub bytes : List ℕ
  pub read : ReadsAll before now bytes
  pub fault : ReadFault
  pub is_fault : file_of bytes ≡ Err fault
  pub closes : ClosedBy (Some (closing.FileRefused (refusal.Read fault))) before.out now.out result
  pub uncalled : ended ≡ opened

-- the input was read to its end, and is this file
pub record ReadsFile (before now : View) (file : File) : Type 0 where
  pub bytes : List ℕ
  pub read : ReadsAll before now bytes
  pub is_file : file_of bytes ≡ Ok file

-- the input is a file; the desk was called to merge it, and gave this reply
pub record FileCalled {D : Type 0} (moment : D → ℕ) (leaves : D → ℕ → List ℕ → Type 0) (faults : D → ℕ) (before now : View) (opened ended : Seen D) (result : Status) : Type 0 where
  pub file : File
  pub read : ReadsFile before now file
  pub reply_is : DeskReply
  pub called : IsCallOf moment leaves faults opened ended (call.Merge file) reply_is
  pub closes : ReplyEnds (length file.books) reply_is before.out now.out result

-- how a merge into a desk ends
abbrev pub DeskMergeEnds : {D : Type 0} → (D → ℕ) → (D → ℕ → List ℕ → Type 0) → (D → ℕ) → View → View → Seen D → Seen D → Status → Type 0
DeskMergeEnds moment leaves faults before now opened ended result =
    InputUnread before now opened ended result ⊎ NoFile before now opened ended result ⊎ FileCalled moment leaves faults before now opened ended result

-- the files of the journal open to what lasts before the merge, or after a reply that a desk may give to the merge of the file which the input is
abbrev pub OpensByMerge : Root → View → View → State → Files → Type 0
OpensByMerge genesis before now state files =
    MayOpen genesis state files
    ⊎ ((file : File) × (r : DeskReply) × ReadsFile before now file × Reply state (call.Merge file) r × MayOpen genesis (after state (call.Merge file) r) files)

-- nothing was read
pub record Unread (before now : View) : Type 0 where
  pub left : now.left ≡ before.left
  pub failed : now.failed ≡ before.failed

-- how a merge ends: no desk was opened and nothing was read; or one was, and only the disk of its current file was written since then
abbrev pub MergeEnds : {D : Type 0} → (D → List ℕ → Type 0) → (D → ℕ) → (D → ℕ → List ℕ → Type 0) → (D → ℕ) → Root → Disks D → Disks D → View → View → List DeskEvent → Status → Type 0
MergeEnds shows moment leaves faults genesis disks_before disks_now before now events result =
    (NotOpened shows moment leaves faults genesis disks_before disks_now before.out now.out events result × Unread before now)
    ⊎ HadDesk shows moment leaves faults genesis false disks_before disks_now events
    (λ opened ended. DeskMergeEnds moment leaves faults before now opened ended result × EachImage shows moment leaves genesis disks_before disks_now (OpensByMerge genesis before now) opened × WritesCurrent opened ended)

-- a merge in which nothing failed, of an input within the file's limit, is done, or ends for want of memory, by what the journal
-- holds, or by what the file holds
abbrev pub IsMergeComplete : Status → Type 0
IsMergeComplete status.Done = Unit {0}
IsMergeComplete status.OutOfMemory = Unit {0}
IsMergeComplete status.Damaged = Unit {0}
IsMergeComplete status.GenesisDiffers = Unit {0}
IsMergeComplete (status.InputTooLong limit.Keys) = Unit {0}
IsMergeComplete status.FileRefused = Unit {0}
IsMergeComplete s = ⊥
