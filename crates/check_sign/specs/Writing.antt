-- What the writing of a batch makes of the journal.
use Rattle.std.specs.Prelude.{◌≡◌, ◌⊎◌, ℕ, ◌+◌, List, [], ◌∷◌, ◌++◌, None, IsSome, Result, Ok, Err}
use Rattle.edge_kit.specs.Causes.{Rose}
use Rattle.edge_kit.specs.declared.bytes.Root.{Root}
use Rattle.record_codec.specs.declared.version.JournalVersion.TheVariants.{One}
use Rattle.std.specs.List.{AllByRecursion}
use Rattle.record_codec.specs.Spelling.{IsBatch, IsOf, spelling}
use Rattle.record_codec.specs.Reading.{batch_of}
use Rattle.record_codec.specs.declared.item.JournalItem.{JournalItem}
use Rattle.record_journal.specs.Journals.{Journaled, MayRead, disks_of, journal_size, with_torn}
use Rattle.record_journal.specs.TwoDisks.{LeavesPairs, LeftPair, FaultsLater, EitherRose}
use Rattle.record_journal.specs.declared.log.AppendFault.{AppendFault}
use Rattle.record_journal.specs.declared.log.AppendFault.TheVariants.{Disk, OutOfMemory, Full}
use Rattle.check_sign.specs.Contents.{Seen}
use Rattle.desk_machine.specs.Written.{frame_size, HasRoomFor, IsOver, IsWritten}
use Rattle.desk_machine.specs.declared.call.DeskReply.{DeskReply}
use Rattle.desk_machine.specs.declared.call.DeskReply.TheVariants as reply

-- the journal of a desk
abbrev pub journal_of : {D : Type 0} → Seen D → Journaled D
journal_of seen = record { current = seen.current; other = seen.other; place = seen.place; root = seen.contents.genesis.0; payloads = seen.contents.payloads; size = seen.contents.size; torn = seen.contents.torn }

-- no batch is no payload
abbrev pub payloads_of : List JournalItem → List (List ℕ)
payloads_of [] = []
payloads_of (i ∷ items) = spelling (i ∷ items) ∷ []

-- the journal with a batch more
abbrev pub with_batch : {D : Type 0} → Journaled D → List JournalItem → D → Journaled D
with_batch journal items disk = record { current = disk; other = journal.other; place = journal.place; root = journal.root; payloads = journal.payloads ++ payloads_of items; size = journal.size + frame_size items; torn = None }

-- no items, or one batch of items that the first version has
abbrev pub IsWritable : List JournalItem → Type 0
IsWritable items = ((items ≡ []) ⊎ IsBatch items) × AllByRecursion (IsOf One) items

-- what was written is read as it was meant
abbrev pub IsRead : List JournalItem → Type 0
IsRead [] = Unit {0}
IsRead (i ∷ items) = batch_of One (spelling (i ∷ items)) ≡ Ok (i ∷ items)

-- how the writing of a batch may end
abbrev pub Wrote : {D : Type 0} → (D → ℕ) → Journaled D → List JournalItem → Journaled D → Result (Unit {0}) AppendFault → Type 0
Wrote faults old items new (Ok done) = HasRoomFor old.size items × IsRead items × (new ≡ with_batch old items new.current)
Wrote faults old items new (Err Disk) = IsWritten old.size items × IsRead items × Rose (faults old.current) (faults new.current) × (new ≡ with_torn old (old.payloads ++ spelling items ∷ []) new.current old.other)
Wrote faults old items new (Err OutOfMemory) = new ≡ old
Wrote faults old items new (Err (Full size wanted)) = IsOver old.size items size wanted × (new ≡ old)

-- A crash at any moment leaves what was there before or what is there now, and from now on the latter; and what was whole is torn
-- only where a disk's count of faults rose.
pub record KeepsJournal {D : Type 0} (moment : D → ℕ) (leaves : D → ℕ → List ℕ → Type 0) (faults : D → ℕ) (old new : Journaled D) : Type 0 where
  pub moments : LeavesPairs moment leaves (disks_of old) (disks_of new) (λ a b. MayRead old a b ⊎ MayRead new a b)
  pub left : LeftPair moment leaves (disks_of new) (MayRead new)
  pub root : new.root ≡ old.root
  pub later : FaultsLater faults (disks_of old) (disks_of new)
  pub fails : old.torn ≡ None → IsSome new.torn → EitherRose faults (disks_of old) (disks_of new)

-- beside that, only the disk of the current file is written, and it stays the current one
pub record Moved {D : Type 0} (moment : D → ℕ) (leaves : D → ℕ → List ℕ → Type 0) (faults : D → ℕ) (old new : Journaled D) : Type 0 where
  pub keeps : KeepsJournal moment leaves faults old new
  pub other : new.other ≡ old.other
  pub place : new.place ≡ old.place

-- what is true of a desk's journal between calls
pub record HoldsJournal {D : Type 0} (moment : D → ℕ) (leaves : D → ℕ → List ℕ → Type 0) (genesis : Root) (journal : Journaled D) : Type 0 where
  pub left : LeftPair moment leaves (disks_of journal) (MayRead journal)
  pub root : journal.root ≡ genesis.0
  pub size : journal.size ≡ journal_size journal.payloads

-- what the desk replies where nothing was written
abbrev pub refusal_of : AppendFault → DeskReply
refusal_of Disk = reply.Disk
refusal_of OutOfMemory = reply.OutOfMemory
refusal_of (Full size wanted) = reply.Full size wanted
