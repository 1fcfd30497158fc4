-- How the opening of a desk may end.
use Rattle.std.specs.Prelude.{◌≡◌, ◌⊎◌, ℕ, ◌<◌, ◌≤◌, List, [], Bool, None, Some, length}
use Rattle.std.specs.Map.{keys_of}
use Rattle.edge_kit.specs.declared.disk.Disks.{Disks}
use Rattle.edge_kit.specs.declared.bytes.PubKey.{PubKey}
use Rattle.edge_kit.specs.declared.bytes.Root.{Root}
use Rattle.record_journal.specs.Pairs.{Reads}
use Rattle.record_journal.specs.TwoDisks.{LeftPair, FaultsLater, EitherRose}
use Rattle.record_journal.specs.Journals.{MayRead}
use Rattle.record_journal.specs.Opened.{ReadPair, FaultIs, KeepsOrRead, OpeningLeaves, PairBeginning, PairUnwritten}
use Rattle.protect_record.specs.Parts.{Parts}
use Rattle.record_join.specs.Keys.{kept_of}
use Rattle.record_join.specs.BooksPasts.{key_limit}
use Rattle.record_journal.specs.Journals.{journal_size}
use Rattle.record_codec.specs.declared.version.JournalVersion.TheVariants.{One}
use Rattle.record_replay.specs.Items.{items_in, named_keys, states_in}
use Rattle.record_replay.specs.Replaying.{IsReplayed}
use Rattle.record_journal.specs.declared.open.OpenFault.TheVariants as journal_fault
use Rattle.record_replay.specs.declared.fault.ReplayFault.{ReplayFault}
use Rattle.record_replay.specs.declared.fault.ReplayFault.TheVariants as replay_fault
use Rattle.desk_machine.specs.States.{Lasting, reopened}
use Rattle.desk_machine.specs.Watches.{WatchesStand, fresh_watching}
use Rattle.check_sign.specs.Contents.{Contents, Seen, disks_in}
use Rattle.check_sign.specs.Standing.{DeskStands, PayloadsStand}
use Rattle.check_sign.specs.Writing.{journal_of}
use Rattle.check_sign.specs.Calls.{LeavesDesk}
use Rattle.check_sign.specs.declared.open.OpenFault.{OpenFault}
use Rattle.check_sign.specs.declared.open.OpenFault.TheVariants as fault

-- the two files name more keys than may be kept: so many
pub record NamesTooMany (genesis : Root) (new : ℕ) (a b : List ℕ) : Type 0 where
  pub payloads : List (List ℕ)
  pub read : Reads genesis.0 payloads a b
  pub count : new ≡ length (named_keys (items_in One payloads))
  pub over : key_limit < new

-- a fault of opening is the files' own, or one of the outside
abbrev pub OpenFaultIs : {D : Type 0} → (D → List ℕ → Type 0) → Disks D → Root → OpenFault → Type 0
OpenFaultIs shows disks genesis (fault.Journal f) = FaultIs shows disks.first disks.second genesis.0 f
OpenFaultIs shows disks genesis (fault.TooManyKeys have new) = (have ≡ 0) × ReadPair shows disks.first disks.second (NamesTooMany genesis new)

-- the fault of opening where the payloads are not replayed
abbrev pub open_fault_of : ReplayFault → OpenFault
open_fault_of (replay_fault.TooManyKeys have new) = fault.TooManyKeys have new
open_fault_of replay_fault.OutOfMemory = fault.Journal journal_fault.OutOfMemory

-- a desk keeps what the items of its payloads say, whatever they say: just the keys that they name, which are no more than may be
-- kept; of each the greatest of each floor and the entries that still count; and the state that the last of its items says
pub record IsBroughtBack (desk : Contents) : Type 0 where
  pub keys : keys_of desk.keys ≡ named_keys (items_in One desk.payloads)
  pub limit : length (named_keys (items_in One desk.payloads)) ≤ key_limit
  pub each : (key : PubKey) (parts : Parts) → kept_of desk.keys key ≡ Some parts → IsReplayed (items_in One desk.payloads) key parts
  pub states : desk.states ≡ states_in (items_in One desk.payloads)

-- A desk that was opened over two disks, at this moment. It has the payloads that the bytes read as and keeps what the items of these
-- say, whatever they say; and whatever these payloads stand for, the desk stands for it.
pub record IsOpened {D : Type 0} (shows : D → List ℕ → Type 0) (disks : Disks D) (genesis : Root) (watch : Bool) (now : ℕ) (desk : Contents) : Type 0 where
  pub read : ReadPair shows disks.first disks.second (Reads genesis.0 desk.payloads)
  pub brought_back : IsBroughtBack desk
  pub stands : (l : Lasting) → PayloadsStand desk.payloads l → DeskStands desk (reopened genesis l watch now)
  pub size : desk.size ≡ journal_size desk.payloads
  pub genesis_is : desk.genesis ≡ genesis
  pub none_open : desk.grants ≡ []
  pub none_given : desk.next ≡ 0
  pub latest_is : desk.latest ≡ now
  pub watches_are : WatchesStand desk.watches (fresh_watching watch now)
  pub none_noted : desk.events ≡ []
  pub up : desk.torn ≡ None

-- What opening made of the disks, beside that: a journal that had been begun was only read. A crash at any moment of it leaves two
-- files that open as two that a crash before might have left, or as those that were read; from now on they read as the payloads of
-- the desk, and so open to what the desk stands for.
pub record Opening {D : Type 0} (shows : D → List ℕ → Type 0) (moment : D → ℕ) (leaves : D → ℕ → List ℕ → Type 0) (faults : D → ℕ) (disks : Disks D) (genesis : Root) (watch : Bool) (now : ℕ) (desk : Seen D) : Type 0 where
  pub opened : IsOpened shows disks genesis watch now desk.contents
  pub writes : OpeningLeaves shows moment leaves genesis.0 disks desk.place desk.contents.payloads (disks_in desk)
  pub moments : KeepsOrRead shows moment leaves genesis.0 disks (disks_in desk)
  pub left : LeavesDesk moment leaves (disks_in desk) desk.contents
  pub holds : LeftPair moment leaves (disks_in desk) (MayRead (journal_of desk))
  pub later : FaultsLater faults disks (disks_in desk)

-- What a refused opening leaves. Damage, another chain and too many keys: nothing was written, each image is one from before. A
-- failure of the disk and want of memory: so too, or the journal was being begun where there was none.
abbrev pub RefusedLeaves : {D : Type 0} → (D → List ℕ → Type 0) → (D → ℕ) → (D → ℕ → List ℕ → Type 0) → Root → Disks D → OpenFault → Disks D → Type 0
RefusedLeaves shows moment leaves genesis old (fault.Journal journal_fault.Disk) new = PairUnwritten shows moment leaves old new ⊎ PairBeginning shows moment leaves genesis.0 old new
RefusedLeaves shows moment leaves genesis old (fault.Journal journal_fault.OutOfMemory) new = PairUnwritten shows moment leaves old new ⊎ PairBeginning shows moment leaves genesis.0 old new
RefusedLeaves shows moment leaves genesis old (fault.Journal (journal_fault.Damaged file offset byte)) new = PairUnwritten shows moment leaves old new
RefusedLeaves shows moment leaves genesis old (fault.Journal (journal_fault.Genesis kept given)) new = PairUnwritten shows moment leaves old new
RefusedLeaves shows moment leaves genesis old (fault.TooManyKeys have new_keys) new = PairUnwritten shows moment leaves old new

-- no desk was opened: the fault is the files' own or the outside's, with its cause, and a crash at any moment leaves two files that
-- open as two that a crash before might have left, or as those that were read
pub record OpeningRefused {D : Type 0} (shows : D → List ℕ → Type 0) (moment : D → ℕ) (leaves : D → ℕ → List ℕ → Type 0) (faults : D → ℕ) (disks : Disks D) (genesis : Root) (refused : OpenFault) (now : Disks D) : Type 0 where
  pub fault_is : OpenFaultIs shows disks genesis refused
  pub cause : refused ≡ fault.Journal journal_fault.Disk → EitherRose faults disks now
  pub writes : RefusedLeaves shows moment leaves genesis disks refused now
  pub moments : KeepsOrRead shows moment leaves genesis.0 disks now
  pub later : FaultsLater faults disks now
