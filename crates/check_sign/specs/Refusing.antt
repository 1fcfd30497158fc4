-- What is refused before the desk changes, and what a write that was refused makes of the reply.
use Rattle.std.specs.Prelude.{◌≡◌, ◌⊎◌, ℕ, ◌+◌, ◌<◌, ◌≤◌, max, length, List, Contains, Option, None, Result, Ok, Err, IsSome, IsSomeAnd}
use Rattle.edge_kit.specs.declared.bytes.PubKey.{PubKey}
use Rattle.slash_defs.specs.declared.book.File.{File}
use Rattle.slash_defs.specs.declared.message.Message.{Message}
use Rattle.interchange_io.specs.WrittenOrder.{canonical}
use Rattle.protect_record.specs.Parts.{Parts}
use Rattle.protect_record.specs.Pasts.{Past}
use Rattle.protect_record.specs.Passing.{Passes}
use Rattle.record_codec.specs.declared.item.JournalItem.{JournalItem}
use Rattle.record_join.specs.Keys.{kept_of}
use Rattle.record_join.specs.BooksPasts.{AreNew, BooksStand, IsRefusal, key_limit, new_keys}
use Rattle.record_replay.specs.Batches.{file_items, message_items}
use Rattle.record_journal.specs.Journals.{Journaled}
use Rattle.record_journal.specs.declared.log.AppendFault.{AppendFault}
use Rattle.desk_machine.specs.declared.call.DeskReply.{DeskReply}
use Rattle.desk_machine.specs.declared.call.DeskReply.TheVariants as reply
use Rattle.desk_machine.specs.Machine.{IsUp, MaySign}
use Rattle.desk_machine.specs.States.{State}
use Rattle.check_sign.specs.Contents.{Contents}
use Rattle.check_sign.specs.Writing.{Wrote, refusal_of}

-- the desk with this moment, where that is later than its latest
abbrev pub at_moment : Contents → ℕ → Contents
at_moment desk now = record desk { latest = max desk.latest now }

-- the reply names the fault by which nothing more was kept
abbrev pub ToldFault : {D : Type 0} → (D → ℕ) → Journaled D → List JournalItem → Journaled D → DeskReply → Type 0
ToldFault faults old items new r = (fault : AppendFault) × (r ≡ refusal_of fault) × Wrote faults old items new (Err fault)

-- a batch was written, or the reply names the fault
abbrev pub WroteOrTold : {D : Type 0} → (D → ℕ) → Journaled D → List JournalItem → Journaled D → Result (Unit {0}) DeskReply → Type 0
WroteOrTold faults old items new (Ok done) = Wrote faults old items new (Ok done)
WroteOrTold faults old items new (Err r) = ToldFault faults old items new r

-- the keys of a file are more than may be kept, and the reply says by how many
abbrev pub AreTooMany : List (PubKey × Parts) → File → DeskReply → Type 0
AreTooMany kept file r = (have : ℕ) × (more : ℕ) × (r ≡ reply.TooManyKeys have more) × (have ≡ length kept) × (more ≡ new_keys kept file.books) × (key_limit < have + more)

-- why a file was not taken in: its keys are too many, and nothing was written; or they are not, and the reply names the fault
abbrev pub IsUngained : {D : Type 0} → (D → ℕ) → Journaled D → List (PubKey × Parts) → File → Journaled D → DeskReply → Type 0
IsUngained faults old kept file new r =
    (AreTooMany kept file r × (new ≡ old))
    ⊎ ((length kept + new_keys kept file.books ≤ key_limit) × ToldFault faults old (file_items (canonical file).books) new r)

-- why a message is not granted: no past is kept of the key, its past forbids the message, or there is no room for it
abbrev pub Forbids : List (PubKey × Past) → PubKey → Message → DeskReply → Type 0
Forbids pasts key m reply.Unknown = kept_of pasts key ≡ None
Forbids pasts key m (reply.Refused v) = IsSomeAnd (kept_of pasts key) (λ past. IsRefusal past m v)
Forbids pasts key m reply.OutOfMemory = IsSomeAnd (kept_of pasts key) (λ past. Passes past m)
Forbids pasts key m r = ⊥

-- the reply is of one of these three kinds
abbrev pub MayForbid : DeskReply → Type 0
MayForbid reply.Unknown = Unit {0}
MayForbid (reply.Refused v) = Unit {0}
MayForbid reply.OutOfMemory = Unit {0}
MayForbid r = ⊥

-- why messages were not kept: of one the past does not let it pass or has it already, and nothing was written; there was no room for one, and
-- nothing was written; or each is new to the past of its key, and the reply names the fault
abbrev pub IsUnkept : {D : Type 0} → (D → ℕ) → Journaled D → List (PubKey × Parts) → List (PubKey × Message) → Journaled D → DeskReply → Type 0
IsUnkept faults old kept listed new r =
    ((r ≡ reply.Unfit) × ((pasts : List (PubKey × Past)) → BooksStand kept pasts → ¬ (AreNew pasts listed)) × (new ≡ old))
    ⊎ (((r ≡ reply.OutOfMemory) × (new ≡ old))
    ⊎ (((pasts : List (PubKey × Past)) → BooksStand kept pasts → AreNew pasts listed) × ToldFault faults old (message_items listed) new r))

-- one of these keys may not sign, or the disk has failed
abbrev pub BarsOne : State → List (PubKey × Message) → DeskReply → Type 0
BarsOne state listed reply.Disk = IsSome state.torn
BarsOne state listed reply.Unfit = IsUp state × ((one : PubKey × Message) × Contains listed one × ¬ (MaySign state one.0))
BarsOne state listed r = ⊥

abbrev pub IsUnable : Option (List (List ℕ)) → DeskReply → Type 0
IsUnable torn reply.Disk = IsSome torn
IsUnable torn reply.Unfit = Unit {0}
IsUnable torn r = ⊥
