-- One call of a desk.
use Rattle.std.specs.Prelude.{◌≡◌, ◌⊎◌, ◌↔◌, ℕ, Bool, List, Contains, [], ◌∷◌, ◌++◌, Option, None, Some, is_some, IsSome, IsSomeAnd, IsTrue, map, if◌then◌else◌}
use Rattle.std.specs.Map.{keys_of}
use Rattle.edge_kit.specs.declared.disk.Disks.{Disks}
use Rattle.edge_kit.specs.declared.bytes.PubKey.{PubKey}
use Rattle.slash_defs.specs.declared.message.Message.{Message}
use Rattle.protect_record.specs.Parts.{Parts, SameParts}
use Rattle.protect_record.specs.Verdicts.{IsVerdict}
use Rattle.protect_record.specs.declared.verdict.Verdict.TheVariants as verdict
use Rattle.doppel_watch.specs.declared.watch.WatchState.{WatchState}
use Rattle.doppel_watch.specs.declared.watch.WatchState.TheVariants as watch
use Rattle.desk_machine.specs.declared.call.KeyStanding.{KeyStanding}
use Rattle.record_join.specs.Keys.{kept_of, EachKey}
use Rattle.record_join.specs.KeyByKey.{EachTakes, Takes, TakesMessage}
use Rattle.record_join.specs.Repeats.{IsKeptIn}
use Rattle.record_join.specs.Taking.{AreNewIn}
use Rattle.record_replay.specs.Batches.{message_item, message_items}
use Rattle.record_replay.specs.declared.state.KeyState.{KeyState}
use Rattle.record_replay.specs.declared.state.KeyState.TheVariants.{Active}
use Rattle.desk_machine.specs.States.{State, key_standing, key_state, state_in}
use Rattle.record_replay.specs.Watches.{Watched}
use Rattle.desk_machine.specs.Watches.{IsOwnWatch, Watching, WatchesStand, standing_of, standing_under}
use Rattle.desk_machine.specs.Machine.{Reply, after, latest_after}
use Rattle.desk_machine.specs.Grants.{IsGrantFor, IsIdleOrBusy, IsNumbered, grants_after, next_after}
use Rattle.desk_machine.specs.Kinds.{IsKind}
use Rattle.desk_machine.specs.Noted.{noted}
use Rattle.desk_machine.specs.declared.call.DeskCall.{DeskCall}
use Rattle.desk_machine.specs.declared.call.DeskCall.TheVariants as call
use Rattle.desk_machine.specs.declared.call.DeskReply.{DeskReply}
use Rattle.desk_machine.specs.declared.call.DeskReply.TheVariants as reply
use Rattle.record_journal.specs.TwoDisks.{FaultsLater, EitherRose, flip}
use Rattle.record_journal.specs.Journals.{journal_size}
use Rattle.check_sign.specs.Compacting.{IsOwnCompaction}
use Rattle.check_sign.specs.Contents.{Contents, Seen, disks_in}
use Rattle.check_sign.specs.Crashes.{LeavesFiles, LeftNow}
use Rattle.check_sign.specs.Standing.{DeskStands, MayOpen}
use Rattle.desk_parts.specs.Weights.{desk_weight}
use Rattle.check_sign.specs.Writing.{KeepsJournal, journal_of, payloads_of}

-- whichever state the desk stood for, the machine may give this reply, and the desk stands for the state after it
abbrev pub IsStep : Contents → DeskCall → DeskReply → Contents → Type 0
IsStep old c r new = (state : State) → DeskStands old state → Reply state c r × DeskStands new (after state c r)

-- what is so even of a desk that stands for no state: the reply is of the call's kinds; a grant is for what was proposed, has the
-- next number and is open from now on; a grant that is settled is open no more; a key is closed where none of its grants is open;
-- just the call is noted; and the chain is the same
pub record Counted (old : Contents) (c : DeskCall) (r : DeskReply) (new : Contents) : Type 0 where
  pub kind : IsKind c r
  pub granted : IsGrantFor c r
  pub number : IsNumbered old.next c r
  pub grants : new.grants ≡ grants_after old.grants c r
  pub next : new.next ≡ next_after old.next c r
  pub idle : IsIdleOrBusy old.grants c r
  pub latest : new.latest ≡ latest_after old.latest c
  pub events : new.events ≡ old.events ++ noted old.latest c r
  pub genesis : new.genesis ≡ old.genesis

-- A key's own watch stands for what was told, and that makes it stand so, whatever is kept of other keys.
abbrev pub OwnStands : Contents → PubKey → WatchState → Type 0
OwnStands desk key s = (x : Watched) × IsOwnWatch desk.watches key x × (s ≡ standing_under desk.watches.on x)

-- Leave to sign rests on the key's own state and watch, whatever is kept of other keys: no disk has failed, the key is kept and
-- active, and its watch lets it sign.
pub record MaySignHere (desk : Contents) (key : PubKey) : Type 0 where
  pub up : desk.torn ≡ None
  pub kept : IsSome (kept_of desk.keys key)
  pub active : kept_of desk.states key ≡ Some Active
  pub allowed : OwnStands desk key watch.Allowed

-- leave for what is no block and no vote: nothing is recorded or written
pub record IsOwnLeave (old : Contents) (key : PubKey) (new : Contents) : Type 0 where
  pub may_sign : MaySignHere old key
  pub keys : new.keys ≡ old.keys
  pub states : new.states ≡ old.states
  pub payloads : new.payloads ≡ old.payloads

-- the reply says why a key may not sign: the disk failed before, or one of five others
abbrev pub IsBar : Option (List (List ℕ)) → DeskReply → Type 0
IsBar torn reply.Disk = IsSome torn
IsBar torn reply.Unknown = Unit {0}
IsBar torn reply.NotActive = Unit {0}
IsBar torn reply.Closing = Unit {0}
IsBar torn (reply.Live epoch) = Unit {0}
IsBar torn (reply.Watching first second) = Unit {0}
IsBar torn r = ⊥

-- a watch bars a key where the key is active and its own watch stands so
abbrev pub IsOwnBar : Contents → PubKey → DeskReply → Type 0
IsOwnBar desk key (reply.Live epoch) = (kept_of desk.states key ≡ Some Active) × OwnStands desk key (watch.Live epoch)
IsOwnBar desk key (reply.Watching first second) = (kept_of desk.states key ≡ Some Active) × OwnStands desk key (watch.Missing first second)
IsOwnBar desk key r = Unit {0}

-- A grant rests on the key's own record, whatever is kept of other keys, and even where a record stands for no past: no disk has
-- failed, the key is active and allowed by its watch, and its record lets the message pass; the message is written, unless the record keeps it already, and
-- the record has it from now on. Each other record keeps what it kept.
pub record IsOwnGrant (old : Contents) (key : PubKey) (m : Message) (new : Contents) : Type 0 where
  pub may_sign : MaySignHere old key
  pub repeat : Bool
  pub passes : IsSomeAnd (kept_of old.keys key) (λ parts. IsVerdict parts m verdict.Pass × (IsTrue repeat ↔ IsKeptIn parts m))
  pub is_written : new.payloads ≡ old.payloads ++ payloads_of (if repeat then [] else message_item key m ∷ [])
  pub roomier : List (PubKey × Parts)
  pub same : EachKey SameParts old.keys roomier
  pub added : Takes TakesMessage roomier new.keys key m
  pub states : new.states ≡ old.states

-- each record takes its message in, after room was made for it
pub record AreTakenIn (old : List (PubKey × Parts)) (ps : List (PubKey × Message)) (new : List (PubKey × Parts)) : Type 0 where
  pub roomier : List (PubKey × Parts)
  pub same : EachKey SameParts old roomier
  pub added : EachTakes TakesMessage ps roomier new

-- Messages that are kept without a grant rest on the keys' own records as well: no disk has failed, each key may sign, and its record lets its
-- message pass and does not keep it yet; they are written by one batch, and each record has its message from now on. Each other
-- record keeps what it kept.
pub record IsOwnRecord (old : Contents) (ps : List (PubKey × Message)) (new : Contents) : Type 0 where
  pub up : old.torn ≡ None
  pub may_sign : (one : PubKey × Message) → Contains ps one → MaySignHere old one.0
  pub unkept : AreNewIn old.keys ps
  pub is_written : new.payloads ≡ old.payloads ++ payloads_of (message_items ps)
  pub taken : AreTakenIn old.keys ps new.keys
  pub states : new.states ≡ old.states

-- the same of leave, of what a watch bars, of what is told: the kept keys in order, each with its state and as its watch stands;
-- whether the disk has failed; the size of the journal's payloads, and the weight of the kept records; and of a compaction
abbrev pub IsOwn : Contents → DeskCall → DeskReply → Contents → Type 0
IsOwn old (call.Propose key m now) (reply.Granted grant) new = IsOwnGrant old key m new
IsOwn old (call.Propose key m now) (reply.Live epoch) new = IsOwnBar old key (reply.Live epoch)
IsOwn old (call.Propose key m now) (reply.Watching first second) new = IsOwnBar old key (reply.Watching first second)
IsOwn old (call.Record ps now) reply.Recorded new = IsOwnRecord old ps new
IsOwn old (call.Allow key now) (reply.Granted grant) new = IsOwnLeave old key new
IsOwn old (call.Allow key now) (reply.Live epoch) new = IsOwnBar old key (reply.Live epoch)
IsOwn old (call.Allow key now) (reply.Watching first second) new = IsOwnBar old key (reply.Watching first second)
IsOwn old call.Keys (reply.Keys listed) new = (map {B = PubKey × KeyState} (λ l. (l.0, state_in l.1)) listed ≡ map {B = PubKey × KeyState} (λ key. (key, key_state old.states key)) (keys_of old.keys)) × (new.keys ≡ old.keys) × (new.states ≡ old.states)
    × ((w : Watching) → WatchesStand old.watches w → listed ≡ map {B = PubKey × KeyStanding} (λ key. (key, key_standing (key_state old.states key) (standing_of w key))) (keys_of old.keys))
IsOwn old call.HasFailed (reply.HasFailed failed) new = failed ≡ is_some old.torn
IsOwn old call.Size (reply.Size size weight) new = (size ≡ old.size) × (size ≡ journal_size old.payloads) × (weight ≡ desk_weight old.keys)
IsOwn old call.Compact r new = IsOwnCompaction old r new
IsOwn old c r new = Unit {0}

-- each image of the one disk beside each of the other opens to what the desk stands for
abbrev pub LeavesDesk : {D : Type 0} → (D → ℕ) → (D → ℕ → List ℕ → Type 0) → Disks D → Contents → Type 0
LeavesDesk moment leaves disks desk = (state : State) → DeskStands desk state → LeftNow moment leaves disks (MayOpen desk.genesis state)

-- One disk alone is written: that of the current file, which stays the current one; but by a compaction the other one, whose file
-- becomes the current one where it succeeds. By a compaction that is refused none is, unless the other disk failed in it.
abbrev pub WritesOne : {D : Type 0} → DeskCall → DeskReply → Seen D → Seen D → Type 0
WritesOne call.Compact (reply.Compacted before after) old new = (new.other ≡ old.current) × (new.place ≡ flip old.place)
WritesOne call.Compact reply.Disk old new = (new.current ≡ old.current) × (new.place ≡ old.place) × (IsSome old.contents.torn → new.other ≡ old.other)
WritesOne call.Compact r old new = (new.current ≡ old.current) × (new.other ≡ old.other) × (new.place ≡ old.place)
WritesOne c r old new = (new.other ≡ old.other) × (new.place ≡ old.place)

-- One call: a step of the machine. A crash at any moment of it leaves two files that open to what lasts of the state before or of
-- the state after, and from now on of the latter. No disk's count of faults has fallen, and the desk fails, or answers so for the
-- first time, only where one rose.
pub record IsCallOf {D : Type 0} (moment : D → ℕ) (leaves : D → ℕ → List ℕ → Type 0) (faults : D → ℕ) (old new : Seen D) (c : DeskCall) (r : DeskReply) : Type 0 where
  pub machine : IsStep old.contents c r new.contents
  pub counted : Counted old.contents c r new.contents
  pub own : IsOwn old.contents c r new.contents
  pub journal : KeepsJournal moment leaves faults (journal_of old) (journal_of new)
  pub moments : (state : State) → DeskStands old.contents state → LeavesFiles moment leaves (disks_in old) (disks_in new) (λ files. MayOpen old.contents.genesis state files ⊎ MayOpen old.contents.genesis (after state c r) files)
  pub left : LeavesDesk moment leaves (disks_in new) new.contents
  pub later : FaultsLater faults (disks_in old) (disks_in new)
  pub fails : old.contents.torn ≡ None → IsSome new.contents.torn → EitherRose faults (disks_in old) (disks_in new)
  pub rose : r ≡ reply.Disk → old.contents.torn ≡ None → EitherRose faults (disks_in old) (disks_in new)
  pub disks : WritesOne c r old new
