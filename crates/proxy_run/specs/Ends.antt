-- How a signing proxy ends that served over the desk of a journal.
use Rattle.std.specs.Prelude.{◌≡◌, ◌⊎◌, ◌++◌, ℕ, Bool, false, List, [], All, Contains, length, slice_index_or, Option, Some, Result, Ok, Err}
use Rattle.edge_kit.specs.declared.bytes.PubKey.{PubKey}
use Rattle.edge_kit.specs.declared.disk.Disks.{Disks}
use Rattle.edge_clock.specs.Clocks.{IsNow}
use Rattle.slash_defs.specs.declared.message.Message.{Message}
use Rattle.slash_defs.specs.Lists.{SafeList}
use Rattle.desk_machine.specs.States.{State}
use Rattle.desk_machine.specs.declared.event.DeskEvent.{DeskEvent}
use Rattle.desk_machine.specs.declared.open_grant.OpenGrant.{OpenGrant}
use Rattle.signer_link.specs.declared.reply.Told.{Told}
use Rattle.duty_plans.specs.Guards.{granted_in}
use Rattle.client_calls.specs.Machines.{CanMake, noted_of, state_after}
use Rattle.client_calls.specs.Seats.{SignerSeen}
use Rattle.check_sign.specs.Contents.{Seen, disks_in}
use Rattle.check_sign.specs.Standing.{DeskStands}
use Rattle.desk_seat.specs.Turns.{calls_of}
use Rattle.desk_seat.specs.Spans.{Spans}
use Rattle.program_end.specs.declared.closing.ClosingLine.TheVariants as closing
use Rattle.program_end.specs.declared.status.Status.{Status}
use Rattle.program_end.specs.declared.status.Status.TheVariants as status
use Rattle.door_lanes.specs.declared.lanes.LoopEnd.{LoopEnd}
use Rattle.door_lanes.specs.declared.lanes.LoopEnd.TheVariants as loop
use Rattle.duty_turns.specs.Times.{epoch_of, slot_of}
use Rattle.keymanager_api.specs.Serving.{LinkSeen}
use Rattle.session_run.specs.Moments.{Images}
use Rattle.session_run.specs.Safe.{CoveredOnceActive}
use Rattle.command_line.specs.declared.proxy_options.ProxyOptions.{ProxyOptions}
use Rattle.journal_commands.specs.Views.{Output, ClosedBy}
use Rattle.journal_commands.specs.Openings.{HadDeskAt, NotOpened}
use Rattle.serve_run.specs.Ends.{ClosesIdleKeys, IsTwin}
use Rattle.proxy_api.specs.Attending.{Terms, terms_of}
use Rattle.proxy_api.specs.Signing.{outcome_of}
use Rattle.proxy_lanes.specs.Lanes.{ProxyRan, idle_lanes}
use Rattle.proxy_run.specs.Begun.{Signed, joined, sent_of, signed_in}
use Rattle.proxy_run.specs.Parts.{Parts}

-- another access to a signing service: it tells what this one has told, with counts of its own at 0
pub record IsMadeOf {S : Type 0} (told : S → Option (List Told)) (faults denials : S → ℕ) (signer twin : S) : Type 0 where
  pub told_is : told twin ≡ told signer
  pub unfailed : faults twin ≡ 0
  pub undenied : denials twin ≡ 0

-- by what the requests of a proxy are answered
abbrev pub terms_in : Option ℕ → ProxyOptions → Terms
terms_in clock options = terms_of clock options.token options.genesis options.genesis_time

-- How the output ends after the lanes. It has no line where it failed or memory ran out.
abbrev pub ClosesLanes : Result (Unit {0}) LoopEnd → Output → Output → Status → Type 0
ClosesLanes (Ok done) before now result = (result ≡ status.Done) × (now ≡ before)
ClosesLanes (Err loop.Door) before now result = ClosedBy (Some closing.DoorFault) before now result
ClosesLanes (Err loop.Disk) before now result = ClosedBy (Some closing.DiskFault) before now result
ClosesLanes (Err loop.Memory) before now result = (result ≡ status.OutOfMemory) × (now ≡ before)

-- The desk was lent to lanes, which served the connections of the door over it, and taken back; and the output was closed.
pub record Shares {D C : Type 0} (moment : D → ℕ) (leaves : D → ℕ → List ℕ → Type 0) (faults : D → ℕ) (see : C → LinkSeen) (clock : Option ℕ) (options : ProxyOptions)
    (opened ended : Seen D) (before now : Parts C) (result : Status) : Type 0 where
  pub lanes_end : Result (Unit {0}) LoopEnd
  pub ran : ProxyRan moment leaves faults see (terms_in clock options) options.connections opened ended before.lanes now.lanes before.door now.door lanes_end
  pub closes : ClosesLanes lanes_end before.out now.out result

-- the signatures that each lane was given by its service
abbrev pub signatures : {D C : Type 0} {moment : D → ℕ} {leaves : D → ℕ → List ℕ → Type 0} {faults : D → ℕ} {see : C → LinkSeen} {clock : Option ℕ} {options : ProxyOptions} {opened ended : Seen D} {before now : Parts C} {result : Status}
    → Shares moment leaves faults see clock options opened ended before now result → List (List Signed)
signatures {see = see} {clock = clock} {options = options} {before = before} {now = now} s =
    signed_in see (terms_in clock options) options.connections before.door now.door (idle_lanes before.lanes) s.ran.lanes s.lanes_end s.ran.served

-- Lanes served over the desk. What holds of it: each image of the disks opens to what the calls made; what the desk stood for stands for
-- what its machine makes of the calls; the grant of each signature that a service gave was given to its lane by one call and settled by a
-- later one, as sent where a byte of the reply was sent and else as dropped, and in between nobody closed the grant's key; a key is closed
-- only where no grant of it is in any hand; and whatever was signed before, safe and covered once the key is active, is safe next to all
-- that the desk gave leave for, and next to all messages whose signatures were handed out, or begun to be.
pub record ServesDesk {D C : Type 0} (moment : D → ℕ) (leaves : D → ℕ → List ℕ → Type 0) (faults : D → ℕ) (see : C → LinkSeen) (clock : Option ℕ) (options : ProxyOptions)
    (opened ended : Seen D) (before now : Parts C) (result : Status) : Type 0 where
  pub shares : Shares moment leaves faults see clock options opened ended before now result
  pub images : Images moment leaves faults opened ended (calls_of shares.ran.shared.log)
  pub machine : (state : State) → DeskStands opened.contents state → CanMake state (calls_of shares.ran.shared.log) × DeskStands ended.contents (state_after state (calls_of shares.ran.shared.log))
      × (ended.contents.events ≡ opened.contents.events ++ noted_of state (calls_of shares.ran.shared.log))
  pub spans : (lane : ℕ) (grant : OpenGrant) (begun : Bool) → Contains (slice_index_or (signatures shares) lane []) (grant, begun) → Spans shares.ran.shared.log lane grant (outcome_of begun)
  pub closings : ClosesIdleKeys shares.ran.shared.log
  pub granted_safe : (state : State) (signed : List (PubKey × Message)) → DeskStands opened.contents state → SafeList signed → All (CoveredOnceActive state (calls_of shares.ran.shared.log)) signed
      → SafeList (signed ++ granted_in (calls_of shares.ran.shared.log))
  pub safe : (state : State) (signed : List (PubKey × Message)) → DeskStands opened.contents state → SafeList signed → All (CoveredOnceActive state (calls_of shares.ran.shared.log)) signed
      → SafeList (signed ++ sent_of (joined (signatures shares)))

-- the desk was shared so and ended: its disks are handed back, and what it noted is handed out
pub record DeskShared {D C : Type 0} (moment : D → ℕ) (leaves : D → ℕ → List ℕ → Type 0) (faults : D → ℕ) (see : C → LinkSeen) (clock : Option ℕ) (options : ProxyOptions)
    (opened : Seen D) (disks_now : Disks D) (before now : Parts C) (events : List DeskEvent) (result : Status) : Type 0 where
  pub ended : Seen D
  pub shares : Shares moment leaves faults see clock options opened ended before now result
  pub disks : disks_now ≡ disks_in ended
  pub noted : events ≡ ended.contents.events

-- nothing but the output was touched
pub record OnlyWrites {C : Type 0} (before now : Parts C) : Type 0 where
  pub lanes : now.lanes ≡ before.lanes
  pub door : now.door ≡ before.door

-- The journal was not opened: next to the disks nothing but the output was touched.
pub record Unopened {D C : Type 0} (shows : D → List ℕ → Type 0) (moment : D → ℕ) (leaves : D → ℕ → List ℕ → Type 0) (faults : D → ℕ) (options : ProxyOptions)
    (disks_before disks_now : Disks D) (before now : Parts C) (events : List DeskEvent) (result : Status) : Type 0 where
  pub refused : NotOpened shows moment leaves faults options.genesis disks_before disks_now before.out now.out events result
  pub writes : OnlyWrites before now

-- At the epoch of a moment that the clock showed the journal was opened, or refused. Its keys are not watched.
pub record OverJournal {D C : Type 0} (shows : D → List ℕ → Type 0) (moment : D → ℕ) (leaves : D → ℕ → List ℕ → Type 0) (faults : D → ℕ) (see : C → LinkSeen) (clock : Option ℕ) (options : ProxyOptions)
    (disks_before disks_now : Disks D) (before now : Parts C) (events : List DeskEvent) (result : Status) : Type 0 where
  pub shown : ℕ
  pub is_shown : IsNow clock shown
  pub serves : Unopened shows moment leaves faults options disks_before disks_now before now events result
      ⊎ HadDeskAt shows moment leaves faults options.genesis false (epoch_of (slot_of options.genesis_time shown)) disks_before disks_now events
      (λ opened ended. ServesDesk moment leaves faults see clock options opened ended before now result)

-- no signing service of a lane was made, since memory ran out, and nothing was touched
pub record NotEquipped {D C : Type 0} (disks_before disks_now : Disks D) (before now : Parts C) (events : List DeskEvent) (result : Status) : Type 0 where
  pub is : result ≡ status.OutOfMemory
  pub disks : disks_now ≡ disks_before
  pub parts : now ≡ before
  pub unnoted : events ≡ []

-- that many lanes, each with another access to the signing service
pub record HasLanes {C : Type 0} (signer : SignerSeen) (count : ℕ) (parts now : Parts C) : Type 0 where
  pub lanes : List SignerSeen
  pub count_is : length lanes ≡ count
  pub each : All (IsTwin signer) lanes
  pub is : now ≡ record parts { lanes = lanes }

-- lanes were equipped, and after that the journal was opened, or refused
pub record Equipped {D C : Type 0} (shows : D → List ℕ → Type 0) (moment : D → ℕ) (leaves : D → ℕ → List ℕ → Type 0) (faults : D → ℕ) (see : C → LinkSeen) (clock : Option ℕ) (options : ProxyOptions) (signer : SignerSeen)
    (disks_before disks_now : Disks D) (before now : Parts C) (events : List DeskEvent) (result : Status) : Type 0 where
  pub equipped : Parts C
  pub has : HasLanes signer options.lanes before equipped
  pub over : OverJournal shows moment leaves faults see clock options disks_before disks_now equipped now events result

-- how it ends
abbrev pub ProxyEnds : {D C : Type 0} → (D → List ℕ → Type 0) → (D → ℕ) → (D → ℕ → List ℕ → Type 0) → (D → ℕ) → (C → LinkSeen) → Option ℕ → ProxyOptions → SignerSeen → Disks D → Disks D → Parts C → Parts C → List DeskEvent → Status → Type 0
ProxyEnds shows moment leaves faults see clock options signer disks_before disks_now before now events result =
    NotEquipped disks_before disks_now before now events result
    ⊎ Equipped shows moment leaves faults see clock options signer disks_before disks_now before now events result
