-- How a validator client ends that served over the desk of a journal.
use Rattle.std.specs.Prelude.{◌≡◌, ◌⊎◌, ◌++◌, ◌<◌, ℕ, zero, suc, List, [], ◌∷◌, All, length, slice_index_or, Option, Ok, Err}
use Rattle.std.specs.List.{AllZip}
use Rattle.edge_kit.specs.declared.bytes.PubKey.{PubKey}
use Rattle.edge_kit.specs.declared.disk.Disks.{Disks}
use Rattle.edge_clock.specs.Clocks.{IsNow}
use Rattle.slash_defs.specs.declared.message.Message.{Message}
use Rattle.slash_defs.specs.Lists.{SafeList}
use Rattle.desk_machine.specs.States.{State}
use Rattle.desk_machine.specs.Given.{MayMake}
use Rattle.desk_machine.specs.declared.call.DeskCall.{DeskCall}
use Rattle.desk_machine.specs.declared.call.DeskReply.{DeskReply}
use Rattle.desk_machine.specs.declared.call.Outcome.{Outcome}
use Rattle.desk_machine.specs.declared.call.Outcome.TheVariants as outcome
use Rattle.desk_machine.specs.declared.event.DeskEvent.{DeskEvent}
use Rattle.desk_machine.specs.declared.open_grant.OpenGrant.{OpenGrant}
use Rattle.desk_lock.specs.declared.types.Entry.{Entry}
use Rattle.desk_lock.specs.Histories.{Legal, own}
use Rattle.client_calls.specs.Machines.{CanMake, noted_of, state_after}
use Rattle.client_calls.specs.Seats.{SignerSeen}
use Rattle.check_sign.specs.Contents.{Seen}
use Rattle.check_sign.specs.Paths.{Path}
use Rattle.check_sign.specs.Standing.{DeskStands}
use Rattle.desk_seat.specs.Steps.{DeskStep}
use Rattle.desk_seat.specs.Turns.{calls_of}
use Rattle.desk_seat.specs.Spans.{ClosesKey, History, NoneInHand, Spans}
use Rattle.program_end.specs.declared.limit.Limit.TheVariants as limit
use Rattle.program_end.specs.declared.status.Status.{Status}
use Rattle.program_end.specs.declared.status.Status.TheVariants as status
use Rattle.node_calls.specs.declared.post.Post.{Post}
use Rattle.node_fallback.specs.Seen.{Seen as Asked}
use Rattle.duty_plans.specs.Guards.{IsSigned, granted_in, posted_in}
use Rattle.duty_plans.specs.Steps.{DutyCall, DutyReply, DutyStep, Posts}
use Rattle.duty_turns.specs.Times.{epoch_of, slot_of}
use Rattle.duty_turns.specs.TurnSteps.{TurnStep}
use Rattle.duty_loop.specs.Guarding.{lane_steps}
use Rattle.keymanager_api.specs.Serving.{LinkSeen}
use Rattle.session_run.specs.Moments.{Images}
use Rattle.session_run.specs.Safe.{CoveredOnceActive}
use Rattle.command_line.specs.declared.planned.Plan.{Plan}
use Rattle.command_line.specs.declared.planned.Plan.TheVariants as plan
use Rattle.command_line.specs.declared.serve_options.ServeOptions.{ServeOptions}
use Rattle.journal_commands.specs.Openings.{HadDeskAt, NotOpened}
use Rattle.serve_run.specs.Views.{Calls}
use Rattle.serve_run.specs.Clients.{LaneSeen, Parts}
use Rattle.serve_run.specs.Serving.{Serves, steps_in}
use Rattle.serve_run.specs.Starting.{ClosesUnstarted, StartsBy}
use Rattle.serve_run.specs.declared.start.Start.{Start}
use Rattle.serve_run.specs.declared.start.Unstarted.{Unstarted}

-- the plan is that of the validator client
abbrev pub IsServe : Plan → Type 0
IsServe (plan.Serve options) = Unit {0}
IsServe p = ⊥

-- nothing but the output was touched
pub record OnlyWrites {C : Type 0} (before now : Parts C) : Type 0 where
  pub signer : now.signer ≡ before.signer
  pub nodes : now.nodes ≡ before.nodes
  pub lanes : now.lanes ≡ before.lanes
  pub door : now.door ≡ before.door

-- The nodes did not give what is needed to begin: the disks are as they were, the output has the line that says why, no lane was made,
-- and nothing else was touched.
pub record NotStarted {D C : Type 0} (options : ServeOptions) (disks_before disks_now : Disks D) (before now : Parts C) (events : List DeskEvent) (result : Status) : Type 0 where
  pub why : Unstarted
  pub starts : StartsBy options.genesis before.nodes now.nodes (Err why)
  pub closes : ClosesUnstarted options.genesis why before.out now.out result
  pub disks : disks_now ≡ disks_before
  pub signer : now.signer ≡ before.signer
  pub lanes : now.lanes ≡ before.lanes
  pub door : now.door ≡ before.door
  pub unnoted : events ≡ []

-- The journal was not opened: beside the disks nothing but the output was touched.
pub record Unopened {D C : Type 0} (shows : D → List ℕ → Type 0) (moment : D → ℕ) (leaves : D → ℕ → List ℕ → Type 0) (faults : D → ℕ) (options : ServeOptions)
    (disks_before disks_now : Disks D) (before now : Parts C) (events : List DeskEvent) (result : Status) : Type 0 where
  pub refused : NotOpened shows moment leaves faults options.genesis disks_before disks_now before.out now.out events result
  pub writes : OnlyWrites before now

-- ---- one history of all threads

-- In one history the desk as it was opened came to what it was in the end. In it each thread settled only grants that it was given and had
-- not settled. The calls of the duty loop, of the connections and of each lane are these, and there are no others; one after another they
-- are calls of the desk.
pub record SharedRun {D : Type 0} (moment : D → ℕ) (leaves : D → ℕ → List ℕ → Type 0) (faults : D → ℕ) (opened : Seen D) (loop answered : Calls) (lanes : List Calls) (ended : Seen D) : Type 0 where
  pub log : History
  pub history : Legal (DeskStep moment leaves faults) MayMake [] opened log ended
  pub own_is : (k : ℕ) → own k log ≡ slice_index_or (loop ∷ answered ∷ lanes) k []
  pub path : Path moment leaves faults opened (calls_of log) ended

-- the number by which the history has a lane's calls
abbrev pub lane_number : ℕ → ℕ
lane_number lane = suc (suc lane)

-- What a lane posted it posted under a grant that the history gave it before and settled as sent after it, and in between nobody closed the
-- grant's key; and so it had signed whatever it had signed, however that grant was settled.
pub record LaneSpans (log : History) (lane : ℕ) (steps : List DutyStep) : Type 0 where
  pub posts : (front back : List DutyStep) (grant : OpenGrant) (p : Post) (r : DutyReply) → steps ≡ front ++ (Posts grant p, r) ∷ back → Spans log (lane_number lane) grant outcome.Sent
  pub signs : (front back : List DutyStep) (grant : OpenGrant) (c : DutyCall) (r : DutyReply) → IsSigned grant c → steps ≡ front ++ (c, r) ∷ back → (o : Outcome) × Spans log (lane_number lane) grant o

-- where a key was closed, no grant of it was in anybody's hand
abbrev pub ClosesIdleKeys : History → Type 0
ClosesIdleKeys log = (before later : History) (key : PubKey) (turn : Entry DeskCall DeskReply) → log ≡ before ++ turn ∷ later → ClosesKey key turn → NoneInHand before key

-- what lanes posted, from one on, so many
abbrev pub posted_from : ℕ → ℕ → List TurnStep → List (PubKey × Message)
posted_from lane zero steps = []
posted_from lane (suc n) steps = posted_in (lane_steps lane steps) ++ posted_from (suc lane) n steps

abbrev pub posted_in_lanes : ℕ → List TurnStep → List (PubKey × Message)
posted_in_lanes n steps = posted_from 0 n steps

-- What comes of serving over a desk with a journal, whichever state it stood for: what its threads called is one history, whose calls are
-- its machine's, and their images follow them; each post of a lane lies between the entry of its grant and the settling of it as sent,
-- and nobody closes the key between; and whatever was signed before, safe and covered by the past of its key once the key is active, is
-- safe beside all messages that the desk gave leave for, and so beside all that was posted.
pub record ServesDesk {D C : Type 0} (moment : D → ℕ) (leaves : D → ℕ → List ℕ → Type 0) (faults : D → ℕ) (see : C → LinkSeen) (clock : Option ℕ) (options : ServeOptions) (start : Start)
    (opened ended : Seen D) (before now : Parts C) (result : Status) : Type 0 where
  pub loop : Calls
  pub answered : Calls
  pub lanes : List Calls
  pub serves : Serves see clock options start before now loop answered lanes result
  pub shared : SharedRun moment leaves faults opened loop answered lanes ended
  pub images : Images moment leaves faults opened ended (calls_of shared.log)
  pub machine : (state : State) → DeskStands opened.contents state → CanMake state (calls_of shared.log) × DeskStands ended.contents (state_after state (calls_of shared.log))
      × (ended.contents.events ≡ opened.contents.events ++ noted_of state (calls_of shared.log))
  pub spans : (lane : ℕ) → lane < length lanes → LaneSpans shared.log lane (lane_steps lane (steps_in serves))
  pub closings : ClosesIdleKeys shared.log
  pub granted_safe : (state : State) (signed : List (PubKey × Message)) → DeskStands opened.contents state → SafeList signed → All (CoveredOnceActive state (calls_of shared.log)) signed
      → SafeList (signed ++ granted_in (calls_of shared.log))
  pub safe : (state : State) (signed : List (PubKey × Message)) → DeskStands opened.contents state → SafeList signed → All (CoveredOnceActive state (calls_of shared.log)) signed
      → SafeList (signed ++ posted_in_lanes (length lanes) (steps_in serves))

-- the desk was lent to the threads of a client, which served over it, and taken back
pub record Shares {D C : Type 0} (moment : D → ℕ) (leaves : D → ℕ → List ℕ → Type 0) (faults : D → ℕ) (see : C → LinkSeen) (clock : Option ℕ) (options : ServeOptions) (start : Start)
    (opened ended : Seen D) (before now : Parts C) (result : Status) : Type 0 where
  pub loop : Calls
  pub answered : Calls
  pub lanes : List Calls
  pub serves : Serves see clock options start before now loop answered lanes result
  pub shared : SharedRun moment leaves faults opened loop answered lanes ended

-- memory ran out before the desk was called: it and all else is as it was
pub record Unserved {D C : Type 0} (opened ended : Seen D) (before now : Parts C) (result : Status) : Type 0 where
  pub is : result ≡ status.OutOfMemory
  pub desk : ended ≡ opened
  pub parts : now ≡ before

abbrev pub ServedAs : {D C : Type 0} → (D → ℕ) → (D → ℕ → List ℕ → Type 0) → (D → ℕ) → (C → LinkSeen) → Option ℕ → ServeOptions → Start → Seen D → Seen D → Parts C → Parts C → Status → Type 0
ServedAs moment leaves faults see clock options start opened ended before now result =
    Shares moment leaves faults see clock options start opened ended before now result ⊎ Unserved opened ended before now result

-- ---- lanes

-- a service of its own: it tells what this one has told, and its counts are at 0
pub record IsTwin (signer twin : SignerSeen) : Type 0 where
  pub told : twin.told ≡ signer.told
  pub faults : twin.faults ≡ 0
  pub denials : twin.denials ≡ 0

-- a node of its own: so it does, and it counts as syncing as this one does
pub record IsNodeTwin (node twin : Asked) : Type 0 where
  pub syncing : twin.syncing ≡ node.syncing
  pub told : twin.told ≡ node.told
  pub faults : twin.faults ≡ 0

pub record IsLaneOf {C : Type 0} (parts : Parts C) (lane : LaneSeen) : Type 0 where
  pub signer : IsTwin parts.signer lane.signer
  pub nodes : AllZip IsNodeTwin parts.nodes lane.nodes

-- the parts with so many lanes, each of which has a signing service and nodes of its own
pub record HasLanes {C : Type 0} (parts : Parts C) (count : ℕ) (now : Parts C) : Type 0 where
  pub lanes : List LaneSeen
  pub count_is : length lanes ≡ count
  pub each : All (IsLaneOf parts) lanes
  pub is : now ≡ record parts { lanes = lanes }

-- no lanes were made, since memory ran out, and nothing was touched
pub record NotEquipped {D C : Type 0} (disks_before disks_now : Disks D) (before now : Parts C) (events : List DeskEvent) (result : Status) : Type 0 where
  pub is : result ≡ status.OutOfMemory
  pub disks : disks_now ≡ disks_before
  pub parts : now ≡ before
  pub unnoted : events ≡ []

-- At the epoch of a moment that the clock showed the journal was opened, or refused.
pub record OverJournal {D C : Type 0} (shows : D → List ℕ → Type 0) (moment : D → ℕ) (leaves : D → ℕ → List ℕ → Type 0) (faults : D → ℕ) (see : C → LinkSeen) (clock : Option ℕ) (options : ServeOptions) (start : Start)
    (disks_before disks_now : Disks D) (before now : Parts C) (events : List DeskEvent) (result : Status) : Type 0 where
  pub shown : ℕ
  pub is_shown : IsNow clock shown
  pub serves : Unopened shows moment leaves faults options disks_before disks_now before now events result
      ⊎ HadDeskAt shows moment leaves faults options.genesis options.watch (epoch_of (slot_of start.genesis_time shown)) disks_before disks_now events
      (λ opened ended. ServesDesk moment leaves faults see clock options start opened ended before now result ⊎ Unserved opened ended before now result)

-- the parts with other nodes
abbrev pub with_nodes : {C : Type 0} → Parts C → List Asked → Parts C
with_nodes parts nodes = record parts { nodes = nodes }

-- lanes were made, and after that the journal was opened, or refused
pub record Equipped {D C : Type 0} (shows : D → List ℕ → Type 0) (moment : D → ℕ) (leaves : D → ℕ → List ℕ → Type 0) (faults : D → ℕ) (see : C → LinkSeen) (clock : Option ℕ) (options : ServeOptions) (start : Start)
    (disks_before disks_now : Disks D) (before now : Parts C) (events : List DeskEvent) (result : Status) : Type 0 where
  pub equipped : Parts C
  pub has : HasLanes before options.lanes equipped
  pub over : OverJournal shows moment leaves faults see clock options start disks_before disks_now equipped now events result

-- the nodes gave genesis and fork, and after that the client was equipped
pub record Started {D C : Type 0} (shows : D → List ℕ → Type 0) (moment : D → ℕ) (leaves : D → ℕ → List ℕ → Type 0) (faults : D → ℕ) (see : C → LinkSeen) (clock : Option ℕ) (options : ServeOptions)
    (disks_before disks_now : Disks D) (before now : Parts C) (events : List DeskEvent) (result : Status) : Type 0 where
  pub start : Start
  pub nodes : List Asked
  pub starts : StartsBy options.genesis before.nodes nodes (Ok start)
  pub goes_on : NotEquipped disks_before disks_now (with_nodes before nodes) now events result
      ⊎ Equipped shows moment leaves faults see clock options start disks_before disks_now (with_nodes before nodes) now events result

-- how it ends
abbrev pub ServeEnds : {D C : Type 0} → (D → List ℕ → Type 0) → (D → ℕ) → (D → ℕ → List ℕ → Type 0) → (D → ℕ) → (C → LinkSeen) → Option ℕ → ServeOptions → Disks D → Disks D → Parts C → Parts C → List DeskEvent → Status → Type 0
ServeEnds shows moment leaves faults see clock options disks_before disks_now before now events result =
    NotStarted options disks_before disks_now before now events result
    ⊎ Started shows moment leaves faults see clock options disks_before disks_now before now events result

-- what a status tells: the output, a disk or the door failed; the others tell of none of these
abbrev pub Because : (Writes Disk Door : Type 0) → Status → Type 0
Because Writes Disk Door status.WriteFault = Writes
Because Writes Disk Door status.DiskFault = Disk
Because Writes Disk Door status.DoorFault = Door
Because Writes Disk Door status.Done = Unit {0}
Because Writes Disk Door status.OutOfMemory = Unit {0}
Because Writes Disk Door status.NoNode = Unit {0}
Because Writes Disk Door status.Damaged = Unit {0}
Because Writes Disk Door status.GenesisDiffers = Unit {0}
Because Writes Disk Door (status.InputTooLong limit.Keys) = Unit {0}
Because Writes Disk Door s = ⊥
