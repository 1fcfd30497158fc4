-- A run of the program as the validator client, as events of one client after those of its earlier runs.
use Rattle.std.specs.Prelude.{◌≡◌, ◌⊎◌, ◌≤◌, ℕ, Bool, List, [], ◌∷◌, ◌++◌, Contains, length, map, Option, Result, Ok}
use Rattle.std.specs.List.{AllZip}
use Rattle.std.proofs.Common.{inl, inr}
use Rattle.edge_kit.specs.declared.bytes.PubKey.{PubKey}
use Rattle.edge_kit.specs.declared.bytes.Root.{Root}
use Rattle.edge_kit.specs.declared.disk.Disks.{Disks}
use Rattle.edge_kit.specs.Tellings.{Tells}
use Rattle.edge_clock.specs.Clocks.{IsNow}
use Rattle.slash_defs.specs.declared.message.Message.{Message}
use Rattle.node_calls.specs.declared.ask.Ask.{Ask}
use Rattle.node_calls.specs.declared.answer.Answer.{Answer}
use Rattle.node_calls.specs.declared.answer.NodeFault.{NodeFault}
use Rattle.node_calls.specs.declared.told.NodeCall.{NodeCall}
use Rattle.node_calls.specs.declared.told.NodeCall.TheVariants as told
use Rattle.node_fallback.specs.Seen.{Seen as Asked}
use Rattle.desk_machine.specs.States.{no_state}
use Rattle.desk_machine.specs.Machine.{IsUp}
use Rattle.desk_machine.specs.declared.event.DeskEvent.{DeskEvent}
use Rattle.check_sign.specs.Contents.{Seen, disks_in}
use Rattle.check_sign.specs.Crashes.{Files, LeftAt, Moments, NotAfter, now_of}
use Rattle.check_sign.specs.Opening.{Opening}
use Rattle.check_sign.specs.Paths.{IsDuring, Path}
use Rattle.check_sign.specs.Standing.{DeskStands}
use Rattle.desk_seat.specs.Turns.{calls_of}
use Rattle.key_custody.specs.Once.{IsWhole}
use Rattle.world_law.specs.Worlds.{Event}
use Rattle.world_law.specs.Worlds.Event.{Crash}
use Rattle.world_law.specs.Clients.{RunsFrom, state_over, own, messages_in}
use Rattle.serve_world.specs.Others.{AreOfAnother}
use Rattle.serve_world.specs.SessionRunning.{LeftBy, StaysSo}
use Rattle.serve_world.specs.Starting.{Show}
use Rattle.serve_world.specs.Stopping.{StopsIn, StopsBehind}
use Rattle.duty_turns.specs.Times.{epoch_of, slot_of}
use Rattle.keymanager_api.specs.Serving.{LinkSeen}
use Rattle.command_line.specs.declared.serve_options.ServeOptions.{ServeOptions}
use Rattle.program_end.specs.declared.closing.ClosingLine.{ClosingLine}
use Rattle.program_end.specs.declared.status.Status.{Status}
use Rattle.journal_commands.specs.Views.{ClosedBy}
use Rattle.serve_run.specs.Clients.{Parts}
use Rattle.serve_run.specs.Ends.{HasLanes, OnlyWrites, ServesDesk, Unserved, posted_in_lanes, with_nodes}
use Rattle.serve_run.specs.Serving.{steps_in}
use Rattle.serve_run.specs.Starting.{StartsBy}
use Rattle.serve_run.specs.declared.start.Start.{Start}
use Rattle.serve_run.specs.declared.start.Unstarted.{Unstarted as NoStart}
use Rattle.validator_cli.specs.Clients.{ClientRuns}
use Rattle.serve_world.specs.Acts.{AreActs, call_in}
use Rattle.serve_world.specs.Weaving.{Act, done_in, turns_in}

-- the events of a client before a stop, and its start, at this epoch and with the watch on or off
abbrev pub restarted : (genesis : Root) (client : ℕ) (past : List Event) (files : Files) → StopsIn genesis client (no_state genesis) past files → ℕ → Bool → List Event
restarted genesis client past files stop now watch = stop.front ++ Crash client stop.within stop.done now watch ∷ []

-- what came of a desk that was opened: it was served with, or memory ran out before it was called
abbrev pub CameOf : {D C : Type 0} → (D → ℕ) → (D → ℕ → List ℕ → Type 0) → (D → ℕ) → (C → LinkSeen) → Option ℕ → ServeOptions → Start → Seen D → Seen D → Parts C → Parts C → Status → Type 0
CameOf moment leaves faults see clock options start opened closed before now result = ServesDesk moment leaves faults see clock options start opened closed before now result ⊎ Unserved opened closed before now result

-- acts that tell what was done: none where the desk was not called
abbrev pub TellsOf : {D C : Type 0} (moment : D → ℕ) (leaves : D → ℕ → List ℕ → Type 0) (faults : D → ℕ) (see : C → LinkSeen) (clock : Option ℕ) (options : ServeOptions) (start : Start) (opened closed : Seen D) (before now : Parts C) (result : Status)
    → ℕ → CameOf moment leaves faults see clock options start opened closed before now result → List (Act Event) → Type 0
TellsOf moment leaves faults see clock options start opened closed before now result client (inl s) acts = AreActs client s acts
TellsOf moment leaves faults see clock options start opened closed before now result client (inr u) acts = acts ≡ []

-- and what lanes posted
abbrev pub posted_of : {D C : Type 0} (moment : D → ℕ) (leaves : D → ℕ → List ℕ → Type 0) (faults : D → ℕ) (see : C → LinkSeen) (clock : Option ℕ) (options : ServeOptions) (start : Start) (opened closed : Seen D) (before now : Parts C) (result : Status)
    → CameOf moment leaves faults see clock options start opened closed before now result → List (PubKey × Message)
posted_of moment leaves faults see clock options start opened closed before now result (inl s) = posted_in_lanes (length s.lanes) (steps_in s.serves)
posted_of moment leaves faults see clock options start opened closed before now result (inr u) = []

-- Acts of a client after its start: they are events of it that may happen there, whatever lanes posted is sent in them, and in the end
-- the desk stands for the state after them. A crash later than the opening leaves what a stop leaves after the start and all of
-- these acts that were over by then, at moments within one of the calls that followed or after the last.
pub record Behind {D : Type 0} (moment : D → ℕ) (leaves : D → ℕ → List ℕ → Type 0) (faults : D → ℕ) (genesis : Root) (client : ℕ) (front : List Event) (acts : List (Act Event)) (posted : List (PubKey × Message)) (opened closed : Seen D) (last : Disks D) : Type 0 where
  pub at_client : own client (done_in acts) ≡ done_in acts
  pub runs : RunsFrom (no_state genesis) (front ++ done_in acts)
  pub posts : (x : PubKey × Message) → Contains posted x → Contains (messages_in (done_in acts)) x
  pub stands : DeskStands closed.contents (state_over (no_state genesis) (front ++ done_in acts))
  pub stops : (over rest : List (Act Event)) (here : Seen D) → acts ≡ over ++ rest → Path moment leaves faults opened (calls_of (turns_in call_in over)) here
      → (path : Path moment leaves faults here (calls_of (turns_in call_in rest)) closed) (k : Moments) (files : Files) → IsDuring moment leaves faults here (calls_of (turns_in call_in rest)) closed path k → LeftAt leaves last k files
      → StopsBehind genesis client (no_state genesis) (front ++ done_in over) (front ++ done_in acts) files

-- Over disks and with parts that were handed in, a desk was opened. Before that the nodes gave genesis and fork; then lanes were made, of
-- the parts as they were then; and the epoch is that of a moment that the clock showed. The desk that was opened stands for what the client's
-- start leaves, a state in which no key without a past has a state and no disk has failed. There are acts that tell what was done from then on, and all such acts are those of the client after its start. A crash up
-- to the opening's end leaves what a stop before the start leaves.
pub record Serviced {D C : Type 0} (moment : D → ℕ) (leaves : D → ℕ → List ℕ → Type 0) (faults : D → ℕ) (see : C → LinkSeen) (clock : Option ℕ) (options : ServeOptions) (before now_parts : Parts C) (noted : List DeskEvent) (ended : Status) (client : ℕ) (past : List Event) (files : Files)
    (stop : StopsIn options.genesis client (no_state options.genesis) past files) (first last : Disks D) : Type 0 where
  pub start : Start
  pub nodes : List Asked
  pub starts : StartsBy options.genesis before.nodes nodes (Ok start)
  pub equipped : Parts C
  pub has : HasLanes (with_nodes before nodes) options.lanes equipped
  pub shown : ℕ
  pub is_shown : IsNow clock shown
  pub epoch : ℕ
  pub epoch_is : epoch ≡ epoch_of (slot_of start.genesis_time shown)
  pub opened : Seen D
  pub closed : Seen D
  pub begins : DeskStands opened.contents (state_over (no_state options.genesis) (restarted options.genesis client past files stop epoch options.watch))
  pub whole : IsWhole (state_over (no_state options.genesis) (restarted options.genesis client past files stop epoch options.watch))
  pub up : IsUp (state_over (no_state options.genesis) (restarted options.genesis client past files stop epoch options.watch))
  pub noted_is : noted ≡ closed.contents.events
  pub last_is : last ≡ disks_in closed
  pub came : CameOf moment leaves faults see clock options start opened closed equipped now_parts ended
  pub told : (acts : List (Act Event)) × TellsOf moment leaves faults see clock options start opened closed equipped now_parts ended client came acts
  pub behind : (acts : List (Act Event)) → TellsOf moment leaves faults see clock options start opened closed equipped now_parts ended client came acts
      → Behind moment leaves faults options.genesis client (restarted options.genesis client past files stop epoch options.watch) acts (posted_of moment leaves faults see clock options start opened closed equipped now_parts ended came) opened closed last
  pub opening : (k : Moments) → NotAfter (now_of moment first) k → NotAfter k (now_of moment (disks_in opened)) → LeftBy leaves options.genesis client past last k

-- a question with its reply, as a node tells it
abbrev pub question : Ask × Result Answer NodeFault → NodeCall
question x = told.Asked x.0 x.1

-- a node told these questions more and no post; its count of faults has not fallen, and it counts as syncing as it did
pub record OnlyAsked (old new : Asked) : Type 0 where
  pub asks : List (Ask × Result Answer NodeFault)
  pub tells : Tells old.told new.told (map question asks)
  pub later : old.faults ≤ new.faults
  pub syncing : new.syncing ≡ old.syncing

-- Of all parts but the output only the nodes were touched: they were asked what a start asks, and told no post. The signing service and the
-- door are as before; and so are the lanes, or new ones were made of what the parts were then, and nothing was done with them.
pub record OnlyBegins {C : Type 0} (options : ServeOptions) (before now : Parts C) : Type 0 where
  pub signer : now.signer ≡ before.signer
  pub door : now.door ≡ before.door
  pub nodes : (now.nodes ≡ before.nodes) ⊎ ((result : Result Start NoStart) × StartsBy options.genesis before.nodes now.nodes result)
  pub unposted : AllZip OnlyAsked before.nodes now.nodes
  pub lanes : (now.lanes ≡ before.lanes) ⊎ ((made : Parts C) × HasLanes (with_nodes before now.nodes) options.lanes made × OnlyWrites made now)

-- No desk was opened: the client signed and posted nothing and answered no connection, and noted nothing; and a crash leaves what one before
-- would have left, of a client of this chain. This is what the parts tell, with some of the nodes counting as syncing. One line closed the
-- output, or memory ran out and nothing was written.
pub record Unstarted {D C : Type 0} (moment : D → ℕ) (leaves : D → ℕ → List ℕ → Type 0) (genesis : Root) (options : ServeOptions) (client : ℕ) (past : List Event) (before : Parts C) (now : List Bool → Parts C) (noted : List DeskEvent) (ended : Status) (first last : Disks D) : Type 0 where
  pub stays : StaysSo moment leaves genesis client past first last
  pub none : noted ≡ []
  pub flags : List Bool
  pub begins : OnlyBegins options before (now flags)
  pub line : Option ClosingLine
  pub closes : ClosedBy line before.out (now flags).out ended

-- However a run of the program ends that is asked for the validator client, over disks that show what a stop of the client left, and of
-- which a crash leaves such files: no desk was opened, or it was, by the disks that were handed in.
abbrev pub ServiceGoesOn : {D C : Type 0} → (D → List ℕ → Type 0) → (D → ℕ) → (D → ℕ → List ℕ → Type 0) → (D → ℕ) → (C → LinkSeen) → Type 0
ServiceGoesOn {D} {C} shows moment leaves faults see = (clock : Option ℕ) (options : ServeOptions) (disks_before disks_now : Disks D) (before : Parts C) (now : List Bool → Parts C) (noted : List DeskEvent) (ended : Status)
    → ClientRuns shows moment leaves faults see clock options disks_before disks_now before now noted ended
    → (client : ℕ) (past : List Event) (files : Files) → Show shows disks_before files → (stop : StopsIn options.genesis client (no_state options.genesis) past files) → LeftBy leaves options.genesis client past disks_before (now_of moment disks_before)
    → Unstarted moment leaves options.genesis options client past before now noted ended disks_before disks_now
    ⊎ ((flags : List Bool) × (x : Serviced moment leaves faults see clock options before (now flags) noted ended client past files stop disks_before disks_now)
    × Opening shows moment leaves faults disks_before options.genesis options.watch x.epoch x.opened)

-- However such a run ends whose words name another chain than that of the journal, whose client a stop left these files: no desk was opened,
-- and the disks show these files still. So a run for the client's own chain finds what it would have found before.
abbrev pub OtherServiceIdles : {D C : Type 0} → (D → List ℕ → Type 0) → (D → ℕ) → (D → ℕ → List ℕ → Type 0) → (D → ℕ) → (C → LinkSeen) → Type 0
OtherServiceIdles {D} {C} shows moment leaves faults see = (clock : Option ℕ) (options : ServeOptions) (disks_before disks_now : Disks D) (before : Parts C) (now : List Bool → Parts C) (noted : List DeskEvent) (ended : Status)
    → ClientRuns shows moment leaves faults see clock options disks_before disks_now before now noted ended
    → (genesis : Root) (client : ℕ) (past : List Event) (files : Files) → AreOfAnother options.genesis files → Show shows disks_before files → StopsIn genesis client (no_state genesis) past files
    → LeftBy leaves genesis client past disks_before (now_of moment disks_before)
    → Unstarted moment leaves genesis options client past before now noted ended disks_before disks_now × Show shows disks_now files
