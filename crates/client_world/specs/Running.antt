-- A run of the program as a signing proxy, as events of one client after those of its earlier runs.
use Rattle.std.specs.Prelude.{◌≡◌, ◌⊎◌, ℕ, false, List, [], Option}
use Rattle.edge_kit.specs.declared.bytes.Root.{Root}
use Rattle.edge_kit.specs.declared.disk.Disks.{Disks}
use Rattle.edge_clock.specs.Clocks.{IsNow}
use Rattle.desk_machine.specs.States.{no_state}
use Rattle.desk_machine.specs.Machine.{IsUp}
use Rattle.desk_machine.specs.declared.event.DeskEvent.{DeskEvent}
use Rattle.client_calls.specs.Seats.{SignerSeen}
use Rattle.check_sign.specs.Contents.{Seen, disks_in}
use Rattle.check_sign.specs.Crashes.{Files, Moments, NotAfter, now_of}
use Rattle.check_sign.specs.Opening.{Opening}
use Rattle.check_sign.specs.Standing.{DeskStands}
use Rattle.key_custody.specs.Once.{IsWhole}
use Rattle.world_law.specs.Worlds.{Event}
use Rattle.world_law.specs.Clients.{state_over}
use Rattle.duty_turns.specs.Times.{epoch_of, slot_of}
use Rattle.keymanager_api.specs.Serving.{LinkSeen}
use Rattle.command_line.specs.declared.proxy_options.ProxyOptions.{ProxyOptions}
use Rattle.program_end.specs.declared.closing.ClosingLine.{ClosingLine}
use Rattle.program_end.specs.declared.status.Status.{Status}
use Rattle.journal_commands.specs.Views.{ClosedBy}
use Rattle.proxy_run.specs.Begun.{joined, sent_of}
use Rattle.proxy_run.specs.Ends.{HasLanes, OnlyWrites, ProxyEnds, ServesDesk, signatures}
use Rattle.proxy_run.specs.Parts.{Parts}
use Rattle.serve_world.specs.Others.{AreOfAnother}
use Rattle.serve_world.specs.Running.{Behind, restarted}
use Rattle.serve_world.specs.SessionRunning.{LeftBy, StaysSo}
use Rattle.serve_world.specs.Starting.{Show}
use Rattle.serve_world.specs.Stopping.{StopsIn}
use Rattle.serve_world.specs.Weaving.{Act}
use Rattle.client_world.specs.Acts.{AreProxyActs}

-- Over the disks that were handed in a desk was opened, its keys not watched. Before that each lane was given another access to the signing
-- service; and the epoch is that of a moment that the clock showed. The desk that was opened stands for what the client's start leaves, a
-- state in which no key without a past has a state and no disk has failed. There are acts that tell what was done from then on, and all such
-- acts are those of the client after its start. A crash up to the opening's end leaves what a stop before the start leaves.
pub record Proxied {D C : Type 0} (moment : D → ℕ) (leaves : D → ℕ → List ℕ → Type 0) (faults : D → ℕ) (see : C → LinkSeen) (clock : Option ℕ) (options : ProxyOptions) (signer : SignerSeen) (before now : Parts C) (noted : List DeskEvent) (ended : Status) (client : ℕ) (past : List Event) (files : Files)
    (stop : StopsIn options.genesis client (no_state options.genesis) past files) (first last : Disks D) : Type 0 where
  pub equipped : Parts C
  pub has : HasLanes signer options.lanes before equipped
  pub shown : ℕ
  pub is_shown : IsNow clock shown
  pub epoch : ℕ
  pub epoch_is : epoch ≡ epoch_of (slot_of options.genesis_time shown)
  pub opened : Seen D
  pub closed : Seen D
  pub begins : DeskStands opened.contents (state_over (no_state options.genesis) (restarted options.genesis client past files stop epoch false))
  pub whole : IsWhole (state_over (no_state options.genesis) (restarted options.genesis client past files stop epoch false))
  pub up : IsUp (state_over (no_state options.genesis) (restarted options.genesis client past files stop epoch false))
  pub noted_is : noted ≡ closed.contents.events
  pub last_is : last ≡ disks_in closed
  pub serves : ServesDesk moment leaves faults see clock options opened closed equipped now ended
  pub told : (acts : List (Act Event)) × AreProxyActs client serves acts
  pub behind : (acts : List (Act Event)) → AreProxyActs client serves acts
      → Behind moment leaves faults options.genesis client (restarted options.genesis client past files stop epoch false) acts (sent_of (joined (signatures serves.shares))) opened closed last
  pub opening : (k : Moments) → NotAfter (now_of moment first) k → NotAfter k (now_of moment (disks_in opened)) → LeftBy leaves options.genesis client past last k

-- The door is as before; and so are the lanes, or each was given another access to the signing service, with which nothing was done.
pub record OnlyEquips {C : Type 0} (options : ProxyOptions) (signer : SignerSeen) (before now : Parts C) : Type 0 where
  pub door : now.door ≡ before.door
  pub lanes : (now.lanes ≡ before.lanes) ⊎ ((made : Parts C) × HasLanes signer options.lanes before made × OnlyWrites made now)

-- No desk was opened: the proxy had nothing signed, answered no connection and noted nothing; and a crash leaves what one before would have
-- left, of a client of this chain. One line closed the output, or memory ran out and nothing was written.
pub record Unproxied {D C : Type 0} (moment : D → ℕ) (leaves : D → ℕ → List ℕ → Type 0) (genesis : Root) (options : ProxyOptions) (signer : SignerSeen) (client : ℕ) (past : List Event) (before now : Parts C) (noted : List DeskEvent) (ended : Status) (first last : Disks D) : Type 0 where
  pub stays : StaysSo moment leaves genesis client past first last
  pub none : noted ≡ []
  pub equips : OnlyEquips options signer before now
  pub line : Option ClosingLine
  pub closes : ClosedBy line before.out now.out ended

-- However a run of the program ends that is asked for the signing proxy, over disks that show what a stop of the client left, and of which a
-- crash leaves such files: no desk was opened, or it was, by the disks that were handed in.
abbrev pub ProxyGoesOn : {D C : Type 0} → (D → List ℕ → Type 0) → (D → ℕ) → (D → ℕ → List ℕ → Type 0) → (D → ℕ) → (C → LinkSeen) → Type 0
ProxyGoesOn {D} {C} shows moment leaves faults see = (clock : Option ℕ) (options : ProxyOptions) (signer : SignerSeen) (disks_before disks_now : Disks D) (before now : Parts C) (noted : List DeskEvent) (ended : Status)
    → ProxyEnds shows moment leaves faults see clock options signer disks_before disks_now before now noted ended
    → (client : ℕ) (past : List Event) (files : Files) → Show shows disks_before files → (stop : StopsIn options.genesis client (no_state options.genesis) past files) → LeftBy leaves options.genesis client past disks_before (now_of moment disks_before)
    → Unproxied moment leaves options.genesis options signer client past before now noted ended disks_before disks_now
    ⊎ ((x : Proxied moment leaves faults see clock options signer before now noted ended client past files stop disks_before disks_now)
    × Opening shows moment leaves faults disks_before options.genesis false x.epoch x.opened)

-- However such a run ends whose words name another chain than that of the journal, whose client a stop left these files: no desk was opened,
-- and the disks show these files still. So a run for the client's own chain finds what it would have found before.
abbrev pub OtherProxyIdles : {D C : Type 0} → (D → List ℕ → Type 0) → (D → ℕ) → (D → ℕ → List ℕ → Type 0) → (D → ℕ) → (C → LinkSeen) → Type 0
OtherProxyIdles {D} {C} shows moment leaves faults see = (clock : Option ℕ) (options : ProxyOptions) (signer : SignerSeen) (disks_before disks_now : Disks D) (before now : Parts C) (noted : List DeskEvent) (ended : Status)
    → ProxyEnds shows moment leaves faults see clock options signer disks_before disks_now before now noted ended
    → (genesis : Root) (client : ℕ) (past : List Event) (files : Files) → AreOfAnother options.genesis files → Show shows disks_before files → StopsIn genesis client (no_state genesis) past files
    → LeftBy leaves genesis client past disks_before (now_of moment disks_before)
    → Unproxied moment leaves genesis options signer client past before now noted ended disks_before disks_now × Show shows disks_now files
