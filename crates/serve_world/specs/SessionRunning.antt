-- A run of the program that serves a session, as events of one client after those of its earlier runs.
use Rattle.std.specs.Prelude.{◌≡◌, ◌⊎◌, ℕ, Bool, false, List, [], ◌∷◌, ◌++◌, Option}
use Rattle.edge_kit.specs.declared.bytes.Root.{Root}
use Rattle.edge_kit.specs.declared.disk.Disks.{Disks}
use Rattle.phase0_types.specs.declared.fork.Fork.{Fork}
use Rattle.service_url.specs.Services.{Service}
use Rattle.desk_machine.specs.States.{State, no_state}
use Rattle.desk_machine.specs.declared.call.DeskCall.{DeskCall}
use Rattle.desk_machine.specs.declared.call.DeskReply.{DeskReply}
use Rattle.desk_machine.specs.declared.event.DeskEvent.{DeskEvent}
use Rattle.check_sign.specs.Contents.{Seen, disks_in}
use Rattle.check_sign.specs.Crashes.{Files, LeftAt, Moments, NotAfter, now_of}
use Rattle.check_sign.specs.Paths.{IsDuring, Path}
use Rattle.check_sign.specs.Standing.{DeskStands}
use Rattle.key_custody.specs.Once.{IsWhole}
use Rattle.world_law.specs.Worlds.{Event}
use Rattle.world_law.specs.Worlds.Event.{Crash}
use Rattle.world_law.specs.Clients.{RunsFrom, state_over, own, messages_in}
use Rattle.program_end.specs.declared.status.Status.{Status}
use Rattle.command_line.specs.Plans.{Asked, session, merge, show}
use Rattle.session_run.specs.Acts.{AtBench}
use Rattle.session_run.specs.Ends.{Ends}
use Rattle.session_run.specs.Runs.{Run}
use Rattle.client_calls.specs.Steps.{desk_calls}
use Rattle.session_run.specs.Turns.{Turn, made, moment_after, sent}
use Rattle.validator_cli.specs.Endings.{IsUntouched, Outside, RunEnds, bench_at, session_chain, wires_of}
use Rattle.serve_world.specs.Events.{calls_of, session_events, turn_events}
use Rattle.serve_world.specs.Starting.{Show}
use Rattle.serve_world.specs.Stopping.{StopsIn, StopsBehind}

-- the events of a client before a stop, and its start, at epoch 0 and with the watch on or off
abbrev pub started : (genesis : Root) (client : ℕ) (past : List Event) (files : Files) → StopsIn genesis client (no_state genesis) past files → Bool → List Event
started genesis client past files stop watch = stop.front ++ Crash client stop.within stop.done 0 watch ∷ []

-- what a crash at these moments leaves of the disks is what a stop leaves after the first few events of the client
abbrev pub LeftBy : {D : Type 0} → (D → ℕ → List ℕ → Type 0) → Root → ℕ → List Event → Disks D → Moments → Type 0
LeftBy leaves genesis client events disks k = (files : Files) → LeftAt leaves disks k files → StopsIn genesis client (no_state genesis) events files

-- a crash at any moment leaves what such a stop leaves
abbrev pub StaysSo : {D : Type 0} → (D → ℕ) → (D → ℕ → List ℕ → Type 0) → Root → ℕ → List Event → Disks D → Disks D → Type 0
StaysSo moment leaves genesis client past first now = (k : Moments) → NotAfter (now_of moment first) k → NotAfter k (now_of moment now) → LeftBy leaves genesis client past now k

-- no desk was opened: the client did nothing, and nothing was read, asked or noted; and a crash leaves what one before would have left
pub record Idle {D : Type 0} (moment : D → ℕ) (leaves : D → ℕ → List ℕ → Type 0) (genesis : Root) (client : ℕ) (past : List Event) (before now : Outside) (noted : List DeskEvent) (first last : Disks D) : Type 0 where
  pub stays : StaysSo moment leaves genesis client past first last
  pub untouched : IsUntouched before now
  pub none : noted ≡ []

-- A desk was opened, and lines were served: what they did are events of the client that may happen after its start, in the state
-- that the start left, in which no key without a past has a state; so much is sent; and in the end the desk stands for the state after them. A crash up to the opening's end
-- leaves what a stop before the start leaves; and one later, what a stop leaves after the start and all events of the lines that were
-- over by then, as the disks stood after them, at moments within one of the calls that followed or after the last.
pub record Served {D : Type 0} (moment : D → ℕ) (leaves : D → ℕ → List ℕ → Type 0) (faults : D → ℕ) (genesis : Root) (fork : Fork) (altair : Option ℕ) (watch : Bool) (before now : Outside) (noted : List DeskEvent) (ended : Status) (client : ℕ) (past : List Event) (files : Files)
    (stop : StopsIn genesis client (no_state genesis) past files) (first last : Disks D) : Type 0 where
  pub opened : Seen D
  pub closed : Seen D
  pub noted_is : noted ≡ closed.contents.events
  pub last_is : last ≡ disks_in closed
  pub ends : Ends moment leaves faults (session_chain genesis fork altair) (bench_at opened before) (bench_at closed now) (wires_of before.view) (wires_of now.view) ended
  pub state : State
  pub state_is : state ≡ state_over (no_state genesis) (started genesis client past files stop watch)
  pub whole : IsWhole state
  pub events : List Event
  pub events_are : events ≡ session_events moment leaves faults (session_chain genesis fork altair) (bench_at opened before) (bench_at closed now) (wires_of before.view) (wires_of now.view) ended ends client
  pub at_client : own client events ≡ events
  pub runs : RunsFrom (no_state genesis) (started genesis client past files stop watch ++ events)
  pub sends : messages_in events ≡ sent ends.turns
  pub stands : DeskStands closed.contents (state_over (no_state genesis) (started genesis client past files stop watch ++ events))
  pub opening : (k : Moments) → NotAfter (now_of moment first) k → NotAfter k (now_of moment (disks_in opened)) → LeftBy leaves genesis client past last k
  pub stops : (over rest : List Turn) (here : AtBench D) → ends.turns ≡ over ++ rest → Run moment leaves faults (session_chain genesis fork altair) 0 over (bench_at opened before) here
      → Run moment leaves faults (session_chain genesis fork altair) (moment_after 0 over) rest here ends.mid
      → (path : Path moment leaves faults here.desk (made rest ++ desk_calls ends.unanswered.steps) closed) (k : Moments) (c : Files) → IsDuring moment leaves faults here.desk (made rest ++ desk_calls ends.unanswered.steps) closed path k → LeftAt leaves last k c
      → StopsBehind genesis client (no_state genesis) (started genesis client past files stop watch ++ turn_events client over) (started genesis client past files stop watch ++ events) c

-- However a run of the program that is asked for a session ends, over disks that show what a stop of the client left, and of which a
-- crash leaves such files: no desk was opened, or lines were served.
abbrev pub RunGoesOn : {D : Type 0} → (D → List ℕ → Type 0) → (D → ℕ) → (D → ℕ → List ℕ → Type 0) → (D → ℕ) → Type 0
RunGoesOn {D} shows moment leaves faults = (genesis : Root) (journal : Option (List ℕ)) (fork : Fork) (altair : Option ℕ) (signer_at : Option Service) (watch : Bool) (disks_before disks_now : Disks D) (before now : Outside) (noted : List DeskEvent) (ended : Status)
    → RunEnds shows moment leaves faults (session genesis journal fork altair signer_at watch) disks_before disks_now before now noted ended
    → (client : ℕ) (past : List Event) (files : Files) → Show shows disks_before files → (stop : StopsIn genesis client (no_state genesis) past files) → LeftBy leaves genesis client past disks_before (now_of moment disks_before)
    → Idle moment leaves genesis client past before now noted disks_before disks_now
    ⊎ Served moment leaves faults genesis fork altair watch before now noted ended client past files stop disks_before disks_now

-- A desk was opened, its keys not watched, and these calls were made of it, under which nothing is sent: they are events of the client
-- in the same way.
pub record Called {D : Type 0} (moment : D → ℕ) (leaves : D → ℕ → List ℕ → Type 0) (faults : D → ℕ) (genesis : Root) (noted : List DeskEvent) (client : ℕ) (past : List Event) (files : Files) (stop : StopsIn genesis client (no_state genesis) past files) (first last : Disks D) : Type 0 where
  pub opened : Seen D
  pub closed : Seen D
  pub noted_is : noted ≡ closed.contents.events
  pub last_is : last ≡ disks_in closed
  pub made : List (DeskCall × DeskReply)
  pub path : Path moment leaves faults opened made closed
  pub at_client : own client (calls_of client made) ≡ calls_of client made
  pub runs : RunsFrom (no_state genesis) (started genesis client past files stop false ++ calls_of client made)
  pub sends : messages_in (calls_of client made) ≡ []
  pub stands : DeskStands closed.contents (state_over (no_state genesis) (started genesis client past files stop false ++ calls_of client made))
  pub opening : (k : Moments) → NotAfter (now_of moment first) k → NotAfter k (now_of moment (disks_in opened)) → LeftBy leaves genesis client past last k
  pub stops : (over rest : List (DeskCall × DeskReply)) (here : Seen D) → made ≡ over ++ rest → Path moment leaves faults opened over here → (path : Path moment leaves faults here rest closed)
      → (k : Moments) (c : Files) → IsDuring moment leaves faults here rest closed path k → LeftAt leaves last k c
      → StopsBehind genesis client (no_state genesis) (started genesis client past files stop false ++ calls_of client over) (started genesis client past files stop false ++ calls_of client made) c

-- what is asked for calls a desk of this chain, and serves no lines
abbrev pub IsOfChain : Root → Asked → Type 0
IsOfChain genesis (merge root journal) = root ≡ genesis
IsOfChain genesis (show root journal) = root ≡ genesis
IsOfChain genesis asked = ⊥

-- so it is of a run that is asked for a merge or a showing
abbrev pub CommandGoesOn : {D : Type 0} → (D → List ℕ → Type 0) → (D → ℕ) → (D → ℕ → List ℕ → Type 0) → (D → ℕ) → Type 0
CommandGoesOn {D} shows moment leaves faults = (genesis : Root) (asked : Asked) → IsOfChain genesis asked → (disks_before disks_now : Disks D) (before now : Outside) (noted : List DeskEvent) (ended : Status)
    → RunEnds shows moment leaves faults asked disks_before disks_now before now noted ended
    → (client : ℕ) (past : List Event) (files : Files) → Show shows disks_before files → (stop : StopsIn genesis client (no_state genesis) past files) → LeftBy leaves genesis client past disks_before (now_of moment disks_before)
    → Idle moment leaves genesis client past before now noted disks_before disks_now
    ⊎ Called moment leaves faults genesis noted client past files stop disks_before disks_now
