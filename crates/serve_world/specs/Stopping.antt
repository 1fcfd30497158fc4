-- A session that is stopped, at any moment.
use Rattle.std.specs.Prelude.{◌≡◌, ℕ, Bool, List, [], ◌∷◌, ◌++◌, Option, Some, None}
use Rattle.edge_kit.specs.declared.bytes.Root.{Root}
use Rattle.session_format.specs.declared.chain.SessionChain.{SessionChain}
use Rattle.desk_machine.specs.States.{State}
use Rattle.desk_machine.specs.declared.call.DeskCall.{DeskCall}
use Rattle.desk_machine.specs.declared.call.DeskReply.{DeskReply}
use Rattle.check_sign.specs.Contents.{Seen, disks_in}
use Rattle.check_sign.specs.Crashes.{Files, LeftAt, Moments}
use Rattle.check_sign.specs.Paths.{IsDuring, Path}
use Rattle.check_sign.specs.Standing.{DeskStands, Opens}
use Rattle.check_sign.specs.Calls.{LeavesDesk}
use Rattle.world_law.specs.Worlds.{Event, lasting_stopped}
use Rattle.world_law.specs.Worlds.Event.{Call, Crash}
use Rattle.world_law.specs.Clients.{RunsFrom, state_over}
use Rattle.program_end.specs.declared.status.Status.{Status}
use Rattle.session_run.specs.Acts.{AtBench}
use Rattle.session_run.specs.Ends.{Ends, Wires}
use Rattle.session_run.specs.Runs.{Run}
use Rattle.client_calls.specs.Steps.{desk_calls}
use Rattle.session_run.specs.Turns.{Turn, made, moment_after}
use Rattle.serve_world.specs.Events.{calls_of, session_events, turn_events}

-- the call in progress, where there is one, is the next of these events
abbrev pub IsNextCall : Option DeskCall → List Event → Type 0
IsNextCall None events = Unit {0}
IsNextCall (Some c) (Call client d r ∷ events) = c ≡ d
IsNextCall (Some c) events = ⊥

-- The first few of these events, and then a stop of the client, between two of them or within the next: it may happen, whenever the
-- client starts again and with the watch on or off, and the files open to what it leaves.
pub record StopsIn (genesis : Root) (client : ℕ) (state : State) (events : List Event) (files : Files) : Type 0 where
  pub front : List Event
  pub rest : List Event
  pub events_are : events ≡ front ++ rest
  pub within : Option DeskCall
  pub is_next : IsNextCall within rest
  pub done : Bool
  pub runs : (now : ℕ) (watch : Bool) → RunsFrom state (front ++ Crash client within done now watch ∷ [])
  pub opens : Opens genesis files (lasting_stopped (state_over state front) within done)

-- such a stop after all of the events that came first
pub record StopsBehind (genesis : Root) (client : ℕ) (state : State) (first events : List Event) (files : Files) : Type 0 where
  pub stop : StopsIn genesis client state events files
  pub more : List Event
  pub front_is : stop.front ≡ first ++ more

-- A crash at any moment of a session leaves what such a stop leaves, where the files from before open to what the desk stood for.
-- Whichever turns were over by then, as the disks stood after them: there is one after all events of these, so that what was sent in
-- them is among what came before the stop. `here` is the bench between the turns that were over and the rest, and the moments of both
-- disks lie within one of the calls that followed, or after the last.
abbrev pub SessionStops : {D : Type 0} → (D → ℕ) → (D → ℕ → List ℕ → Type 0) → (D → ℕ) → Type 0
SessionStops {D} moment leaves faults = (chain : SessionChain) (first last : AtBench D) (before now : Wires) (result : Status) (ends : Ends moment leaves faults chain first last before now result)
    (over rest : List Turn) (here : AtBench D) → ends.turns ≡ over ++ rest → Run moment leaves faults chain 0 over first here → Run moment leaves faults chain (moment_after 0 over) rest here ends.mid
    → (client : ℕ) (state : State) → DeskStands first.desk.contents state → LeavesDesk moment leaves (disks_in first.desk) first.desk.contents
    → (path : Path moment leaves faults here.desk (made rest ++ desk_calls ends.unanswered.steps) last.desk) (k : Moments) (files : Files) → IsDuring moment leaves faults here.desk (made rest ++ desk_calls ends.unanswered.steps) last.desk path k → LeftAt leaves (disks_in last.desk) k files
    → StopsBehind first.desk.contents.genesis client state (turn_events client over) (session_events moment leaves faults chain first last before now result ends client) files

-- and so does a crash at any moment of calls of the desk
abbrev pub CallsStop : {D : Type 0} → (D → ℕ) → (D → ℕ → List ℕ → Type 0) → (D → ℕ) → Type 0
CallsStop {D} moment leaves faults = (first here last : Seen D) (over rest : List (DeskCall × DeskReply)) → Path moment leaves faults first over here → (path : Path moment leaves faults here rest last)
    → (client : ℕ) (state : State) → DeskStands first.contents state → LeavesDesk moment leaves (disks_in first) first.contents
    → (k : Moments) (files : Files) → IsDuring moment leaves faults here rest last path k → LeftAt leaves (disks_in last) k files
    → StopsBehind first.contents.genesis client state (calls_of client over) (calls_of client (over ++ rest)) files
