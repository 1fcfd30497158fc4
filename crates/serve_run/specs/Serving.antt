-- What is done at an open desk: the turns of duties, their lanes beside each other, and the connections beside them.
use Rattle.std.specs.Prelude.{◌≡◌, ◌<◌, ◌≤◌, ◌^◌, ℕ, List, [], length, Option, Some, Result, Ok, Err}
use Rattle.edge_kit.specs.Causes.{Rose}
use Rattle.desk_machine.specs.declared.call.DeskCall.{DeskCall}
use Rattle.desk_machine.specs.declared.call.DeskReply.{DeskReply}
use Rattle.program_end.specs.declared.closing.ClosingLine.TheVariants as closing
use Rattle.program_end.specs.declared.status.Status.{Status}
use Rattle.program_end.specs.declared.status.Status.TheVariants as status
use Rattle.call_plans.specs.Plans.{Follows}
use Rattle.duty_plans.specs.declared.setup.DutySetup.{DutySetup}
use Rattle.duty_turns.specs.declared.held.DutyEnd.{DutyEnd}
use Rattle.duty_turns.specs.declared.held.DutyEnd.TheVariants as duty_end
use Rattle.duty_turns.specs.TurnSteps.{Fits, House, TurnStep}
use Rattle.duty_turns.specs.Turns.{first_standing}
use Rattle.duty_loop.specs.Guarding.{Guarded, loop_steps}
use Rattle.duty_work.specs.Houses.{RunsFrom, end_value}
use Rattle.duty_loop.specs.Ends.{EndAtFailedDisk}
use Rattle.duty_safety.specs.OnTime.{on_time_turns}
use Rattle.keymanager_api.specs.Serving.{LinkSeen}
use Rattle.keymanager_api.specs.Visits.{ServesAll}
use Rattle.keymanager_api.specs.declared.connections.Connections.{Connections}
use Rattle.keymanager_api.specs.declared.connections.ConnectionsEnd.{ConnectionsEnd}
use Rattle.keymanager_api.specs.declared.connections.ConnectionsEnd.TheVariants as connections_end
use Rattle.command_line.specs.Serving.{last_of}
use Rattle.command_line.specs.declared.serve_options.ServeOptions.{ServeOptions}
use Rattle.journal_commands.specs.Views.{Output, ClosedBy}
use Rattle.serve_run.specs.Views.{Calls, Grew}
use Rattle.serve_run.specs.Clients.{Parts, hall_of, house_of, idle_seats, lane_seats}
use Rattle.serve_run.specs.declared.start.Start.{Start}

-- which connections are served: their token, when the chain began, and how many
pub record Wanted : Type 0 where
  pub token : List ℕ
  pub genesis_time : ℕ
  pub count : ℕ

-- the duties of a client
abbrev pub setup_of : ServeOptions → Start → DutySetup
setup_of options start = record { genesis = options.genesis; genesis_time = start.genesis_time; fork = start.fork; altair = options.altair; watch = options.watch; aggregate = options.aggregate; slots = options.slots; keep_epochs = last_of options.keep_epochs }

-- how the output ends where the duties came to their number of turns, by how the connections ended
abbrev pub ClosesConnections : Result (Unit {0}) ConnectionsEnd → Output → Output → Status → Type 0
ClosesConnections (Ok done) before now result = (result ≡ status.Done) × (now ≡ before)
ClosesConnections (Err connections_end.Door) before now result = ClosedBy (Some closing.DoorFault) before now result
ClosesConnections (Err connections_end.Disk) before now result = ClosedBy (Some closing.DiskFault) before now result

-- how it ends where memory ran out in the duties: a disk that failed at the connections comes before that
abbrev pub ClosesMemory : Result (Unit {0}) ConnectionsEnd → Output → Output → Status → Type 0
ClosesMemory (Err connections_end.Disk) before now result = ClosedBy (Some closing.DiskFault) before now result
ClosesMemory ended before now result = (result ≡ status.OutOfMemory) × (now ≡ before)

-- How the output ends after both loops: where both ended by a fault, by the lesser status. It has no line where it failed or memory
-- ran out.
abbrev pub ClosesBoth : Result (Unit {0}) DutyEnd → Result (Unit {0}) ConnectionsEnd → Output → Output → Status → Type 0
ClosesBoth (Ok done) ended before now result = ClosesConnections ended before now result
ClosesBoth (Err duty_end.Write) ended before now result = (result ≡ status.WriteFault) × (now ≡ before)
ClosesBoth (Err duty_end.Disk) ended before now result = ClosedBy (Some closing.DiskFault) before now result
ClosesBoth (Err duty_end.OutOfMemory) ended before now result = ClosesMemory ended before now result

-- as they are told
abbrev pub wanted_of : Connections → Wanted
wanted_of wanted = record { token = wanted.token.now; genesis_time = wanted.genesis_time; count = wanted.count }

-- the connections of a client
abbrev pub connections_of : ServeOptions → Start → Wanted
connections_of options start = record { token = options.token; genesis_time = start.genesis_time; count = options.connections }

-- Duties were done, turn by turn from a moment of the clock on. What lanes signed and posted lies between the grant of it and the settling
-- of that. Where they ended since the output failed its count of faults rose, and where they ended since the disk failed the last of the
-- loop's own calls asked the desk just that, and the desk said so. Over a clock that is told on time the turns are turns that drop no duty.
pub record DutiesRan {K : Type 0} (leads : K → List (DeskCall × DeskReply) → K → Type 0) (clock : Option ℕ) (setup : DutySetup) (a b : House K) (ended : Result (Unit {0}) DutyEnd) : Type 0 where
  pub runs : RunsFrom leads clock setup a b (end_value ended)
  pub guarded : Guarded leads a b runs.runs.steps
  pub later : a.out.faults ≤ b.out.faults
  pub write : ended ≡ Err duty_end.Write → Rose a.out.faults b.out.faults
  pub disk : ended ≡ Err duty_end.Disk → EndAtFailedDisk (loop_steps runs.runs.steps)
  pub on_time : (first : ℕ) → clock ≡ Some first → first < 2 ^ 64 → Follows Fits (on_time_turns setup setup.slots (first_standing setup runs.now)) runs.runs.steps (end_value ended)

-- Beside each other duties were done, in lanes, and connections were served. These are the calls of the desk of each: of the duty loop, of
-- the connections, and of each lane. Behind the last turn the output was this.
pub record Beside {C : Type 0} (see : C → LinkSeen) (clock : Option ℕ) (setup : DutySetup) (wanted : Wanted) (before now : Parts C) (loop answered : Calls) (lanes : List Calls)
    (duties_end : Result (Unit {0}) DutyEnd) (connections_end : Result (Unit {0}) ConnectionsEnd) (out : Output) : Type 0 where
  pub duties : DutiesRan Grew clock setup (house_of [] (idle_seats before.lanes) before before.out) (house_of loop (lane_seats now.lanes lanes) now out) duties_end
  pub connections : ServesAll Grew see clock wanted.token wanted.genesis_time wanted.count (hall_of [] before) (hall_of answered now) connections_end
  pub lanes_are : length lanes ≡ length now.lanes
  pub same_lanes : length now.lanes ≡ length before.lanes

-- so it was, and after both loops the output was closed
pub record Serves {C : Type 0} (see : C → LinkSeen) (clock : Option ℕ) (options : ServeOptions) (start : Start) (before now : Parts C) (loop answered : Calls) (lanes : List Calls) (result : Status) : Type 0 where
  pub duties_end : Result (Unit {0}) DutyEnd
  pub connections_end : Result (Unit {0}) ConnectionsEnd
  pub out : Output
  pub beside : Beside see clock (setup_of options start) (connections_of options start) before now loop answered lanes duties_end connections_end out
  pub closes : ClosesBoth duties_end connections_end out now.out result

-- what the turns of the duties did, step by step
abbrev pub steps_in : {C : Type 0} {see : C → LinkSeen} {clock : Option ℕ} {options : ServeOptions} {start : Start} {before now : Parts C} {loop answered : Calls} {lanes : List Calls} {result : Status}
    → Serves see clock options start before now loop answered lanes result → List TurnStep
steps_in serves = serves.beside.duties.runs.runs.steps
