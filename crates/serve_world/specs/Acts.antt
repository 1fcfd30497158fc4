-- What the threads of a validator client do, as events of one client of the world.
use Rattle.std.specs.Prelude.{ℕ, zero, suc, List, [], ◌∷◌, length, slice_index_or, flat_map, Option, Some, None}
use Rattle.desk_machine.specs.declared.call.DeskCall.{DeskCall}
use Rattle.desk_machine.specs.declared.call.DeskReply.{DeskReply}
use Rattle.check_sign.specs.Contents.{Seen}
use Rattle.world_law.specs.Worlds.{Event}
use Rattle.world_law.specs.Worlds.Event.{Call, Send, Crash}
use Rattle.serve_world.specs.Events.{calls_of, send_of}
use Rattle.duty_plans.specs.Steps.{DutyStep, Calls, Posts, Replies}
use Rattle.duty_turns.specs.TurnSteps.{TurnStep}
use Rattle.duty_loop.specs.Guarding.{lane_steps, loop_steps}
use Rattle.keymanager_api.specs.Serving.{LinkSeen}
use Rattle.keymanager_api.specs.Visits.{Visit, calls_in}
use Rattle.command_line.specs.declared.serve_options.ServeOptions.{ServeOptions}
use Rattle.program_end.specs.declared.status.Status.{Status}
use Rattle.serve_run.specs.Clients.{Parts}
use Rattle.serve_run.specs.Ends.{ServesDesk}
use Rattle.serve_run.specs.Serving.{steps_in}
use Rattle.serve_run.specs.declared.start.Start.{Start}
use Rattle.serve_world.specs.Weaving.{Act, IsWoven}

-- a call with its reply, where an event is one
abbrev pub call_in : Event → Option (DeskCall × DeskReply)
call_in (Call client c r) = Some (c, r)
call_in (Send client grant m) = None
call_in (Crash client within done now watch) = None

-- what a step of a duty is: a call of the desk; and where something is posted, whatever becomes of that, the grant's message is sent
abbrev pub step_events : ℕ → DutyStep → List Event
step_events client (Calls c, Replies r) = Call client c r ∷ []
step_events client (Posts grant p, r) = send_of client grant grant.message
step_events client s = []

abbrev pub duty_events : ℕ → List DutyStep → List Event
duty_events client steps = flat_map (step_events client) steps

-- of each of a number of lanes, from one on
abbrev pub lanes_events : ℕ → ℕ → ℕ → List TurnStep → List (List Event)
lanes_events client lane zero steps = []
lanes_events client lane (suc n) steps = duty_events client (lane_steps lane steps) ∷ lanes_events client (suc lane) n steps

-- of each thread, by its number in the history: the duty loop, the connections, one after another, and each of a number of lanes
abbrev pub thread_events : {C : Type 0} → ℕ → ℕ → List TurnStep → List (Visit C) → ℕ → List Event
thread_events client n steps visits k = slice_index_or (duty_events client (loop_steps steps) ∷ calls_of client (calls_in visits) ∷ lanes_events client 0 n steps) k []

-- Acts that tell what a client did that served over its desk: each of its threads in its order, and all of them by the turns of the one
-- history. Where between its grant and the settling of that a message was posted, next to what other threads did, these acts say as they
-- like: each such list may be what happened.
abbrev pub AreActs : {D C : Type 0} {moment : D → ℕ} {leaves : D → ℕ → List ℕ → Type 0} {faults : D → ℕ} {see : C → LinkSeen} {clock : Option ℕ} {options : ServeOptions} {start : Start}
    {opened ended : Seen D} {before now : Parts C} {result : Status} → ℕ → ServesDesk moment leaves faults see clock options start opened ended before now result → List (Act Event) → Type 0
AreActs client s acts = IsWoven call_in s.shared.log (thread_events client (length s.lanes) (steps_in s.serves) s.serves.beside.connections.visits) acts
