-- A client that served over its desk, as events of one client of the world.
use Rattle.std.specs.Prelude.{◌≡◌, ◌<◌, ℕ, List, ◌∷◌, ◌++◌, Contains, length, Option}
use Rattle.edge_kit.specs.declared.bytes.PubKey.{PubKey}
use Rattle.slash_defs.specs.declared.message.Message.{Message}
use Rattle.desk_machine.specs.States.{State}
use Rattle.check_sign.specs.Calls.{LeavesDesk}
use Rattle.check_sign.specs.Contents.{Contents, Seen, disks_in}
use Rattle.check_sign.specs.Crashes.{Files, LeftAt, Moments}
use Rattle.check_sign.specs.Paths.{IsDuring, Path}
use Rattle.check_sign.specs.Standing.{DeskStands}
use Rattle.desk_seat.specs.Turns.{calls_of}
use Rattle.world_law.specs.Worlds.{Event}
use Rattle.world_law.specs.Clients.{RunsFrom, state_over, own, messages_in}
use Rattle.serve_world.specs.Stopping.{StopsBehind}
use Rattle.duty_plans.specs.Guards.{posted_in}
use Rattle.duty_turns.specs.TurnSteps.{TurnStep}
use Rattle.duty_loop.specs.Guarding.{lane_steps}
use Rattle.keymanager_api.specs.Serving.{LinkSeen}
use Rattle.command_line.specs.declared.serve_options.ServeOptions.{ServeOptions}
use Rattle.program_end.specs.declared.status.Status.{Status}
use Rattle.serve_run.specs.Clients.{Parts}
use Rattle.serve_run.specs.Ends.{ServesDesk, lane_number, posted_in_lanes}
use Rattle.serve_run.specs.Serving.{steps_in}
use Rattle.serve_run.specs.declared.start.Start.{Start}
use Rattle.serve_world.specs.Acts.{AreActs, call_in}
use Rattle.serve_world.specs.Weaving.{Act, act, done_in, of_thread, turns_in}

-- These acts are events of the client; they may happen from the state; the desk stands for the state after them; each lane sent in them
-- just what it posted, in its order; and so whatever lanes posted is sent.
pub record ActsRun (client : ℕ) (state : State) (acts : List (Act Event)) (lanes : ℕ) (steps : List TurnStep) (desk : Contents) : Type 0 where
  pub at_client : own client (done_in acts) ≡ done_in acts
  pub runs : RunsFrom state (done_in acts)
  pub stands : DeskStands desk (state_over state (done_in acts))
  pub sends : (lane : ℕ) → lane < lanes → messages_in (of_thread (lane_number lane) acts) ≡ posted_in (lane_steps lane steps)
  pub posts : (x : PubKey × Message) → Contains (posted_in_lanes lanes steps) x → Contains (messages_in (done_in acts)) x

-- there are such acts
abbrev pub ServeTold : {D C : Type 0} → (D → ℕ) → (D → ℕ → List ℕ → Type 0) → (D → ℕ) → (C → LinkSeen) → Type 0
ServeTold {D} {C} moment leaves faults see = (clock : Option ℕ) (options : ServeOptions) (start : Start) (opened ended : Seen D) (before now : Parts C) (result : Status)
    (s : ServesDesk moment leaves faults see clock options start opened ended before now result) (client : ℕ) → (acts : List (Act Event)) × AreActs client s acts

-- and whichever tell what the client did, they are a run of it, whichever state the desk stood for
abbrev pub ServeRuns : {D C : Type 0} → (D → ℕ) → (D → ℕ → List ℕ → Type 0) → (D → ℕ) → (C → LinkSeen) → Type 0
ServeRuns {D} {C} moment leaves faults see = (clock : Option ℕ) (options : ServeOptions) (start : Start) (opened ended : Seen D) (before now : Parts C) (result : Status)
    (s : ServesDesk moment leaves faults see clock options start opened ended before now result) (client : ℕ) (acts : List (Act Event)) → AreActs client s acts
    → (state : State) → DeskStands opened.contents state → ActsRun client state acts (length s.lanes) (steps_in s.serves) ended.contents

-- A crash at any moment leaves what a stop leaves after some of these acts, maybe within the next call: whichever of them were over by
-- then, calls and posts, there is one after all of these. `here` is the desk after their calls, and the moments of both disks lie within
-- the next call, or one after it, or after the last.
abbrev pub ServeStops : {D C : Type 0} → (D → ℕ) → (D → ℕ → List ℕ → Type 0) → (D → ℕ) → (C → LinkSeen) → Type 0
ServeStops {D} {C} moment leaves faults see = (clock : Option ℕ) (options : ServeOptions) (start : Start) (opened ended : Seen D) (before now : Parts C) (result : Status)
    (s : ServesDesk moment leaves faults see clock options start opened ended before now result) (client : ℕ) (over rest : List (Act Event)) → AreActs client s (over ++ rest)
    → (state : State) → DeskStands opened.contents state → LeavesDesk moment leaves (disks_in opened) opened.contents
    → (here : Seen D) → Path moment leaves faults opened (calls_of (turns_in call_in over)) here → (path : Path moment leaves faults here (calls_of (turns_in call_in rest)) ended)
    → (k : Moments) (files : Files) → IsDuring moment leaves faults here (calls_of (turns_in call_in rest)) ended path k → LeftAt leaves (disks_in ended) k files
    → StopsBehind opened.contents.genesis client state (done_in over) (done_in (over ++ rest)) files

-- What a thread did in its order stands so among the acts: what it did before it comes before it, and what it did later after it.
abbrev pub ActsKeepOrder : Type 0
ActsKeepOrder = (acts : List (Act Event)) (k : ℕ) (xs ys : List Event) (e : Event) → of_thread k acts ≡ xs ++ e ∷ ys
    → (front : List (Act Event)) × (back : List (Act Event)) × (acts ≡ front ++ act k e ∷ back) × (of_thread k front ≡ xs) × (of_thread k back ≡ ys)
