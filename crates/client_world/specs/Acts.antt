-- What a signing proxy does, as events of one client of the world.
use Rattle.std.specs.Prelude.{◌≡◌, ℕ, List, [], ◌∷◌, ◌++◌, Contains, map, slice_index_or, Option}
use Rattle.edge_kit.specs.declared.bytes.PubKey.{PubKey}
use Rattle.slash_defs.specs.declared.message.Message.{Message}
use Rattle.desk_machine.specs.States.{State}
use Rattle.desk_machine.specs.declared.call.DeskCall.{DeskCall}
use Rattle.desk_machine.specs.declared.call.DeskCall.TheVariants as call
use Rattle.desk_machine.specs.declared.call.DeskReply.{DeskReply}
use Rattle.desk_machine.specs.declared.call.Outcome.TheVariants as outcome
use Rattle.check_sign.specs.Calls.{LeavesDesk}
use Rattle.check_sign.specs.Contents.{Contents, Seen, disks_in}
use Rattle.check_sign.specs.Crashes.{Files, LeftAt, Moments}
use Rattle.check_sign.specs.Paths.{IsDuring, Path}
use Rattle.check_sign.specs.Standing.{DeskStands}
use Rattle.desk_seat.specs.Turns.{calls_of}
use Rattle.world_law.specs.Worlds.{Event}
use Rattle.world_law.specs.Worlds.Event.{Call}
use Rattle.world_law.specs.Clients.{RunsFrom, state_over, own, messages_in}
use Rattle.keymanager_api.specs.Serving.{LinkSeen}
use Rattle.command_line.specs.declared.proxy_options.ProxyOptions.{ProxyOptions}
use Rattle.program_end.specs.declared.status.Status.{Status}
use Rattle.proxy_lanes.specs.Lanes.{LaneSeen}
use Rattle.proxy_run.specs.Begun.{Signed, joined, sent_of}
use Rattle.proxy_run.specs.Ends.{ServesDesk, signatures}
use Rattle.proxy_run.specs.Parts.{Parts}
use Rattle.serve_world.specs.Acts.{call_in}
use Rattle.serve_world.specs.Events.{send_of}
use Rattle.serve_world.specs.Stopping.{StopsBehind}
use Rattle.serve_world.specs.Weaving.{Act, IsWoven, done_in, of_thread, turns_in}

-- What was sent before a call of a lane, and after the call before it: where it settles a grant as sent, the reply with its signature was
-- begun, and so the grant's message was sent.
abbrev pub sent_before : ℕ → DeskCall → List Event
sent_before client (call.Settle grant outcome.Sent) = send_of client grant grant.message
sent_before client c = []

-- what a lane did that made these calls
abbrev pub lane_events : ℕ → List (DeskCall × DeskReply) → List Event
lane_events client [] = []
lane_events client (x ∷ made) = sent_before client x.0 ++ Call client x.0 x.1 ∷ lane_events client made

-- the calls of one of these lanes, by its number
abbrev pub calls_by_lane : List LaneSeen → ℕ → List (DeskCall × DeskReply)
calls_by_lane lanes k = slice_index_or (map (λ (lane : LaneSeen). lane.desk) lanes) k []

-- Acts that tell what a client did that served as a signing proxy over its desk: each lane in its order, and all of them by the turns of the
-- one history. Where between its grant and the settling of that a message was sent, next to what other lanes did, these acts say as they
-- like: each such list may be what happened.
abbrev pub AreProxyActs : {D C : Type 0} {moment : D → ℕ} {leaves : D → ℕ → List ℕ → Type 0} {faults : D → ℕ} {see : C → LinkSeen} {clock : Option ℕ} {options : ProxyOptions}
    {opened ended : Seen D} {before now : Parts C} {result : Status} → ℕ → ServesDesk moment leaves faults see clock options opened ended before now result → List (Act Event) → Type 0
AreProxyActs client s acts = IsWoven call_in s.shares.ran.shared.log (λ k. lane_events client (calls_by_lane s.shares.ran.lanes k)) acts

-- These acts are events of the client; they may happen from the state; the desk stands for the state after them; each lane sent in them just
-- the messages of those of its signatures whose replies were begun, in order, and nobody else sent anything; and so each such message is sent.
pub record ProxyActsRun (client : ℕ) (state : State) (acts : List (Act Event)) (signed : List (List Signed)) (desk : Contents) : Type 0 where
  pub at_client : own client (done_in acts) ≡ done_in acts
  pub runs : RunsFrom state (done_in acts)
  pub stands : DeskStands desk (state_over state (done_in acts))
  pub sends : (lane : ℕ) → messages_in (of_thread lane acts) ≡ sent_of (slice_index_or signed lane [])
  pub hands_out : (x : PubKey × Message) → Contains (sent_of (joined signed)) x → Contains (messages_in (done_in acts)) x

-- there are such acts
abbrev pub ProxyTold : {D C : Type 0} → (D → ℕ) → (D → ℕ → List ℕ → Type 0) → (D → ℕ) → (C → LinkSeen) → Type 0
ProxyTold {D} {C} moment leaves faults see = (clock : Option ℕ) (options : ProxyOptions) (opened ended : Seen D) (before now : Parts C) (result : Status)
    (s : ServesDesk moment leaves faults see clock options opened ended before now result) (client : ℕ) → (acts : List (Act Event)) × AreProxyActs client s acts

-- and whichever tell what the client did, they are a run of it, whichever state the desk stood for
abbrev pub ProxyRuns : {D C : Type 0} → (D → ℕ) → (D → ℕ → List ℕ → Type 0) → (D → ℕ) → (C → LinkSeen) → Type 0
ProxyRuns {D} {C} moment leaves faults see = (clock : Option ℕ) (options : ProxyOptions) (opened ended : Seen D) (before now : Parts C) (result : Status)
    (s : ServesDesk moment leaves faults see clock options opened ended before now result) (client : ℕ) (acts : List (Act Event)) → AreProxyActs client s acts
    → (state : State) → DeskStands opened.contents state → ProxyActsRun client state acts (signatures s.shares) ended.contents

-- A crash at any moment leaves what a stop leaves after some of these acts, maybe within the next call: whichever of them were over by
-- then, calls and messages that were sent, there is one after all of these. `here` is the desk after their calls, and the moments of both
-- disks lie within the next call, or one after it, or after the last.
abbrev pub ProxyStops : {D C : Type 0} → (D → ℕ) → (D → ℕ → List ℕ → Type 0) → (D → ℕ) → (C → LinkSeen) → Type 0
ProxyStops {D} {C} moment leaves faults see = (clock : Option ℕ) (options : ProxyOptions) (opened ended : Seen D) (before now : Parts C) (result : Status)
    (s : ServesDesk moment leaves faults see clock options opened ended before now result) (client : ℕ) (over rest : List (Act Event)) → AreProxyActs client s (over ++ rest)
    → (state : State) → DeskStands opened.contents state → LeavesDesk moment leaves (disks_in opened) opened.contents
    → (here : Seen D) → Path moment leaves faults opened (calls_of (turns_in call_in over)) here → (path : Path moment leaves faults here (calls_of (turns_in call_in rest)) ended)
    → (k : Moments) (files : Files) → IsDuring moment leaves faults here (calls_of (turns_in call_in rest)) ended path k → LeftAt leaves (disks_in ended) k files
    → StopsBehind opened.contents.genesis client state (done_in over) (done_in (over ++ rest)) files
