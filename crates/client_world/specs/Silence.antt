-- Between the close of a key and its next activation a signing proxy grants nothing for it and sends nothing of it.
use Rattle.std.specs.Prelude.{ℕ, List, Option}
use Rattle.desk_machine.specs.States.{State}
use Rattle.check_sign.specs.Contents.{Seen}
use Rattle.check_sign.specs.Standing.{DeskStands}
use Rattle.desk_seat.specs.Turns.{calls_of}
use Rattle.world_law.specs.Worlds.{Event}
use Rattle.keymanager_api.specs.Serving.{LinkSeen}
use Rattle.command_line.specs.declared.proxy_options.ProxyOptions.{ProxyOptions}
use Rattle.program_end.specs.declared.status.Status.{Status}
use Rattle.proxy_run.specs.Ends.{ServesDesk}
use Rattle.proxy_run.specs.Parts.{Parts}
use Rattle.serve_world.specs.Silence.{StaysSilent, StaysUngranted}
use Rattle.serve_world.specs.Weaving.{Act, done_in}
use Rattle.client_world.specs.Acts.{AreProxyActs}

-- in the one history of its lanes, whichever state the desk stood for
abbrev pub ProxyUngranted : {D C : Type 0} → (D → ℕ) → (D → ℕ → List ℕ → Type 0) → (D → ℕ) → (C → LinkSeen) → Type 0
ProxyUngranted {D} {C} moment leaves faults see = (clock : Option ℕ) (options : ProxyOptions) (opened ended : Seen D) (before now : Parts C) (result : Status)
    (s : ServesDesk moment leaves faults see clock options opened ended before now result) (state : State) → DeskStands opened.contents state → StaysUngranted state (calls_of s.shares.ran.shared.log)

-- in whichever acts tell what it did
abbrev pub ProxySilent : {D C : Type 0} → (D → ℕ) → (D → ℕ → List ℕ → Type 0) → (D → ℕ) → (C → LinkSeen) → Type 0
ProxySilent {D} {C} moment leaves faults see = (clock : Option ℕ) (options : ProxyOptions) (opened ended : Seen D) (before now : Parts C) (result : Status)
    (s : ServesDesk moment leaves faults see clock options opened ended before now result) (client : ℕ) (acts : List (Act Event)) → AreProxyActs client s acts
    → (state : State) → DeskStands opened.contents state → StaysSilent state (done_in acts)
