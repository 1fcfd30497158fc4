-- After a key is closed nothing of it is granted or sent until a call makes it active, among the events of a client that does not stop.
use Rattle.std.proofs.Common.{inl, inr, List, [], ◌∷◌, ◌++◌, subst}
use Rattle.edge_kit.specs.declared.bytes.PubKey.{PubKey}
use Rattle.desk_machine.specs.States.{State}
use Rattle.desk_machine.specs.Machine.{after}
use Rattle.world_law.specs.Worlds.{Event, MayHappenAt, state_after}
use Rattle.world_law.specs.Worlds.Event.{Call, Send, Crash}
use Rattle.world_law.specs.Clients.{RunsFrom, state_over}
use Rattle.serve_world.proofs.SessionStops.{NoStop}
use Rattle.session_run.specs.Silent.{IsActivation, IsAmong, IsClose}
use Rattle.serve_world.specs.Acts.{call_in}
use Rattle.serve_world.specs.Weaving.{calls_among}
use Rattle.serve_world.specs.Silence.{IsCallThat, IsOfKey, SilentUntilActive, StaysSilent}
use Rattle.serve_world.proofs.SilenceLemmas.{IsStill, closed_still, still_or_active, still_ungranted, still_unsent}

-- no such event happens where the key is not active and no grant of it is open
none_of : (state : State) (e : Event) (key : PubKey) → MayHappenAt state e → IsStill state key → IsOfKey key e → ⊥
none_of state (Call client c r) key may still is = still_ungranted state c r key may still is
none_of state (Send client grant m) key may still is = still_unsent state key grant still may.0 is
none_of state (Crash client within done now watch) key may still is = is

silent_at : (state : State) (between later : List Event) (e : Event) (key : PubKey) → RunsFrom state (between ++ e ∷ later) → NoStop (between ++ e ∷ later) → IsStill state key → IsOfKey key e → IsAmong (IsActivation key) (calls_among call_in between)
silent_at state [] later e key runs calm still is = absurd (none_of state e key runs.0 still is)
silent_at state (Call client c r ∷ between) later e key runs calm still is = still_or_active state c r key runs.0 still (λ active. inl active) (λ stays. inr (silent_at (after state c r) between later e key runs.1 calm stays is))
silent_at state (Send client grant m ∷ between) later e key runs calm still is = silent_at state between later e key runs.1 calm still is
silent_at state (Crash client within done now watch ∷ between) later e key runs calm still is = absurd calm

silent : (state : State) (events : List Event) (key : PubKey) → RunsFrom state events → NoStop events → IsStill state key → SilentUntilActive key events
silent state events key runs calm still between later e is of =
    let R : List Event → Type 0 = λ l. RunsFrom state l in
    silent_at state between later e key (subst R is runs) (subst NoStop is calm) still of

-- ---- after a close

runs_later : (state : State) (xs ys : List Event) → RunsFrom state (xs ++ ys) → RunsFrom (state_over state xs) ys
runs_later state [] ys runs = runs
runs_later state (x ∷ xs) ys runs = runs_later (state_after state x) xs ys runs.1

calm_later : (xs ys : List Event) → NoStop (xs ++ ys) → NoStop ys
calm_later [] ys calm = calm
calm_later (Call client c r ∷ xs) ys calm = calm_later xs ys calm
calm_later (Send client grant m ∷ xs) ys calm = calm_later xs ys calm
calm_later (Crash client within done now watch ∷ xs) ys calm = absurd calm

silent_closed : (state : State) (e : Event) (later : List Event) (key : PubKey) → RunsFrom state (e ∷ later) → NoStop (e ∷ later) → IsCallThat (IsClose key) e → SilentUntilActive key later
silent_closed state (Call client c r) later key runs calm closes = silent (after state c r) later key runs.1 calm (closed_still state c r key runs.0 closes)
silent_closed state (Send client grant m) later key runs calm closes = absurd closes
silent_closed state (Crash client within done now watch) later key runs calm closes = absurd closes

pub stays_silent : (state : State) (events : List Event) → RunsFrom state events → NoStop events → StaysSilent state events
stays_silent state events runs calm = record {
  starts = λ key off none. silent state events key runs calm (off, none);
  closed = λ before later e key is closes.
      let R : List Event → Type 0 = λ l. RunsFrom state l in
      silent_closed (state_over state before) e later key (runs_later state before (e ∷ later) (subst R is runs)) (calm_later before (e ∷ later) (subst NoStop is calm)) closes;
}
