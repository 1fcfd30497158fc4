-- Lines that were served, one after another.
use Rattle.std.specs.Prelude.{◌≡◌, ℕ, List, [], ◌∷◌, ◌++◌, None}
use Rattle.session_format.specs.declared.chain.SessionChain.{SessionChain}
use Rattle.desk_machine.specs.States.{State}
use Rattle.check_sign.specs.Standing.{DeskStands}
use Rattle.client_calls.specs.Machines.{CanMake, state_after, noted_of}
use Rattle.client_calls.specs.Seats.{SignerTells}
use Rattle.client_calls.specs.Steps.{has_failed, has_denied}
use Rattle.session_format.specs.Requests.{request_of}
use Rattle.session_run.specs.Acts.{AtBench, DeskFares, Turned}
use Rattle.session_run.specs.Plans.{moment_by}
use Rattle.session_run.specs.Safe.{StaysSafe, AllComplete}
use Rattle.session_run.specs.Silent.{StartsSilent, StaysSilent}
use Rattle.session_run.specs.Turns.{Turn, AllPlanned, AskAsWritten, steps_of, made, told}

-- A run: turns one after another, from a bench to a bench, each begun at a desk that was up. So only at the last may the disk
-- have failed, and after it nothing is served.
abbrev pub Run : {D : Type 0} → (D → ℕ) → (D → ℕ → List ℕ → Type 0) → (D → ℕ) → SessionChain → ℕ → List Turn → AtBench D → AtBench D → Type 0
Run moment leaves faults chain latest [] before now = now ≡ before
Run moment leaves faults chain latest (t ∷ ts) before now = (mid : AtBench _) × (before.desk.contents.torn ≡ None) × (t.request ≡ request_of chain t.line)
    × Turned moment leaves faults chain latest t before mid × Run moment leaves faults chain (moment_by latest t.request) ts mid now

-- what a run comes to: each turn asks what its line says; whichever state the desk stood for, each turn did what it asks there, the
-- replies are the machine's, the desk stands for the state after them, and has noted just that; and the signer was asked just that,
-- and failed and refused just there
pub record Ran {D : Type 0} (faults : D → ℕ) (chain : SessionChain) (latest : ℕ) (turns : List Turn) (before now : AtBench D) : Type 0 where
  pub planned : (state : State) → DeskStands before.desk.contents state → AllPlanned chain latest state turns
  pub machine : (state : State) → DeskStands before.desk.contents state → CanMake state (made turns) × DeskStands now.desk.contents (state_after state (made turns))
      × (now.desk.contents.events ≡ before.desk.contents.events ++ noted_of state (made turns))
  pub requests : AskAsWritten chain turns
  pub signer : SignerTells before.signer now.signer (told turns) (has_failed (steps_of turns)) (has_denied (steps_of turns))
  pub fares : DeskFares faults before.desk now.desk

-- what the desk's machine makes true of every run: nothing slashable is sent; nothing of a key that isn't active at its start, or was
-- closed since, before its next activation; and nothing is refused without cause
pub record Laws {D : Type 0} (latest : ℕ) (turns : List Turn) (before : AtBench D) : Type 0 where
  pub safe : (state : State) → DeskStands before.desk.contents state → StaysSafe state (steps_of turns)
  pub starts_silent : (state : State) → DeskStands before.desk.contents state → StartsSilent state (steps_of turns)
  pub silent : (state : State) → DeskStands before.desk.contents state → StaysSilent (steps_of turns)
  pub complete : (state : State) → DeskStands before.desk.contents state → AllComplete state turns
