-- Connections of the signing proxy that are served with a desk and a signer.
use Rattle.std.specs.Prelude.{◌≡◌, ℕ, Bool, List, Option}
use Rattle.edge_kit.specs.declared.bytes.Root.{Root}
use Rattle.edge_clock.specs.Clocks.{IsNow}
use Rattle.desk_machine.specs.declared.call.DeskCall.{DeskCall}
use Rattle.desk_machine.specs.declared.call.DeskReply.{DeskReply}
use Rattle.client_calls.specs.Seats.{Seat}
use Rattle.duty_turns.specs.Times.{epoch_of, slot_of}
use Rattle.keymanager_api.specs.Serving.{LinkSeen}
use Rattle.keymanager_api.specs.Visits.{asks_failed}
use Rattle.keymanager_api.specs.declared.serve.Served.{Served}
use Rattle.proxy_api.specs.Signing.{SignServes}

-- by what requests are answered: the clock, the token, the chain and when it began
pub record Terms : Type 0 where
  pub start : Option ℕ
  pub token : List ℕ
  pub genesis : Root
  pub genesis_time : ℕ

abbrev pub terms_of : Option ℕ → List ℕ → Root → ℕ → Terms
terms_of start token genesis genesis_time = record { start = start; token = token; genesis = genesis; genesis_time = genesis_time }

-- Its request was answered, at the epoch of the moment that the clock showed; then the desk was asked whether its disk failed.
pub record Attends {K : Type 0} (leads : K → List (DeskCall × DeskReply) → K → Type 0) (p : Terms) (accepted finished : LinkSeen) (before now : Seat K) (failed : Bool) : Type 0 where
  pub moment : ℕ
  pub shown : IsNow p.start moment
  pub served : Served
  pub answered : Seat K
  pub serves : SignServes leads p.token p.genesis (epoch_of (slot_of p.genesis_time moment)) accepted finished before answered served
  pub asked : leads answered.desk (asks_failed failed) now.desk
  pub signer : now.signer ≡ answered.signer

-- and the terms stay the same
abbrev pub AttendsAt : {K C : Type 0} → (K → List (DeskCall × DeskReply) → K → Type 0) → (C → LinkSeen) → Terms → Terms → C → C → Seat K → Seat K → Bool → Type 0
AttendsAt leads see p q c d a b failed = (q ≡ p) × Attends leads p (see c) (see d) a b failed
