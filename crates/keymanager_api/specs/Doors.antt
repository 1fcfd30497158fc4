-- A door with a desk and a signer next to it, as they are seen.
use Rattle.std.specs.Prelude.{ℕ, List, Option}
use Rattle.client_calls.specs.Seats.{Seat, SignerSeen, at_seat}
use Rattle.keymanager_api.specs.Serving.{LinkSeen}

-- what a link tells of itself
abbrev pub link_seen : {C : Type 0} → (C → Option (List ℕ)) → (C → Option (List ℕ)) → (C → ℕ) → C → LinkSeen
link_seen left held faults link = record { left = left link; held = held link; faults = faults link }

-- what a door tells: the connections that still come in, those that it took back, and how often it failed
pub record DoorSeen (C : Type 0) : Type 0 where
  pub coming : Option (List C)
  pub finished : Option (List C)
  pub faults : ℕ

abbrev pub door_seen : {R C : Type 0} → (R → Option (List C)) → (R → Option (List C)) → (R → ℕ) → R → DoorSeen C
door_seen coming finished faults door = record { coming = coming door; finished = finished door; faults = faults door }

-- all that a connection has to do with
pub record Hall (K C : Type 0) : Type 0 where
  pub seat : Seat K
  pub door : DoorSeen C

abbrev pub hall : {K C : Type 0} → K → SignerSeen → DoorSeen C → Hall K C
hall desk signer door = record { seat = at_seat desk signer; door = door }
