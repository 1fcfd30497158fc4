-- A signing proxy, as its parts are seen.
use Rattle.std.specs.Prelude.{ℕ, List, map, Option}
use Rattle.signer_link.specs.declared.reply.Told.{Told}
use Rattle.client_calls.specs.Seats.{SignerSeen, signer_seen}
use Rattle.door_lanes.specs.Doors.{DoorSeen, door_seen}
use Rattle.journal_commands.specs.Views.{Output, output_of}

-- the parts of a proxy next to its desk: the signing service of each lane, the door, and the output
pub record Parts (C : Type 0) : Type 0 where
  pub lanes : List SignerSeen
  pub door : DoorSeen C
  pub out : Output

abbrev pub parts_seen : {S R C O : Type 0} → (S → Option (List Told)) → (S → ℕ) → (S → ℕ) → (R → Option (List C)) → (R → Option (List C)) → (R → Option ℕ) → (R → ℕ) → (O → Option (List ℕ)) → (O → ℕ) → List S → R → O → Parts C
parts_seen told faults denials coming finished lent door_faults held sink_faults signers door out = record {
  lanes = map (signer_seen told faults denials) signers;
  door = door_seen coming finished lent door_faults door;
  out = output_of held sink_faults out;
}
