-- A run of the validator client.
use Rattle.std.specs.Prelude.{◌≡◌, ◌⊎◌, ℕ, Bool, List, [], Option}
use Rattle.edge_kit.specs.declared.disk.Disks.{Disks}
use Rattle.signer_link.specs.declared.reply.Told.{Told}
use Rattle.node_calls.specs.declared.told.NodeCall.{NodeCall}
use Rattle.node_fallback.specs.Seen.{seen_of}
use Rattle.desk_machine.specs.declared.event.DeskEvent.{DeskEvent}
use Rattle.program_end.specs.declared.status.Status.{Status}
use Rattle.program_end.specs.declared.status.Status.TheVariants as status
use Rattle.keymanager_api.specs.Serving.{LinkSeen}
use Rattle.keymanager_api.specs.Doors.{door_seen}
use Rattle.command_line.specs.declared.serve_options.ServeOptions.{ServeOptions}
use Rattle.journal_commands.specs.Views.{output_of}
use Rattle.serve_run.specs.Clients.{Parts, lane_ends_seen}
use Rattle.serve_run.specs.declared.lanes.LaneEnd.{LaneEnd}
use Rattle.serve_run.specs.Ends.{ServeEnds}
use Rattle.client_calls.specs.Seats.{signer_seen}

-- what the parts of a client tell that are handed in and out; none of its nodes counts as syncing but by these flags
abbrev pub parts_of : {S N R C O : Type 0} → (S → Option (List Told)) → (S → ℕ) → (S → ℕ) → (N → Option (List NodeCall)) → (N → ℕ) → (R → Option (List C)) → (R → Option (List C)) → (R → ℕ) → (O → Option (List ℕ)) → (O → ℕ)
    → S → List N → List Bool → List (LaneEnd S N) → R → O → Parts C
parts_of signs signs_failed signs_denied asked asked_failed coming finished door_failed held writes_failed signer nodes flags lanes door out = record {
  signer = signer_seen signs signs_failed signs_denied signer;
  nodes = seen_of asked asked_failed nodes flags;
  lanes = lane_ends_seen signs signs_failed signs_denied asked asked_failed lanes;
  door = door_seen coming finished door_failed door;
  out = output_of held writes_failed out;
}

-- how it ends, with some of its nodes counting as syncing
pub record ClientEnds {D C : Type 0} (shows : D → List ℕ → Type 0) (moment : D → ℕ) (leaves : D → ℕ → List ℕ → Type 0) (faults : D → ℕ) (see : C → LinkSeen) (clock : Option ℕ) (options : ServeOptions)
    (disks_before disks_now : Disks D) (before : Parts C) (now : List Bool → Parts C) (events : List DeskEvent) (result : Status) : Type 0 where
  pub flags : List Bool
  pub ends : ServeEnds shows moment leaves faults see clock options disks_before disks_now before (now flags) events result

-- nothing was done, since memory ran out before
pub record ClientUnbegun {D C : Type 0} (disks_before disks_now : Disks D) (before : Parts C) (now : List Bool → Parts C) (events : List DeskEvent) (result : Status) : Type 0 where
  pub is : result ≡ status.OutOfMemory
  pub disks : disks_now ≡ disks_before
  pub parts : now [] ≡ before
  pub unnoted : events ≡ []

-- the client ran, or memory ran out before
abbrev pub ClientRuns : {D C : Type 0} → (D → List ℕ → Type 0) → (D → ℕ) → (D → ℕ → List ℕ → Type 0) → (D → ℕ) → (C → LinkSeen) → Option ℕ → ServeOptions → Disks D → Disks D → Parts C → (List Bool → Parts C) → List DeskEvent → Status → Type 0
ClientRuns shows moment leaves faults see clock options disks_before disks_now before now events result =
    ClientEnds shows moment leaves faults see clock options disks_before disks_now before now events result
    ⊎ ClientUnbegun disks_before disks_now before now events result
