-- What lanes are made of.
use Rattle.std.specs.Prelude.{◌≡◌, ℕ, List, Option}
use Rattle.signer_link.specs.declared.reply.Told.{Told}
use Rattle.node_calls.specs.declared.told.NodeCall.{NodeCall}
use Rattle.node_fallback.specs.Twins.{AreTwins}
use Rattle.node_fallback.specs.declared.nodes.Nodes.{Nodes}
use Rattle.serve_run.specs.declared.lanes.LaneEnd.{LaneEnd}

-- a lane has another access to this service and to these nodes: each tells what this one has told, with counts of its own at 0
pub record IsMadeOf {S N : Type 0} (told : S → Option (List Told)) (faults denials : S → ℕ) (node_told : N → Option (List NodeCall)) (node_faults : N → ℕ) (signer : S) (nodes : Nodes N) (lane : LaneEnd S N) : Type 0 where
  pub signer_told : told lane.signer ≡ told signer
  pub signer_unfailed : faults lane.signer ≡ 0
  pub signer_undenied : denials lane.signer ≡ 0
  pub nodes_twins : AreTwins node_told node_faults nodes.nodes.items nodes.syncing.items lane.nodes.nodes.items lane.nodes.syncing.items
