-- What lanes are made of.
use Rattle.std.proofs.Common.{◌≡◌, ℕ, zero, suc, All, Bool, List, [], ◌∷◌, Option, drop, refl, sym, ap, ◌∙◌, subst, arith}
use Rattle.std.specs.List.{AllZip}
use Rattle.node_calls.specs.declared.told.NodeCall.{NodeCall}
use Rattle.signer_link.specs.declared.reply.Told.{Told}
use Rattle.node_fallback.specs.Seen.{seen_of}
use Rattle.node_fallback.specs.Twins.{IsTwin}
use Rattle.node_fallback.specs.declared.nodes.Nodes.{Nodes}
use Rattle.serve_run.specs.Clients.{Parts, lane_end_seen, lane_ends_seen}
use Rattle.serve_run.specs.Ends.{IsLaneOf, IsNodeTwin}
use Rattle.serve_run.specs.Equipping.{IsMadeOf}
use Rattle.serve_run.specs.declared.lanes.LaneEnd.{LaneEnd}

-- twins of nodes, as they are seen
twins_seen : {N : Type 0} (told : N → Option (List NodeCall)) (faults : N → ℕ) (nodes twins : List N) (flags : List Bool) → AllZip (IsTwin told faults) nodes twins → AllZip IsNodeTwin (seen_of told faults nodes flags) (seen_of told faults twins flags)
twins_seen told faults [] [] flags z = tt
twins_seen told faults [] (y ∷ ys) flags z = absurd z
twins_seen told faults (x ∷ xs) [] flags z = absurd z
twins_seen told faults (x ∷ xs) (y ∷ ys) flags z = (record { syncing = refl; told = z.0.tells; faults = z.0.unfailed }, twins_seen told faults xs ys (drop 1 flags) z.1)

module _ {S N C : Type 0} (told : S → Option (List Told)) (faults denials : S → ℕ) (node_told : N → Option (List NodeCall)) (node_faults : N → ℕ) (signer : S) (nodes : Nodes N) (parts : Parts C)
    (has_signer : parts.signer ≡ record { told = told signer; faults = faults signer; denials = denials signer }) (has_nodes : parts.nodes ≡ seen_of node_told node_faults nodes.nodes.items nodes.syncing.items) where
  lane_of : (lane : LaneEnd S N) → IsMadeOf told faults denials node_told node_faults signer nodes lane → IsLaneOf parts (lane_end_seen told faults denials node_told node_faults lane)
  lane_of lane made =
      let Flags : List Bool → Type 0 = λ flags. AllZip IsNodeTwin parts.nodes (seen_of node_told node_faults lane.nodes.nodes.items flags) in
      let Nodes : List _ → Type 0 = λ seen. AllZip IsNodeTwin seen (seen_of node_told node_faults lane.nodes.nodes.items nodes.syncing.items) in
      record {
        signer = record { told = made.signer_told ∙ ap (λ s. s.told) (sym has_signer); faults = made.signer_unfailed; denials = made.signer_undenied };
        nodes = subst Flags (sym made.nodes_twins.same) (subst Nodes (sym has_nodes) (twins_seen node_told node_faults nodes.nodes.items lane.nodes.nodes.items nodes.syncing.items made.nodes_twins.each));
      }

  -- so each of them is
  pub lanes_of : (lanes : List (LaneEnd S N)) → All (IsMadeOf told faults denials node_told node_faults signer nodes) lanes → All (IsLaneOf parts) (lane_ends_seen told faults denials node_told node_faults lanes)
  lanes_of [] made k d lt = absurd (omega (arith, lt))
  lanes_of (l ∷ ls) made zero d lt = lane_of l (made 0 l (omega arith))
  lanes_of (l ∷ ls) made (suc k) d lt = lanes_of ls (λ j e le. made (suc j) e (omega (arith, le))) k d (omega (arith, lt))
