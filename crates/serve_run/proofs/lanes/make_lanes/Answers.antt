use Rattle.std.proofs.Common.{◌≡◌, ◌+◌, ◌∷◌, ◌++◌, [], ℕ, All, List, length, sym, ap, ◌∙◌, subst}
use Rattle.std.proofs.lemmas.List.{length-append}
use Rattle.std.proofs.lemmas.List.Elements.{All-push}
use Rattle.serve_run.specs.Equipping.{IsMadeOf}
use Rattle.serve_run.specs.declared.lanes.LaneEnd.{LaneEnd}
use Rattle.serve_run.proofs.lanes.make_lanes.Goals as goal

pub lanes-preserved : goal.lanes-preserved
lanes-preserved g c =
    let E : Type 0 = LaneEnd g.row.S.Denot g.row.N.Denot in
    let Made : E → Type 0 = IsMadeOf g.S.Signer.told g.S.Signer.faults g.S.Signer.denials g.N.Node.told g.N.Node.faults c.args.signer.now c.args.nodes.now in
    let i = c.lanes.invariant in
    let lanes : List E = c.lanes.lanes.items in
    let lane : E = c.in_ok-make_lane.field-0 in
    let items : c.push.new.self.items ≡ lanes ++ lane ∷ [] = c.in_ok-push.ensures.items in
    record {
      count = ap (λ (l : List E). length l) items ∙ length-append lanes (lane ∷ []) ∙ ap (λ (n : ℕ). n + 1) i.count;
      each = subst (λ (l : List E). All Made l) (sym items) (All-push Made lanes lane i.each c.in_ok-make_lane.ensures);
    }
