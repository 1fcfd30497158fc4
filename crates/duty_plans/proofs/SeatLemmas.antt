-- What whole runs did.
use Rattle.std.proofs.Common.{◌≡◌, List, [], ◌∷◌, ◌++◌, Option, refl, sym, ◌∙◌, subst}
use Rattle.desk_machine.specs.declared.call.DeskCall.{DeskCall}
use Rattle.desk_machine.specs.declared.call.DeskReply.{DeskReply}
use Rattle.client_calls.specs.Seats.{SignerTells}
use Rattle.client_calls.proofs.SeatLemmas.{Leads, More, NoneLed, signer_none, signer_on}
use Rattle.call_plans.specs.Paths.{Path, Carries}
use Rattle.duty_plans.specs.Steps.{DutyPlan, DutyStep, Fits, step_calls, step_told, step_failed, step_denied, step_node, step_node_failed, desk_calls, told_in, has_failed, has_denied, node_told, node_failed}
use Rattle.duty_plans.specs.Hands.{Hand, Free, hand_after}
use Rattle.duty_plans.specs.Seats.{Seat, Does, NodesTell, Ran}
use Rattle.duty_plans.proofs.NodeLemmas.{nodes_none, nodes_on, nodes_do}
use Rattle.duty_plans.proofs.GuardLemmas.{MayAll, hand_over, follows_fit, posts_guarded, signs_guarded, posted_granted}

pub record DidAll {K : Type 0} (leads : Leads K) (a : Seat K) (steps : List DutyStep) (b : Seat K) : Type 0 where
  pub desk : leads a.desk (desk_calls steps) b.desk
  pub signer : SignerTells a.signer b.signer (told_in steps) (has_failed steps) (has_denied steps)
  pub nodes : NodesTell a.nodes b.nodes (node_told steps) (node_failed steps)
  pub may : MayAll a.hand steps
  pub hand : b.hand ≡ hand_over a.hand steps

did_none : {K : Type 0} (leads : Leads K) (none : NoneLed leads) (a : Seat K) → DidAll leads a [] a
did_none leads none a = record { desk = none a.desk; signer = signer_none a.signer; nodes = nodes_none a.nodes; may = tt; hand = refl }

did_on : {K : Type 0} (leads : Leads K) (more : More leads) (a m b : Seat K) (s : DutyStep) (steps : List DutyStep) → Does leads a s m → DidAll leads m steps b → DidAll leads a (s ∷ steps) b
did_on leads more a m b s steps d rest = record {
  desk = more a.desk m.desk b.desk (step_calls s) (desk_calls steps) d.desk rest.desk;
  signer = signer_on a.signer m.signer b.signer (step_told s) (told_in steps) (step_failed s) (has_failed steps) (step_denied s) (has_denied steps) d.signer rest.signer;
  nodes = nodes_on a.nodes m.nodes b.nodes (λ place. step_node place s) (node_told steps) (λ place. step_node_failed place s) (node_failed steps) (nodes_do a.nodes m.nodes s d.nodes) rest.nodes;
  may = (d.may, subst (λ (h : Hand). MayAll h steps) d.hand rest.may);
  hand = subst (λ (h : Hand). b.hand ≡ hand_over h steps) d.hand rest.hand;
}

pub did_all : {K : Type 0} (leads : Leads K) (none : NoneLed leads) (more : More leads) (a b : Seat K) (steps : List DutyStep) → Path (Does leads) a steps b → DidAll leads a steps b
did_all {K} leads none more a b [] p = subst (λ (x : Seat K). DidAll leads a [] x) (sym p) (did_none leads none a)
did_all leads none more a b (s ∷ steps) p = did_on leads more a p.0 b s steps p.1 (did_all leads none more p.0 b steps p.2)

pub ran_of : {K X : Type 0} (leads : Leads K) (none : NoneLed leads) (more : More leads) (plan : DutyPlan X) (a b : Seat K) (v : Option X) → a.hand ≡ Free → b.hand ≡ Free
    → Carries Fits (Does leads) plan a b v → Ran leads plan a b v
ran_of leads none more plan a b v free ends c =
    let all = did_all leads none more a b c.steps c.path in
    let fit = follows_fit plan c.steps v c.follows in
    let may : MayAll Free c.steps = subst (λ (h : Hand). MayAll h c.steps) free all.may in
    let over : hand_over Free c.steps ≡ Free = subst (λ (h : Hand). hand_over h c.steps ≡ Free) free (sym all.hand ∙ ends) in
    let guarded = posts_guarded c.steps may fit over in
    record {
      steps = c.steps;
      follows = c.follows;
      desk = all.desk;
      signer = all.signer;
      nodes = all.nodes;
      posts = guarded;
      signs = signs_guarded c.steps may fit over;
      granted = posted_granted c.steps guarded fit;
    }
