-- Plans that end in a reply.
use Rattle.std.proofs.Common.{◌≡◌, ℕ, List, [], Option, Some, None, IfSome, Result, Ok, Err, IfOk, refl, sym, ap, subst}
use Rattle.std.specs.Result.{result_ok}
use Rattle.std.proofs.lemmas.List.{append-nil}
use Rattle.call_plans.specs.Plans.{Done, bind, Follows}
use Rattle.call_plans.proofs.PlanLemmas.{follows_bind, follows_cut, cut_now}
use Rattle.client_calls.specs.Steps.{ClientPlan, Fits}
use Rattle.client_calls.specs.Seats.{Seat, Ran}
use Rattle.client_calls.proofs.SeatLemmas.{Leads, NoneLed, signer_none}
use Rattle.http_wire.specs.declared.message.Request.{Request}
use Rattle.http_wire.specs.declared.message.WireFault.{WireFault}
use Rattle.keymanager_routes.specs.Checks.{◌>>=◌, action_for}
use Rattle.keymanager_routes.specs.Refusals.{refusal_reply}
use Rattle.keymanager_routes.specs.declared.refusal.Refusal.{Refusal}
use Rattle.keymanager_routes.specs.declared.route.Action.{Action}
use Rattle.keymanager_routes.specs.declared.reply.Reply.{Reply}
use Rattle.keymanager_bodies.specs.Asking.{asked_of, body_asks}
use Rattle.keymanager_api.specs.Plans.{answer_plan, checked_plan, faulty_plan}

-- a value, if there is one, is this one
abbrev pub IsAtMost : {X : Type 0} → Option X → X → Type 0
IsAtMost {X} v x = (y : X) → v ≡ Some y → y ≡ x

pub at_most : {X E : Type 0} (r : Result X E) (x : X) → IfOk r (λ y. y ≡ x) → IsAtMost (result_ok r) x
at_most (Ok z) x h y e = let z_is : z ≡ y = cc in subst (λ w. w ≡ x) z_is h
at_most (Err e) x h y g = cc

ends : {C R X : Type 0} (fits : C → R → Type 0) (x : X) (v : Option X) → IsAtMost v x → Follows fits (Done x) [] v
ends fits x None h = tt
ends fits x (Some y) h = h y refl

-- a plan that gave a value, and then what is made of it
pub ran_then : {K X Y : Type 0} (leads : Leads K) (a b : Seat K) (q : ClientPlan X) (f : X → Y) (x : X) (v : Option Y)
    → Ran leads q a b (Some x) → IsAtMost v (f x) → Ran leads (bind q (λ z. Done (f z))) a b v
ran_then leads a b q f x v r h = record {
  steps = r.steps;
  follows = subst (λ l. Follows Fits (bind q (λ z. Done (f z))) l v) (append-nil r.steps) (follows_bind Fits q (λ z. Done (f z)) r.steps x r.follows [] v (ends Fits (f x) v h));
  desk = r.desk;
  signer = r.signer;
}

-- memory ran out in the plan
pub ran_short : {K X Y : Type 0} (leads : Leads K) (a b : Seat K) (q : ClientPlan X) (f : X → ClientPlan Y) → Ran leads q a b None → Ran leads (bind q f) a b None
ran_short leads a b q f r = record { steps = r.steps; follows = follows_cut Fits q f r.steps r.follows; desk = r.desk; signer = r.signer }

-- nothing is called
pub ran_none : {K X : Type 0} (leads : Leads K) (none : NoneLed leads) (a : Seat K) (x : X) (v : Option X) → IsAtMost v x → Ran leads (Done x) a a v
ran_none leads none a x v h = record { steps = []; follows = ends Fits x v h; desk = none a.desk; signer = signer_none a.signer }

-- memory ran out before anything was called
pub ran_cut : {K X : Type 0} (leads : Leads K) (none : NoneLed leads) (plan : ClientPlan X) (a : Seat K) → Ran leads plan a a None
ran_cut leads none plan a = record { steps = []; follows = cut_now Fits plan; desk = none a.desk; signer = signer_none a.signer }

-- the same of what is equal
pub ran_at : {K X A : Type 0} (leads : Leads K) (a b : Seat K) (plan : A → ClientPlan X) (x y : A) (v : Option X) → x ≡ y → Ran leads (plan x) a b v → Ran leads (plan y) a b v
ran_at leads a b plan x y v e r = subst (λ z. Ran leads (plan z) a b v) e r

pub ran_as : {K X : Type 0} (leads : Leads K) (a b : Seat K) (plan : ClientPlan X) (v w : Option X) → v ≡ w → Ran leads plan a b v → Ran leads plan a b w
ran_as leads a b plan v w e r = subst (λ z. Ran leads plan a b z) e r

-- what was no request calls nothing, and its reply, if there is one, is the plan's
pub ran_faulty : {K : Type 0} (leads : Leads K) (none : NoneLed leads) (a : Seat K) (f : WireFault) (reply : Option Reply) → IfSome reply (λ y. faulty_plan f ≡ Done y) → Ran leads (faulty_plan f) a a reply
ran_faulty leads none a f (Some x) h = subst (λ (p : ClientPlan Reply). Ran leads p a a (Some x)) (sym h) (ran_none leads none a x (Some x) (λ y e. cc))
ran_faulty leads none a f None h = ran_cut leads none (faulty_plan f) a

-- nor does a head that fails a check
pub ran_refused : {K : Type 0} (leads : Leads K) (none : NoneLed leads) (a : Seat K) (token : List ℕ) (now : ℕ) (head : Request) (r : Refusal) (v : Option Reply) → action_for token head ≡ Err r → IsAtMost v (refusal_reply r)
    → Ran leads (answer_plan token now head) a a v
ran_refused leads none a token now head r v fails h =
    let asked : Err r ≡ asked_of token head = sym (ap (λ (x : Result Action Refusal). x >>= (λ what. body_asks what head.body.items)) fails) in
    ran_at leads a a (λ x. checked_plan now x) (Err r) (asked_of token head) v asked (ran_none leads none a (refusal_reply r) v h)

-- the value, if there is one
pub if_some : {X E : Type 0} (P : X → Type 0) (r : Result X E) → IfOk r P → IfSome (result_ok r) P
if_some P (Ok x) h = h
if_some P (Err e) h = tt
