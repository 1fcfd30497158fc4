-- The aggregate that is posted is the one that was signed.
use Rattle.std.proofs.Common.{◌≡◌, Option, subst}
use Rattle.edge_kit.specs.declared.bytes.Sig.{Sig}
use Rattle.client_calls.proofs.SeatLemmas.{Leads}
use Rattle.call_plans.specs.Paths.{Carries}
use Rattle.desk_machine.specs.declared.open_grant.OpenGrant.{OpenGrant}
use Rattle.duty_types.specs.declared.aggregate.AggregateAndProof.{AggregateAndProof}
use Rattle.signer_link.specs.declared.aggregate.Aggregate.TheVariants as aggregated
use Rattle.signer_link.specs.declared.request.PlainObject.TheVariants as plain
use Rattle.signer_link.specs.declared.request.PlainRequest.{PlainRequest}
use Rattle.duty_plans.specs.declared.ended.Ended.{Ended}
use Rattle.duty_plans.specs.declared.got.Got.{Got}
use Rattle.duty_plans.specs.declared.work.SlotWork.{SlotWork}
use Rattle.duty_plans.specs.Ends.{over}
use Rattle.duty_plans.specs.Messages.{aggregate_post, aggregate_request}
use Rattle.duty_plans.specs.Plans.{post_plan, under}
use Rattle.duty_plans.specs.Seats.{Does, Seat}
use Rattle.duty_plans.specs.Steps.{Fits}

-- the aggregate that goes with a request is the one that it was made of
message_same : (work : SlotWork) (message m : AggregateAndProof) (q : PlainRequest) → q ≡ aggregate_request work message → q.object ≡ plain.Aggregate (aggregated.Unnamed m) → m ≡ message
message_same work message m q e h = cc

pub message_is : {K : Type 0} (leads : Leads K) (work : SlotWork) (grant : OpenGrant) (message m : AggregateAndProof) (q : PlainRequest) (x : Got Sig) (a c : Seat K) (v : Option Ended)
    → q ≡ aggregate_request work message → q.object ≡ plain.Aggregate (aggregated.Unnamed m)
    → Carries Fits (Does leads) (under over grant x (λ s. post_plan over grant (aggregate_post m s))) a c v
    → Carries Fits (Does leads) (under over grant x (λ s. post_plan over grant (aggregate_post message s))) a c v
message_is leads work grant message m q x a c v e h run =
    subst (λ (y : AggregateAndProof). Carries Fits (Does leads) (under over grant x (λ s. post_plan over grant (aggregate_post y s))) a c v) (message_same work message m q e h) run
