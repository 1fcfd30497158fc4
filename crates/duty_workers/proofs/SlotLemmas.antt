-- A plan for each of a list, carried out up to an item.
use Rattle.std.proofs.Common.{◌≡◌, ℕ, ◌+◌, ◌<◌, List, [], ◌∷◌, ◌++◌, length, drop, get_or, Option, Some, None, subst}
use Rattle.call_plans.specs.Plans.{Plan, each_plan}
use Rattle.call_plans.specs.Paths.{Carries, Comes}
use Rattle.call_plans.proofs.EachLemmas.{each_cut, each_step}
use Rattle.client_calls.proofs.SeatLemmas.{Leads}
use Rattle.node_calls.specs.declared.answer.ProposerRow.{ProposerRow}
use Rattle.altair_blocks.specs.declared.any_block.AnyBlock.{AnyBlock}
use Rattle.duty_plans.specs.declared.ended.Ended.{Ended}
use Rattle.duty_plans.specs.declared.work.SlotWork.{SlotWork}
use Rattle.duty_plans.specs.Plans.{made_plan}
use Rattle.duty_plans.specs.Seats.{Does, Seat}
use Rattle.duty_plans.specs.Steps.{Fits}

module _ {S C R A X : Type 0} (fits : C → R → Type 0) (does : S → C × R → S → Type 0) (plan : A → Plan C R X) where
  -- the plan of the item at this place was carried out
  pub item_step : (a b c : S) (p : Plan C R (List X)) (got items : List X) (xs : List A) (i : ℕ) (item : A) (x : X)
      → i < length xs → item ≡ get_or xs i item → items ≡ got ++ x ∷ []
      → Comes fits does p (each_plan plan got (drop i xs)) a b → Carries fits does (plan item) b c (Some x)
      → Comes fits does p (each_plan plan items (drop (i + 1) xs)) a c
  item_step a b c p got items xs i item x h is e g run = each_step fits does plan a b c p got items xs i item x h e g (subst (λ (y : A). Carries fits does (plan y) b c (Some x)) is run)

  -- memory ran out in it
  pub item_cut : (a b c : S) (p : Plan C R (List X)) (got : List X) (xs : List A) (i : ℕ) (item : A)
      → i < length xs → item ≡ get_or xs i item → Comes fits does p (each_plan plan got (drop i xs)) a b → Carries fits does (plan item) b c None → Carries fits does p a c None
  item_cut a b c p got xs i item h is g run = each_cut fits does plan a b c p got xs i item h g (subst (λ (y : A). Carries fits does (plan y) b c None) is run)

-- the block that is proposed is the one that was copied
pub made_as : {K : Type 0} (leads : Leads K) (work : SlotWork) (row : ProposerRow) (copy block : AnyBlock) (a b : Seat K) (v : Option Ended) → copy ≡ block
    → Carries Fits (Does leads) (made_plan work row copy) a b v → Carries Fits (Does leads) (made_plan work row block) a b v
made_as leads work row copy block a b v is run = subst (λ (x : AnyBlock). Carries Fits (Does leads) (made_plan work row x) a b v) is run
