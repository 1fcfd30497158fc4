use Rattle.duty_turns.specs.Turns.{duties_plan, renewed_plan}
use Rattle.duty_asks.proofs.QuietLemmas.{parts_then, parts_stop}
use Rattle.duty_asks.proofs.duties.ask_duties.Goals as goal

pub returns-in-Err : goal.returns-in-Err
returns-in-Err g c = λ s h. parts_stop _ _ (renewed_plan c.args.active.now s) (duties_plan c.args.active.now) _ _ c.renew.result c.in-Err.stop c.in-Err.is (c.renew.ensures s h)

pub returns : goal.returns
returns g c = λ s h. parts_then _ _ (renewed_plan c.args.active.now s) (duties_plan c.args.active.now) _ _ _ c.renew.result c.ask_rows.result c.in-Ok.is (c.renew.ensures s h) (λ t k. c.ask_rows.ensures t k)
