use Rattle.duty_turns.specs.Turns.{duties_plan, renewed_plan, then_on, watch_plan}
use Rattle.duty_work.proofs.HouseLemmas.{part_stops, part_then}
use Rattle.duty_work.proofs.RunLemmas.{kept}
use Rattle.duty_loop.proofs.turn.ask_all.Goals as goal

pub returns-in-Err-clause-runs : goal.returns-in-Err-clause-runs
returns-in-Err-clause-runs g c = λ start lanes s h. part_stops g.K.DeskCalls.leads g.met.K.DeskCalls.leads_none start _ _ (then_on (renewed_plan c.args.active.now s) (duties_plan c.args.active.now)) (watch_plan c.args.watches c.args.listed.now) _ lanes _ _ c.ask_duties.result c.in-Err.stop c.in-Err.is (c.ask_duties.ensures s h)

pub returns-clause-runs : goal.returns-clause-runs
returns-clause-runs g c = λ start lanes s h. part_then g.K.DeskCalls.leads g.met.K.DeskCalls.leads_none start _ _ (then_on (renewed_plan c.args.active.now s) (duties_plan c.args.active.now)) (watch_plan c.args.watches c.args.listed.now) _ lanes _ _ _ c.ask_duties.result c.watch.result c.in-Ok.is (c.ask_duties.ensures s h)
    (λ t k. record { after = t; held = kept c.watch.result k; runs = c.watch.ensures.runs start lanes t k.is })
