use Rattle.std.proofs.lemmas.Result.{on_ok_weaker}
use Rattle.duty_asks.specs.Placed.{HoldsPlaced}
use Rattle.duty_work.proofs.RunLemmas.{waited}
use Rattle.duty_loop.proofs.turn.take_turn.Goals as goal

pub returns-clause-held : goal.returns-clause-held
returns-clause-held g c =
    let w = c.begin.ensures.runs c.requires.held.0 c.requires.held.1 in
    on_ok_weaker c.begin.result (λ (h : HoldsPlaced c.begin.new.held w.after). (w.after, h)) w.held

pub returns-clause-runs : goal.returns-clause-runs
returns-clause-runs g c = λ s h. waited g.K.DeskCalls.leads (g.C.Clock.start c.args.clock.now) _ c.args.setup.now s _ _ c.slot_start.result c.args.held.now.slot c.wait_until-reached.result _ c.slot_start.ensures h.is.slot c.wait_until-reached.ensures (c.begin.ensures.runs s h)
