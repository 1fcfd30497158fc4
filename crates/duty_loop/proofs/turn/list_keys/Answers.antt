use Rattle.duty_work.proofs.RunLemmas.{listed_goes, listed_short}
use Rattle.duty_loop.proofs.turn.list_keys.Goals as goal

pub returns-in-Keys-clause-runs : goal.returns-in-Keys-clause-runs
returns-in-Keys-clause-runs g c = λ s h. listed_goes g.K.DeskCalls.leads (g.C.Clock.start c.args.clock.now) _ c.args.setup.now s _ _ _ _ _ _ c.call.result c.in-Keys.listed c.as_slice.result.now _ c.call.ensures.leads c.call.ensures.kind c.call.ensures.granted c.in-Keys.is c.as_slice.ensures (c.do_slot.ensures.runs s h)

pub returns-in-OutOfMemory-clause-runs : goal.returns-in-OutOfMemory-clause-runs
returns-in-OutOfMemory-clause-runs g c = λ s h. listed_short g.K.DeskCalls.leads (g.C.Clock.start c.args.clock.now) _ c.args.setup.now s _ _ _ _ _ c.call.result c.call.ensures.leads c.call.ensures.kind c.call.ensures.granted
