use Rattle.desk_machine.specs.declared.call.DeskCall.TheVariants as call
use Rattle.duty_turns.specs.Turns.{calls, listed_plan, shortens}
use Rattle.duty_work.proofs.PruneLemmas.{called_goes, called_short}
use Rattle.duty_loop.proofs.turn.shorten.Goals as goal

pub returns-in_default-clause-runs : goal.returns-in_default-clause-runs
returns-in_default-clause-runs g c = λ s h. called_short g.K.DeskCalls.leads (g.C.Clock.start c.args.clock.now) _ s (shortens s (calls call.Keys (listed_plan c.args.setup.now s))) _ _
    (c.in_default.ensures.called (g.C.Clock.start c.args.clock.now) _ _ _ s (calls call.Keys (listed_plan c.args.setup.now s)) h.is.slot)

pub returns-clause-runs : goal.returns-clause-runs
returns-clause-runs g c = λ s h. called_goes g.K.DeskCalls.leads (g.C.Clock.start c.args.clock.now) _ (shortens s (calls call.Keys (listed_plan c.args.setup.now s))) (calls call.Keys (listed_plan c.args.setup.now s)) _ _ _ c.list_keys.result
    (c.in-Ok.ensures.called (g.C.Clock.start c.args.clock.now) _ _ _ s (calls call.Keys (listed_plan c.args.setup.now s)) h.is.slot) (c.list_keys.ensures.runs s h)
