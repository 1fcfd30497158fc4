use Rattle.std.proofs.Common.{None, []}
use Rattle.duty_work.proofs.RunLemmas.{short, slot_goes, slot_stops}
use Rattle.duty_loop.proofs.turn.do_slot.Goals as goal

pub do_active-requires-clause-held : goal.do_active-requires-clause-held
do_active-requires-clause-held g c = λ lifetimes outlives.
    let w = c.in-Ok-ask_all.ensures.runs None [] c.requires.held.0 c.requires.held.1 in
    (w.after, w.held)

pub returns-in_default-clause-runs : goal.returns-in_default-clause-runs
returns-in_default-clause-runs g c = λ s h. short g.K.DeskCalls.leads (g.C.Clock.start c.args.clock.now) _ _ s _

pub returns-in-Err-clause-runs : goal.returns-in-Err-clause-runs
returns-in-Err-clause-runs g c = λ s h. slot_stops g.K.DeskCalls.leads (g.C.Clock.start c.args.clock.now) _ _ c.args.setup.now c.args.listed.now c.in-Ok.active c.as_slice.result.now s _ _ c.ask_all.result c.in-Err.stop c.end_of.result c.in-Ok.ensures c.as_slice.ensures c.in-Err.is c.end_of.ensures (c.ask_all.ensures.runs (g.C.Clock.start c.args.clock.now) _ s h)

pub returns-clause-runs : goal.returns-clause-runs
returns-clause-runs g c = λ s h. slot_goes g.K.DeskCalls.leads (g.C.Clock.start c.args.clock.now) _ _ c.args.setup.now c.args.listed.now c.in-Ok.active c.as_slice.result.now s _ _ _ c.ask_all.result c.do_active.result c.in-Ok.ensures c.as_slice.ensures c.in-Ok-ask_all.is (c.ask_all.ensures.runs (g.C.Clock.start c.args.clock.now) _ s h) (λ t k. c.do_active.ensures.runs _ t k)
