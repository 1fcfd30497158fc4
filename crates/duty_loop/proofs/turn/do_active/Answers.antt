use Rattle.std.proofs.Common.{◌≡◌, true, refl, sym, subst, List}
use Rattle.duty_schedule.specs.declared.rows.Duty.{Duty}
use Rattle.duty_turns.specs.Turns.{with_active}
use Rattle.duty_workers.specs.Places.{are_placed}
use Rattle.duty_work.proofs.PlacedLemmas.{due_placed}
use Rattle.duty_work.proofs.RunLemmas.{looked, short}
use Rattle.duty_loop.proofs.turn.do_active.Goals as goal

pub do_due-requires-clause-places : goal.do_due-requires-clause-places
do_due-requires-clause-places g c = λ lifetimes outlives.
    let s = c.requires.held.0 in
    let h = c.requires.held.1 in
    subst (λ (l : List Duty). are_placed l ≡ true) (sym c.deref.ensures.value) (due_placed s.answers c.args.held.now.slot c.as_slice.result.now c.in-Ok.due.items (c.in-Ok.ensures s.answers h.is.schedule) h.places)

pub returns-in_default-clause-runs : goal.returns-in_default-clause-runs
returns-in_default-clause-runs g c = λ nodes s h. short g.K.DeskCalls.leads (g.C.Clock.start c.args.clock.now) _ _ s _

pub returns-clause-runs : goal.returns-clause-runs
returns-clause-runs g c = λ nodes s h. looked g.K.DeskCalls.leads (g.C.Clock.start c.args.clock.now) _ c.args.setup.now s _ _ c.args.held.now.slot c.args.active c.as_slice.result.now c.in-Ok.due.items c.deref.result.now _ h.is.slot c.as_slice.ensures c.deref.ensures.value (c.in-Ok.ensures s.answers h.is.schedule)
    (c.do_due.ensures.runs nodes (with_active c.args.active s) (record { is = record { slot = h.is.slot; fork = h.is.fork; indices = h.is.indices; schedule = h.is.schedule; active = refl; renewed = h.is.renewed }; places = h.places }))
