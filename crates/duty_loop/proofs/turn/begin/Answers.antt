use Rattle.std.proofs.Common.{true, false, [], refl}
use Rattle.duty_turns.specs.Times.{slot_start}
use Rattle.duty_turns.specs.Turns.{at_moment, woken_plan}
use Rattle.duty_asks.specs.Placed.{HoldsPlaced}
use Rattle.duty_work.proofs.RunLemmas.{closed_as, lanes_short, refreshed, refreshed_short}
use Rattle.duty_work.proofs.TurnLemmas.{missed_so, moved_so, woken_late, woken_now}
use Rattle.duty_loop.proofs.turn.begin.Goals as goal

pub returns-then-is_missed-clause-runs : goal.returns-then-is_missed-clause-runs
returns-then-is_missed-clause-runs g c = λ s h.
    let moved = moved_so (λ x. HoldsPlaced c.go_to.new.held x) c.args.setup.now.genesis_time c.args.held.now.slot c.slot_start-moment.result c.args.reached s slot_start c.slot_start-moment.ensures h.is.slot (c.go_to.ensures s h) in
    closed_as g.K.DeskCalls.leads (g.C.Clock.start c.args.clock.now) _ c.args.setup.now (woken_plan c.args.setup.now s c.args.reached) s (at_moment c.args.setup.now.genesis_time (slot_start c.args.setup.now.genesis_time s.slot) c.args.reached s) _ _ c.args.held.now.slot [] [] [] [] c.close.result
    (woken_late c.args.setup.now s c.args.reached
    (missed_so c.args.setup.now.genesis_time c.args.held.now.slot c.slot_start-moment.result s.slot c.args.reached slot_start c.is_missed.result true c.is_missed.ensures c.if-is_missed.true c.slot_start-moment.ensures h.is.slot))
    h.is.slot refl refl moved
    (c.close.ensures.runs (g.C.Clock.start c.args.clock.now) _ _ _ moved.is.active)

pub returns-in_default-clause-runs : goal.returns-in_default-clause-runs
returns-in_default-clause-runs g c = λ s h.
    refreshed_short g.K.DeskCalls.leads (g.C.Clock.start c.args.clock.now) _ c.args.setup.now s _ _ _ _ _ c.args.reached
    (woken_now c.args.setup.now s c.args.reached
    (missed_so c.args.setup.now.genesis_time c.args.held.now.slot c.slot_start-moment.result s.slot c.args.reached slot_start c.is_missed.result false c.is_missed.ensures c.if-is_missed.false c.slot_start-moment.ensures h.is.slot)) c.in_default.ensures.asked

pub returns-in_default-refresh_lanes-clause-runs : goal.returns-in_default-refresh_lanes-clause-runs
returns-in_default-refresh_lanes-clause-runs g c = λ s h.
    lanes_short g.K.DeskCalls.leads (g.C.Clock.start c.args.clock.now) _ c.args.setup.now s _ _ _ _ _ c.args.reached
    (woken_now c.args.setup.now s c.args.reached
    (missed_so c.args.setup.now.genesis_time c.args.held.now.slot c.slot_start-moment.result s.slot c.args.reached slot_start c.is_missed.result false c.is_missed.ensures c.if-is_missed.false c.slot_start-moment.ensures h.is.slot)) _
    c.in-Ok.ensures.flagged c.in_default-refresh_lanes.ensures.refreshed

pub returns-clause-runs : goal.returns-clause-runs
returns-clause-runs g c = λ s h.
    refreshed g.K.DeskCalls.leads (g.C.Clock.start c.args.clock.now) _ c.args.setup.now s _ _ _ _ _ c.args.reached
    (woken_now c.args.setup.now s c.args.reached
    (missed_so c.args.setup.now.genesis_time c.args.held.now.slot c.slot_start-moment.result s.slot c.args.reached slot_start c.is_missed.result false c.is_missed.ensures c.if-is_missed.false c.slot_start-moment.ensures h.is.slot)) _ _ _
    c.in-Ok.ensures.flagged c.in-Ok-refresh_lanes.ensures.refreshed (c.shorten.ensures.runs s h)
