use Rattle.std.proofs.Common.{List, true, false, ap}
use Rattle.duty_plans.specs.declared.ended.Ended.{Ended}
use Rattle.duty_plans.specs.Ends.{results_of}
use Rattle.duty_turns.specs.Times.{votes_start}
use Rattle.duty_turns.specs.Turns.{at_moment, blocks_in, votes_plan}
use Rattle.duty_asks.specs.Placed.{HoldsPlaced}
use Rattle.duty_work.proofs.RunLemmas.{closed_as, turns_as}
use Rattle.duty_work.proofs.TurnLemmas.{missed_so, moved_so, votes_late, votes_now}
use Rattle.duty_work.proofs.work.vote_at.Goals as goal

pub returns-then-is_missed-clause-runs : goal.returns-then-is_missed-clause-runs
returns-then-is_missed-clause-runs g c = λ nodes s h.
    let moved = moved_so (λ x. HoldsPlaced c.go_to.new.held x) c.args.setup.now.genesis_time c.args.held.now.slot c.votes_start-moment.result c.args.reached s votes_start c.votes_start-moment.ensures h.is.slot (c.go_to.ensures s h) in
    closed_as g.K.DeskCalls.leads (g.C.Clock.start c.args.clock.now) _ c.args.setup.now (votes_plan c.args.setup.now s c.args.due.now c.args.proposed.items c.args.reached) s (at_moment c.args.setup.now.genesis_time (votes_start c.args.setup.now.genesis_time s.slot) c.args.reached s) _ _ c.args.held.now.slot c.args.blocks.now (blocks_in c.args.due.now)
    (results_of c.as_slice.result.now) (results_of c.args.proposed.items) c.close_ended.result
    (votes_late c.args.setup.now s c.args.due.now c.args.proposed.items c.args.reached
    (missed_so c.args.setup.now.genesis_time c.args.held.now.slot c.votes_start-moment.result s.slot c.args.reached votes_start c.is_missed.result true c.is_missed.ensures c.if-is_missed.true c.votes_start-moment.ensures h.is.slot))
    h.is.slot c.requires.blocks (ap (λ (l : List Ended). results_of l) c.as_slice.ensures.value) moved
    (c.close_ended.ensures.runs (g.C.Clock.start c.args.clock.now) _ _ _ moved.is.active)

pub returns-clause-runs : goal.returns-clause-runs
returns-clause-runs g c = λ nodes s h.
    turns_as g.K.DeskCalls.leads (g.C.Clock.start c.args.clock.now) _ (votes_plan c.args.setup.now s c.args.due.now c.args.proposed.items c.args.reached) _ _ _ c.cast_now.result
    (votes_now c.args.setup.now s c.args.due.now c.args.proposed.items c.args.reached
    (missed_so c.args.setup.now.genesis_time c.args.held.now.slot c.votes_start-moment.result s.slot c.args.reached votes_start c.is_missed.result false c.is_missed.ensures c.if-is_missed.false c.votes_start-moment.ensures h.is.slot))
    (c.cast_now.ensures.runs nodes s h)
