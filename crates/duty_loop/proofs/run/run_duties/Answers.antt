use Rattle.std.proofs.Common.{◌≡◌, arith}
use Rattle.duty_work.proofs.TurnLemmas.{turns_begun, turns_end, turns_go, turns_halted, turns_over}
use Rattle.duty_loop.proofs.run.run_duties.Goals as goal

pub turns-init : goal.turns-init
turns-init g c = record { ready = c.requires.ready; lanes = c.requires.lanes; so_far = turns_begun g.K.DeskCalls.leads (g.C.Clock.start c.args.clock.now) c.args.setup.now _ _ c.now.result c.now.ensures c.first_held-held.ensures }

pub take_turn-requires-clause-held : goal.take_turn-requires-clause-held
take_turn-requires-clause-held g c = λ lifetimes outlives. (c.turns.invariant.so_far.after, c.turns.invariant.so_far.held)

pub returns-in-Err-clause-runs : goal.returns-in-Err-clause-runs
returns-in-Err-clause-runs g c = turns_end g.K.DeskCalls.leads (g.C.Clock.start c.args.clock.now) c.args.setup.now _ _ _ _ _ c.turns._turn c.turns-test.true c.in-Err.end c.turns.invariant.so_far (c.in-Err.ensures.runs c.turns.invariant.so_far.after c.turns.invariant.so_far.held)

pub turns-preserved : goal.turns-preserved
turns-preserved g c = record { ready = c.in-Ok.ensures.ready; lanes = c.in-Ok.ensures.lanes; so_far = turns_go g.K.DeskCalls.leads (g.C.Clock.start c.args.clock.now) c.args.setup.now _ _ _ _ _ c.turns._turn c.turns.invariant.so_far (c.in-Ok.ensures.runs c.turns.invariant.so_far.after c.turns.invariant.so_far.held) }

-- the clock is halted
pub returns-then-is_halted-clause-runs : goal.returns-then-is_halted-clause-runs
returns-then-is_halted-clause-runs g c =
    turns_halted g.K.DeskCalls.leads (g.C.Clock.start c.args.clock.now) c.args.setup.now _ _ _ c.turns._turn c.is_halted.result c.turns-test.true c.is_halted.ensures c.if-is_halted.true c.turns.invariant.so_far

pub returns-clause-runs : goal.returns-clause-runs
returns-clause-runs g c =
    let all : c.turns._turn ≡ c.args.setup.now.slots = omega arith in
    turns_over g.K.DeskCalls.leads (g.C.Clock.start c.args.clock.now) c.args.setup.now _ _ _ c.turns._turn all c.turns.invariant.so_far
