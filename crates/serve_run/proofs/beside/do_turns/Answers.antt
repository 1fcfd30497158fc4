use Rattle.std.proofs.Common.{ℕ, Option}
use Rattle.duty_plans.specs.Seats.{nodes_seen}
use Rattle.duty_turns.specs.TurnSteps.{House, sink_seen}
use Rattle.duty_workers.specs.Working.{lanes_seen}
use Rattle.duty_work.specs.Houses.{house}
use Rattle.serve_run.proofs.LoopLemmas.{duties_ran, house_free}
use Rattle.serve_run.proofs.beside.do_turns.Goals as goal

pub returns-clause-ran : goal.returns-clause-ran
returns-clause-ran g c =
    let clock : Option ℕ = g.C.Clock.start c.args.clock.now in
    let seen = lanes_seen g.S.Signer.told g.S.Signer.faults g.S.Signer.denials g.N.Node.told g.N.Node.faults in
    let nodes = nodes_seen g.N.Node.told g.N.Node.faults in
    let sink = sink_seen g.O.Sink.held g.O.Sink.faults in
    let new = c.run_duties.new in
    let a : House g.row.K.Denot = house c.args.desk.now (seen c.args.lanes.now) (nodes c.args.nodes.now) (sink c.args.out.now) in
    let b : House g.row.K.Denot = house new.desk (seen new.lanes) (nodes new.nodes) (sink new.out) in
    duties_ran g.K.DeskCalls.leads clock c.args.setup.now (c.turns_law.ensures.guarded clock) (c.end_law.ensures.write clock) c.end_law.ensures.disk (c.end_law.ensures.later clock) c.on_time_law.ensures.clock a b c.run_duties.result
    (house_free g.S.Signer.told g.S.Signer.faults g.S.Signer.denials g.N.Node.told g.N.Node.faults c.args.desk.now c.args.lanes.now (nodes c.args.nodes.now) (sink c.args.out.now))
    (house_free g.S.Signer.told g.S.Signer.faults g.S.Signer.denials g.N.Node.told g.N.Node.faults new.desk new.lanes (nodes new.nodes) (sink new.out))
    c.run_duties.ensures.runs
