use Rattle.std.proofs.Common.{All}
use Rattle.duty_plans.specs.Seats.{nodes_seen}
use Rattle.duty_turns.specs.TurnSteps.{sink_seen}
use Rattle.duty_asks.specs.Placed.{HoldsPlaced}
use Rattle.duty_workers.specs.Working.{IsReady, lanes_seen}
use Rattle.duty_work.specs.Houses.{house}
use Rattle.duty_work.proofs.TurnLemmas.{TurnsSoFar}
use Rattle.duty_loop.proofs.run.run_duties.Given as goal

abbrev pub invariant-turns : goal.invariant-turns
invariant-turns g l = record {
  ready : g.K.DeskCalls.ready l.desk;
  lanes : All (IsReady g.K.DeskCalls.ready) l.lanes;
  so_far : TurnsSoFar g.K.DeskCalls.leads (g.C.Clock.start l.clock) l.setup (HoldsPlaced l.held) l._turn
      (house l.fn.desk (lanes_seen g.S.Signer.told g.S.Signer.faults g.S.Signer.denials g.N.Node.told g.N.Node.faults l.fn.lanes) (nodes_seen g.N.Node.told g.N.Node.faults l.fn.nodes) (sink_seen g.O.Sink.held g.O.Sink.faults l.fn.out))
      (house l.desk (lanes_seen g.S.Signer.told g.S.Signer.faults g.S.Signer.denials g.N.Node.told g.N.Node.faults l.lanes) (nodes_seen g.N.Node.told g.N.Node.faults l.nodes) (sink_seen g.O.Sink.held g.O.Sink.faults l.out));
}
