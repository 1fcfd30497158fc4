use Rattle.std.proofs.Common.{length}
use Rattle.duty_plans.specs.Seats.{nodes_seen}
use Rattle.duty_turns.specs.Standing.{Standing}
use Rattle.duty_turns.specs.Turns.{by_32, index_plan}
use Rattle.duty_turns.specs.TurnSteps.{sink_seen}
use Rattle.duty_asks.specs.Placed.{HoldsPlaced}
use Rattle.duty_asks.specs.Quiet.{outside}
use Rattle.duty_asks.proofs.IndexLemmas.{Asking}
use Rattle.duty_asks.proofs.indices.ask_indices.Given as goal

abbrev pub invariant-questions : goal.invariant-questions
invariant-questions g l = record {
  asking : (s : Standing) → HoldsPlaced l.fn.held s → Asking (HoldsPlaced l.held) (index_plan (by_32 (length l.keys) l.keys) s)
      (outside (nodes_seen g.N.Node.told g.N.Node.faults l.fn.nodes) (sink_seen g.O.Sink.held g.O.Sink.faults l.fn.out))
      (outside (nodes_seen g.N.Node.told g.N.Node.faults l.nodes) (sink_seen g.O.Sink.held g.O.Sink.faults l.out))
      l.left;
}

abbrev pub decreases-questions : goal.decreases-questions
decreases-questions g l = length l.left
