use Rattle.std.proofs.Common.{◌≡◌, ◌≤◌, ◌<◌, ◌-◌, ℕ, List, Option, true}
use Rattle.call_plans.specs.Paths.{Comes}
use Rattle.duty_plans.specs.Seats.{Seat, nodes_seen}
use Rattle.duty_turns.specs.Standing.{IsHeld, Standing}
use Rattle.duty_turns.specs.Times.{epoch_of}
use Rattle.duty_turns.specs.Turns.{epochs_plan, missing_epochs}
use Rattle.duty_turns.specs.TurnSteps.{Does, Fits, sink_seen}
use Rattle.duty_work.specs.Houses.{house}
use Rattle.duty_loop.specs.Missing.{some_misses, missing_from}
use Rattle.duty_loop.proofs.watch.watch_epochs.Given as goal

abbrev pub invariant-epochs : goal.invariant-epochs
invariant-epochs g l = record {
  ready : g.K.DeskCalls.ready l.desk;
  is_now : l.now ≡ epoch_of l.held.slot;
  within : l.epoch ≤ l.now;
  missed : l.epoch < l.now → some_misses l.epoch l.listed ≡ true;
  comes : (start : Option ℕ) (lanes : List (Seat g.row.K.Denot)) (s : Standing) → IsHeld l.held s → Comes Fits (Does g.K.DeskCalls.leads start) (epochs_plan l.now l.listed (missing_epochs l.now l.listed) s) (epochs_plan l.now l.listed (missing_from l.epoch l.now l.listed) s)
      (house l.fn.desk lanes (nodes_seen g.N.Node.told g.N.Node.faults l.fn.nodes) (sink_seen g.O.Sink.held g.O.Sink.faults l.fn.out))
      (house l.desk lanes (nodes_seen g.N.Node.told g.N.Node.faults l.nodes) (sink_seen g.O.Sink.held g.O.Sink.faults l.out));
}

abbrev pub decreases-epochs : goal.decreases-epochs
decreases-epochs g l = l.now - l.epoch
