use Rattle.std.proofs.Common.{drop}
use Rattle.call_plans.specs.Plans.{each_plan}
use Rattle.call_plans.specs.Paths.{Comes}
use Rattle.duty_plans.specs.Hands.{Free}
use Rattle.duty_plans.specs.Plans.{slot_plan, slot_work, task_plan}
use Rattle.duty_plans.specs.Seats.{Does, at_seat, nodes_seen}
use Rattle.duty_plans.specs.Steps.{Fits}
use Rattle.duty_workers.proofs.slot.run_slot.Given as goal
use Rattle.client_calls.specs.Seats.{signer_seen}

abbrev pub invariant-tasks : goal.invariant-tasks
invariant-tasks g l = record {
  ready : g.K.DeskCalls.ready l.desk;
  comes : Comes Fits (Does g.K.DeskCalls.leads) (slot_plan (slot_work l.setup l.domains l.slot l.now) l.tasks) (each_plan (λ t. task_plan (slot_work l.setup l.domains l.slot l.now) t) l.ends.items (drop l.task-index l.tasks))
      (at_seat l.fn.desk Free (signer_seen g.S.Signer.told g.S.Signer.faults g.S.Signer.denials l.fn.signer) (nodes_seen g.N.Node.told g.N.Node.faults l.fn.nodes))
      (at_seat l.desk Free (signer_seen g.S.Signer.told g.S.Signer.faults g.S.Signer.denials l.signer) (nodes_seen g.N.Node.told g.N.Node.faults l.nodes));
}
