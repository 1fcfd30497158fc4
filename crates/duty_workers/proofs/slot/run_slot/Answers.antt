use Rattle.std.proofs.Common.{None, refl}
use Rattle.call_plans.proofs.PlanLemmas.{cut_now}
use Rattle.call_plans.proofs.PathLemmas.{carries_cut, comes_none, comes_end}
use Rattle.call_plans.proofs.EachLemmas.{each_done}
use Rattle.duty_plans.specs.Plans.{slot_work, task_plan}
use Rattle.duty_plans.specs.Seats.{Does}
use Rattle.duty_plans.specs.Steps.{Fits}
use Rattle.duty_workers.proofs.PlaceLemmas.{placed_at}
use Rattle.duty_workers.proofs.SlotLemmas.{item_cut, item_step}
use Rattle.duty_workers.proofs.slot.run_slot.Goals as goal

pub returns-in_default-clause-runs : goal.returns-in_default-clause-runs
returns-in_default-clause-runs g c = carries_cut Fits (Does g.K.DeskCalls.leads) _ _

pub tasks-init : goal.tasks-init
tasks-init g c = record { ready = c.requires.ready; comes = rw c.in-Ok.ensures.items (comes_none Fits (Does g.K.DeskCalls.leads) _ _) }

pub returns-in_default-carry_out-clause-runs : goal.returns-in_default-carry_out-clause-runs
returns-in_default-carry_out-clause-runs g c = item_cut Fits (Does g.K.DeskCalls.leads) (λ t. task_plan (slot_work c.args.setup.now c.args.domains.now c.args.slot c.args.now) t) _ _ _ _ c.tasks.ends.items c.args.tasks.now c.tasks.task-index c.task-item.result c.tasks-test.true c.task-item.is c.tasks.invariant.comes c.in_default-carry_out.ensures.runs

pub returns-in_default-push-clause-runs : goal.returns-in_default-push-clause-runs
returns-in_default-push-clause-runs g c = comes_end Fits (Does g.K.DeskCalls.leads) _ _ _ _ None
    (item_step Fits (Does g.K.DeskCalls.leads) (λ t. task_plan (slot_work c.args.setup.now c.args.domains.now c.args.slot c.args.now) t) _ _ _ _ c.tasks.ends.items _ c.args.tasks.now c.tasks.task-index c.task-item.result _ c.tasks-test.true c.task-item.is refl c.tasks.invariant.comes c.in-Ok-carry_out.ensures.runs) (cut_now _ _)

pub tasks-preserved : goal.tasks-preserved
tasks-preserved g c = record {
  ready = c.in-Ok-carry_out.ensures.ready;
  comes = item_step Fits (Does g.K.DeskCalls.leads) (λ t. task_plan (slot_work c.args.setup.now c.args.domains.now c.args.slot c.args.now) t) _ _ _ _ c.tasks.ends.items _ c.args.tasks.now c.tasks.task-index c.task-item.result _ c.tasks-test.true c.task-item.is c.in-Ok-push.ensures.items c.tasks.invariant.comes c.in-Ok-carry_out.ensures.runs;
}

pub returns-clause-runs : goal.returns-clause-runs
returns-clause-runs g c = each_done Fits (Does g.K.DeskCalls.leads) (λ t. task_plan (slot_work c.args.setup.now c.args.domains.now c.args.slot c.args.now) t) _ _ _ c.tasks.ends.items c.args.tasks.now c.tasks.task-index c.tasks-test.false c.tasks.invariant.comes

pub carry_out-requires-clause-place : goal.carry_out-requires-clause-place
carry_out-requires-clause-place g c = placed_at c.args.tasks.now c.tasks.task-index c.task-item.result c.requires.places c.tasks-test.true c.task-item.is
