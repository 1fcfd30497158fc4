use Rattle.std.proofs.Common.{◌+◌, None, refl, ap, ◌∙◌, length}
use Rattle.std.proofs.lemmas.List.{length_push}
use Rattle.call_plans.proofs.PlanLemmas.{cut_now}
use Rattle.call_plans.proofs.PathLemmas.{carries_cut, comes_none, comes_end}
use Rattle.call_plans.proofs.EachLemmas.{each_step, each_cut, each_done}
use Rattle.client_calls.specs.Steps.{Fits}
use Rattle.client_calls.specs.Seats.{Does}
use Rattle.key_custody.specs.Plans.{delete_plan}
use Rattle.key_custody.proofs.delete.delete_each.Goals as goal

pub returns-in_default-clause-runs : goal.returns-in_default-clause-runs
returns-in_default-clause-runs g c = carries_cut Fits (Does g.K.DeskCalls.leads) _ _

pub keys-init : goal.keys-init
keys-init g c = record { ready = c.requires.ready; count = rw c.in-Ok.ensures.items refl; comes = rw c.in-Ok.ensures.items (comes_none Fits (Does g.K.DeskCalls.leads) _ _) }

pub returns-in_default-delete_key-clause-runs : goal.returns-in_default-delete_key-clause-runs
returns-in_default-delete_key-clause-runs g c = each_cut Fits (Does g.K.DeskCalls.leads) delete_plan _ _ _ _ c.keys.statuses.items c.args.keys.now c.keys.key-index _ c.keys-test.true c.keys.invariant.comes c.in_default-delete_key.ensures.runs

pub returns-in_default-push-clause-runs : goal.returns-in_default-push-clause-runs
returns-in_default-push-clause-runs g c = comes_end Fits (Does g.K.DeskCalls.leads) _ _ _ _ None
    (each_step Fits (Does g.K.DeskCalls.leads) delete_plan _ _ _ _ c.keys.statuses.items _ c.args.keys.now c.keys.key-index _ _ c.keys-test.true refl c.keys.invariant.comes c.in-Ok-delete_key.ensures.runs) (cut_now _ _)

pub keys-preserved : goal.keys-preserved
keys-preserved g c = record {
  ready = c.in-Ok-delete_key.ensures.ready;
  count = ap length c.in-Ok-push.ensures.items ∙ length_push _ _ ∙ ap (λ n. n + 1) c.keys.invariant.count;
  comes = each_step Fits (Does g.K.DeskCalls.leads) delete_plan _ _ _ _ c.keys.statuses.items _ c.args.keys.now c.keys.key-index _ _ c.keys-test.true c.in-Ok-push.ensures.items c.keys.invariant.comes c.in-Ok-delete_key.ensures.runs;
}

pub returns-clause-runs : goal.returns-clause-runs
returns-clause-runs g c = rw c.from_vec.ensures (each_done Fits (Does g.K.DeskCalls.leads) delete_plan _ _ _ c.keys.statuses.items c.args.keys.now c.keys.key-index c.keys-test.false c.keys.invariant.comes)
