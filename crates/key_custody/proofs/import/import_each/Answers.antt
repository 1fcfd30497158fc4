use Rattle.std.proofs.Common.{None, refl}
use Rattle.std.specs.Prelude.{string_bytes}
use Rattle.call_plans.proofs.PlanLemmas.{cut_now}
use Rattle.call_plans.proofs.PathLemmas.{carries_cut, comes_none, comes_end}
use Rattle.call_plans.proofs.EachLemmas.{each_next, each_short, each_over}
use Rattle.client_calls.specs.Steps.{Fits}
use Rattle.client_calls.specs.Seats.{Does}
use Rattle.key_custody.specs.Plans.{keystore_plan}
use Rattle.key_custody.proofs.CustodyLemmas.{paired_read, paired_over}
use Rattle.key_custody.proofs.import.import_each.Goals as goal

pub returns-in_default-clause-runs : goal.returns-in_default-clause-runs
returns-in_default-clause-runs g c = carries_cut Fits (Does g.K.DeskCalls.leads) _ _

pub keystores-init : goal.keystores-init
keystores-init g c = record { ready = c.requires.ready; comes = rw c.in-Ok.ensures.items (comes_none Fits (Does g.K.DeskCalls.leads) _ _) }

pub returns-in_default-import_one-clause-runs : goal.returns-in_default-import_one-clause-runs
returns-in_default-import_one-clause-runs g c = each_short Fits (Does g.K.DeskCalls.leads) (λ k. keystore_plan c.args.now k) _ _ _ _ c.keystores.statuses.items _ _ _
    (paired_read (λ s. string_bytes s) c.args.keystores.now c.args.passwords.now c.keystores.i c.index-keystores-i.result c.index-passwords-i.result _ _ c.keystores-test.true c.requires.lengths c.index-keystores-i.is c.index-passwords-i.is c.as_str.ensures.value c.as_str-password.ensures.value) c.keystores.invariant.comes c.in_default-import_one.ensures.runs

pub returns-in_default-push-clause-runs : goal.returns-in_default-push-clause-runs
returns-in_default-push-clause-runs g c = comes_end Fits (Does g.K.DeskCalls.leads) _ _ _ _ None
    (each_next Fits (Does g.K.DeskCalls.leads) (λ k. keystore_plan c.args.now k) _ _ _ _ c.keystores.statuses.items _ _ _ _ _
    (paired_read (λ s. string_bytes s) c.args.keystores.now c.args.passwords.now c.keystores.i c.index-keystores-i.result c.index-passwords-i.result _ _ c.keystores-test.true c.requires.lengths c.index-keystores-i.is c.index-passwords-i.is c.as_str.ensures.value c.as_str-password.ensures.value) refl c.keystores.invariant.comes c.in-Ok-import_one.ensures.runs) (cut_now _ _)

pub keystores-preserved : goal.keystores-preserved
keystores-preserved g c = record {
  ready = c.in-Ok-import_one.ensures.ready;
  comes = each_next Fits (Does g.K.DeskCalls.leads) (λ k. keystore_plan c.args.now k) _ _ _ _ c.keystores.statuses.items _ _ _ _ _
      (paired_read (λ s. string_bytes s) c.args.keystores.now c.args.passwords.now c.keystores.i c.index-keystores-i.result c.index-passwords-i.result _ _ c.keystores-test.true c.requires.lengths c.index-keystores-i.is c.index-passwords-i.is c.as_str.ensures.value c.as_str-password.ensures.value) c.in-Ok-push.ensures.items c.keystores.invariant.comes c.in-Ok-import_one.ensures.runs;
}

pub returns-clause-runs : goal.returns-clause-runs
returns-clause-runs g c = rw c.from_vec.ensures (each_over Fits (Does g.K.DeskCalls.leads) (λ k. keystore_plan c.args.now k) _ _ _ c.keystores.statuses.items _
    (paired_over (λ s. string_bytes s) c.args.keystores.now c.args.passwords.now c.keystores.i c.keystores-test.false) c.keystores.invariant.comes)
