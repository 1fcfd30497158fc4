use Rattle.std.proofs.Common.{drop}
use Rattle.std.specs.Prelude.{string_bytes}
use Rattle.call_plans.specs.Plans.{each_plan}
use Rattle.call_plans.specs.Paths.{Comes}
use Rattle.client_calls.specs.Steps.{Fits}
use Rattle.client_calls.specs.Seats.{Does, at_seat}
use Rattle.key_custody.specs.Plans.{keystore_plan, keystores_plan, paired}
use Rattle.key_custody.proofs.import.import_each.Given as goal

abbrev pub invariant-keystores : goal.invariant-keystores
invariant-keystores g l = record {
  ready : g.K.DeskCalls.ready l.desk;
  comes : Comes Fits (Does g.K.DeskCalls.leads) (keystores_plan l.now (paired (λ s. string_bytes s) l.keystores l.passwords))
      (each_plan (λ k. keystore_plan l.now k) l.statuses.items (paired (λ s. string_bytes s) (drop l.i l.keystores) (drop l.i l.passwords)))
      (at_seat l.fn.desk (record { told = g.S.Signer.told l.fn.signer; faults = g.S.Signer.faults l.fn.signer; denials = g.S.Signer.denials l.fn.signer }))
      (at_seat l.desk (record { told = g.S.Signer.told l.signer; faults = g.S.Signer.faults l.signer; denials = g.S.Signer.denials l.signer }));
}
