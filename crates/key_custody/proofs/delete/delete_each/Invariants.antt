use Rattle.std.proofs.Common.{◌≡◌, drop, length}
use Rattle.call_plans.specs.Plans.{each_plan}
use Rattle.call_plans.specs.Paths.{Comes}
use Rattle.client_calls.specs.Steps.{Fits}
use Rattle.client_calls.specs.Seats.{Does, at_seat}
use Rattle.key_custody.specs.Plans.{delete_plan, statuses_plan}
use Rattle.key_custody.proofs.delete.delete_each.Given as goal

abbrev pub invariant-keys : goal.invariant-keys
invariant-keys g l = record {
  ready : g.K.DeskCalls.ready l.desk;
  count : length l.statuses.items ≡ l.key-index;
  comes : Comes Fits (Does g.K.DeskCalls.leads) (statuses_plan l.keys) (each_plan delete_plan l.statuses.items (drop l.key-index l.keys))
      (at_seat l.fn.desk (record { told = g.S.Signer.told l.fn.signer; faults = g.S.Signer.faults l.fn.signer; denials = g.S.Signer.denials l.fn.signer }))
      (at_seat l.desk (record { told = g.S.Signer.told l.signer; faults = g.S.Signer.faults l.signer; denials = g.S.Signer.denials l.signer }));
}
