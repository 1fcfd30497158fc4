use Rattle.std.proofs.Common.{◌≡◌, All, length}
use Rattle.duty_workers.specs.Working.{IsReady, lanes_seen}
use Rattle.duty_workers.proofs.RefreshLemmas.{FirstLanes}
use Rattle.duty_workers.proofs.lanes.refresh_lanes.Given as goal

abbrev pub invariant-lanes : goal.invariant-lanes
invariant-lanes g l = record {
  count : length l.lanes ≡ l.i-end;
  ready : All (IsReady g.K.DeskCalls.ready) l.lanes;
  first : FirstLanes (lanes_seen g.S.Signer.told g.S.Signer.faults g.S.Signer.denials g.N.Node.told g.N.Node.faults l.fn.lanes)
      (lanes_seen g.S.Signer.told g.S.Signer.faults g.S.Signer.denials g.N.Node.told g.N.Node.faults l.lanes) l.i;
}
