use Rattle.std.proofs.Common.{◌≡◌, All, length}
use Rattle.serve_run.specs.Equipping.{IsMadeOf}
use Rattle.serve_run.proofs.lanes.make_lanes.Given as goal

abbrev pub invariant-lanes : goal.invariant-lanes
invariant-lanes g l = record {
  count : length l.lanes.items ≡ l._lane;
  each : All (IsMadeOf g.S.Signer.told g.S.Signer.faults g.S.Signer.denials g.N.Node.told g.N.Node.faults l.fn.signer l.fn.nodes) l.lanes.items;
}
