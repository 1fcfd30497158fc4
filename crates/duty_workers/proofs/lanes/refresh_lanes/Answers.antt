use Rattle.std.proofs.Common.{◌<◌, ◌≤◌, ◌∙◌, length, arith}
use Rattle.std.proofs.lemmas.List.{length-set}
use Rattle.duty_workers.specs.Working.{lane_seen, lanes_seen}
use Rattle.duty_workers.proofs.RefreshLemmas.{first_more, first_out, first_whole, ready_on}
use Rattle.duty_workers.proofs.lanes.refresh_lanes.Goals as goal

pub returns-in_default-clause-refreshed : goal.returns-in_default-clause-refreshed
returns-in_default-clause-refreshed g c =
    first_out (lane_seen g.S.Signer.told g.S.Signer.faults g.S.Signer.denials g.N.Node.told g.N.Node.faults) (lanes_seen g.S.Signer.told g.S.Signer.faults g.S.Signer.denials g.N.Node.told g.N.Node.faults c.args.lanes.now)
    c.lanes.lanes c.lanes.i c.index-lanes-i.result c.refresh_lane.new.lane (omega arith) c.in_default.ensures.refreshed c.lanes.invariant.first

pub lanes-preserved : goal.lanes-preserved
lanes-preserved g c =
    let within : c.lanes.i < length c.lanes.lanes = omega arith in
    record {
      count = length-set c.lanes.lanes c.lanes.i c.refresh_lane.new.lane ∙ c.lanes.invariant.count;
      ready = ready_on g.K.DeskCalls.ready c.lanes.lanes c.lanes.i c.index-lanes-i.result c.refresh_lane.new.lane within c.in-Ok.ensures.desk c.lanes.invariant.ready;
      first = first_more (lane_seen g.S.Signer.told g.S.Signer.faults g.S.Signer.denials g.N.Node.told g.N.Node.faults) (lanes_seen g.S.Signer.told g.S.Signer.faults g.S.Signer.denials g.N.Node.told g.N.Node.faults c.args.lanes.now)
          c.lanes.lanes c.lanes.i c.index-lanes-i.result c.refresh_lane.new.lane within c.in-Ok.ensures.refreshed c.lanes.invariant.first;
    }

pub returns-clause-refreshed : goal.returns-clause-refreshed
returns-clause-refreshed g c =
    let all : length c.lanes.lanes ≤ c.lanes.i = omega arith in
    first_whole (lane_seen g.S.Signer.told g.S.Signer.faults g.S.Signer.denials g.N.Node.told g.N.Node.faults) (lanes_seen g.S.Signer.told g.S.Signer.faults g.S.Signer.denials g.N.Node.told g.N.Node.faults c.args.lanes.now)
    c.lanes.lanes c.lanes.i all c.lanes.invariant.first
