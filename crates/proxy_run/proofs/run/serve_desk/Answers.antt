use Rattle.std.proofs.Common.{ℕ, List, subst}
use Rattle.keymanager_api.specs.Doors.{link_seen}
use Rattle.door_lanes.specs.Doors.{door_seen}
use Rattle.proxy_api.specs.Attending.{terms_of}
use Rattle.proxy_lanes.specs.Lanes.{ProxyRan, signers_seen}
use Rattle.proxy_run.proofs.run.serve_desk.Goals as goal

pub returns : goal.returns
returns g c =
    let see = link_seen g.R.Conn.Link.left g.R.Conn.Link.held g.R.Conn.Link.faults in
    let seen = signers_seen g.S.Signer.told g.S.Signer.faults g.S.Signer.denials in
    let door = door_seen g.R.Door.coming g.R.Door.finished g.R.Door.lent g.R.Door.faults in
    let options = c.args.options.now in
    let result = c.serve_proxy-ended.result in
    let By : List ℕ → Type 0 = λ token. ProxyRan g.D.Disk.moment g.D.Disk.leaves g.D.Disk.faults see (terms_of (g.C.Clock.start c.args.clock.now) token options.genesis options.genesis_time) options.connections c.args.desk result.1
    (seen c.args.signers.items) (seen result.2.items) (door c.args.door) (door result.3) result.0 in
    record {
      ended = result.1;
      shares = record { lanes_end = result.0; ran = subst By c.as_str.ensures c.serve_proxy-ended.ensures; closes = c.close_lanes-status.ensures.closes };
      disks = c.end-disks.ensures.disks;
      noted = c.end-disks.ensures.events;
    }
