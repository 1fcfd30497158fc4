use Rattle.std.proofs.Common.{◌≡◌, List, [], Bool, rules, subst}
use Rattle.keymanager_api.specs.Doors.{link_seen}
use Rattle.serve_run.specs.Ends.{ServeEnds}
use Rattle.validator_cli.specs.Clients.{parts_of}
use Rattle.validator_cli.proofs.serve.run_client.Goals as goal

pub returns-clause-ends : goal.returns-clause-ends
returns-clause-ends g c = λ options is.
    let flags : List Bool = c.run_serve-status.new.nodes.syncing.items in
    let E : List g.row.N.Denot → List Bool → List g.row.N.Denot → Type 0 = λ nodes syncing back.
    ServeEnds g.D.Disk.shows g.D.Disk.moment g.D.Disk.leaves g.D.Disk.faults (link_seen g.R.Conn.Link.left g.R.Conn.Link.held g.R.Conn.Link.faults) (g.C.Clock.start c.args.clock.now) options c.args.disks c.run_serve-status.result.disks
    (parts_of g.S.Signer.told g.S.Signer.faults g.S.Signer.denials g.N.Node.told g.N.Node.faults g.R.Door.coming g.R.Door.finished g.R.Door.faults g.O.Sink.held g.O.Sink.faults c.args.signer nodes syncing [] c.args.door c.args.out.now)
    (parts_of g.S.Signer.told g.S.Signer.faults g.S.Signer.denials g.N.Node.told g.N.Node.faults g.R.Door.coming g.R.Door.finished g.R.Door.faults g.O.Sink.held g.O.Sink.faults c.run_serve-status.new.signer back flags c.run_serve-status.result.lanes.items c.run_serve-status.new.door c.run_serve-status.new.out)
    c.run_serve-status.result.events.items c.run_serve-status.result.status in
    let nodes : c.new-nodes.result.nodes.items ≡ c.args.nodes.items = search rules in
    let none : c.new-nodes.result.syncing.items ≡ [] = c.new-nodes.ensures.syncing in
    let back : c.run_serve-status.new.nodes.nodes.items ≡ c.into_nodes.result.items = search rules in
    let first : E c.new-nodes.result.nodes.items c.new-nodes.result.syncing.items c.run_serve-status.new.nodes.nodes.items = c.run_serve-status.ensures.ends options is in
    let second : E c.args.nodes.items c.new-nodes.result.syncing.items c.run_serve-status.new.nodes.nodes.items = subst (λ xs. E xs c.new-nodes.result.syncing.items c.run_serve-status.new.nodes.nodes.items) nodes first in
    let third : E c.args.nodes.items [] c.run_serve-status.new.nodes.nodes.items = subst (λ xs. E c.args.nodes.items xs c.run_serve-status.new.nodes.nodes.items) none second in
    record { flags = flags; ends = subst (λ xs. E c.args.nodes.items [] xs) back third }
