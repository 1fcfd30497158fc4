use Rattle.std.proofs.Common.{sym}
use Rattle.edge_kit.specs.OnMemDisks.{Shows}
use Rattle.rehearsal.proofs.OpenLemmas.{opens_by}
use Rattle.rehearsal.proofs.client.open.Goals as goal

pub returns-in-Ok : goal.returns-in-Ok
returns-in-Ok c =
    let opened = c.in-Ok.ensures.opened.opened in
    opens_by Shows _ c.genesis.result (c.args.first.items, c.args.second.items) c.args.now _ c.genesis.ensures (sym c.in_ok-new.ensures.bytes) (sym c.in_ok-new-2.ensures.bytes) opened.read opened.stands opened.genesis_is
