use Rattle.std.proofs.Common.{◌⊎◌, ⊎_elim, ℕ, Option, ap, subst, ◌∙◌, inr}
use Rattle.edge_kit.specs.Causes.{Rose}
use Rattle.check_sign.specs.Contents.{Seen}
use Rattle.record_journal.specs.TwoDisks.{EitherRose}
use Rattle.keymanager_api.specs.Doors.{link_seen}
use Rattle.duty_turns.specs.Times.{epoch_of}
use Rattle.journal_commands.specs.Openings.{HadDeskAt}
use Rattle.journal_commands.proofs.OpeningLemmas.{Handed}
use Rattle.serve_run.specs.Clients.{Parts, parts_seen}
use Rattle.serve_run.specs.Ends.{ServesDesk, Unserved}
use Rattle.serve_run.proofs.DeskLemmas.{had_client, had_unserved, journal_because, unserved_because}
use Rattle.serve_run.proofs.run.serve_journal.Goals as goal

pub returns-clause-serves : goal.returns-clause-serves
returns-clause-serves g c =
    let moment = g.D.Disk.moment in
    let leaves = g.D.Disk.leaves in
    let faults = g.D.Disk.faults in
    let shows = g.D.Disk.shows in
    let see = link_seen g.R.Conn.Link.left g.R.Conn.Link.held g.R.Conn.Link.faults in
    let clock : Option ℕ = g.C.Clock.start c.args.clock.now in
    let parts = parts_seen g.S.Signer.told g.S.Signer.faults g.S.Signer.denials g.N.Node.told g.N.Node.faults g.R.Door.coming g.R.Door.finished g.R.Door.faults g.O.Sink.held g.O.Sink.faults in
    let before : Parts g.row.R-Conn.Denot = parts c.args.signer.now c.args.nodes.now c.args.lanes.items c.args.door.now c.args.out.now in
    let new = c.serve_desk-status.new in
    let result = c.serve_desk-status.result in
    let now : Parts g.row.R-Conn.Denot = parts new.signer new.nodes result.2.items new.door new.out in
    let disks = c.end-disks.result.0 in
    let events = c.end-disks.result.1.items in
    let handed : Handed result.1 disks events = record { disks = c.end-disks.ensures.disks; noted = c.end-disks.ensures.events } in
    let opening = c.in-Ok.ensures.opened in
    let epoch : ℕ = c.epoch_of-now.result in
    let Ends : Seen g.row.D.Denot → Seen g.row.D.Denot → Type 0 = λ opened ended. ServesDesk moment leaves faults see clock c.args.options.now c.args.start opened ended before now result.0 ⊎ Unserved opened ended before now result.0 in
    let had = ⊎_elim
    (λ s. had_client moment leaves faults c.span_law.ensures c.close_law.ensures c.among_law.ensures c.safe_law.ensures.granted c.safe_law.ensures.posted see clock c.args.options.now c.args.start c.in-Ok.desk result.1 before now result.0 s
    shows epoch c.args.disks disks events opening handed)
    (λ u. had_unserved moment leaves faults shows see clock c.args.options.now c.args.start c.in-Ok.desk result.1 before now result.0 epoch c.args.disks disks events u opening handed)
    c.serve_desk-status.ensures in
    let H : ℕ → Type 0 = λ at. HadDeskAt shows moment leaves faults c.args.options.now.genesis c.args.options.now.watch at c.args.disks disks events Ends in
    record { shown = c.now.result; is_shown = c.now.ensures; serves = inr (subst H (c.epoch_of-now.ensures.epoch ∙ ap (λ slot. epoch_of slot) c.slot_of.ensures) had) }

pub returns-clause-causes : goal.returns-clause-causes
returns-clause-causes g c =
    let moment = g.D.Disk.moment in
    let leaves = g.D.Disk.leaves in
    let faults = g.D.Disk.faults in
    let see = link_seen g.R.Conn.Link.left g.R.Conn.Link.held g.R.Conn.Link.faults in
    let clock : Option ℕ = g.C.Clock.start c.args.clock.now in
    let parts = parts_seen g.S.Signer.told g.S.Signer.faults g.S.Signer.denials g.N.Node.told g.N.Node.faults g.R.Door.coming g.R.Door.finished g.R.Door.faults g.O.Sink.held g.O.Sink.faults in
    let before : Parts g.row.R-Conn.Denot = parts c.args.signer.now c.args.nodes.now c.args.lanes.items c.args.door.now c.args.out.now in
    let new = c.serve_desk-status.new in
    let result = c.serve_desk-status.result in
    let now : Parts g.row.R-Conn.Denot = parts new.signer new.nodes result.2.items new.door new.out in
    let disks = c.end-disks.result.0 in
    let opening = c.in-Ok.ensures.opened in
    ⊎_elim
    (λ s. journal_because moment leaves faults c.span_law.ensures c.close_law.ensures c.among_law.ensures c.safe_law.ensures.granted c.safe_law.ensures.posted see clock c.args.options.now c.args.start c.in-Ok.desk result.1 before now result.0 s
    g.D.Disk.shows c.epoch_of-now.result c.args.disks disks c.end-disks.result.1.items opening.opened.up opening.later c.end-disks.ensures.disks)
    (λ u. unserved_because (Rose before.out.failed now.out.failed) (EitherRose faults c.args.disks disks) (Rose before.door.faults now.door.faults) c.in-Ok.desk result.1 before now result.0 u)
    c.serve_desk-status.ensures
