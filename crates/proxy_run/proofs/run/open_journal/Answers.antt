use Rattle.std.proofs.Common.{ℕ, Option, false, ap, subst, ◌∙◌, inr}
use Rattle.check_sign.specs.Contents.{Seen}
use Rattle.duty_turns.specs.Times.{epoch_of}
use Rattle.keymanager_api.specs.Doors.{link_seen}
use Rattle.journal_commands.specs.Openings.{HadDeskAt}
use Rattle.journal_commands.proofs.OpeningLemmas.{Handed}
use Rattle.proxy_run.specs.Ends.{ServesDesk}
use Rattle.proxy_run.specs.Parts.{Parts, parts_seen}
use Rattle.proxy_run.proofs.DeskLemmas.{had_proxy, journal_because}
use Rattle.proxy_run.proofs.run.open_journal.Goals as goal

pub returns-in-Ok-clause-serves : goal.returns-in-Ok-clause-serves
returns-in-Ok-clause-serves g c =
    let moment = g.D.Disk.moment in
    let leaves = g.D.Disk.leaves in
    let faults = g.D.Disk.faults in
    let shows = g.D.Disk.shows in
    let see = link_seen g.R.Conn.Link.left g.R.Conn.Link.held g.R.Conn.Link.faults in
    let clock : Option ℕ = g.C.Clock.start c.args.clock.now in
    let parts = parts_seen g.S.Signer.told g.S.Signer.faults g.S.Signer.denials g.R.Door.coming g.R.Door.finished g.R.Door.lent g.R.Door.faults g.O.Sink.held g.O.Sink.faults in
    let before : Parts g.row.R-Conn.Denot = parts c.args.signers.items c.args.door c.args.out.now in
    let result = c.serve_desk.result in
    let now : Parts g.row.R-Conn.Denot = parts result.signers.items result.door c.serve_desk.new.out in
    let shared = c.serve_desk.ensures in
    let handed : Handed shared.ended result.disks result.events.items = record { disks = shared.disks; noted = shared.noted } in
    let epoch : ℕ = c.epoch_of-now.result in
    let Ends : Seen g.row.D.Denot → Seen g.row.D.Denot → Type 0 = λ opened ended. ServesDesk moment leaves faults see clock c.args.options.now opened ended before now result.status in
    let had = had_proxy moment leaves faults c.span_law.ensures c.close_law.ensures c.among_law.ensures c.safe_law.ensures.granted c.safe_law.ensures.posted see clock c.args.options.now c.in-Ok.desk shared.ended before now result.status
    shared.shares shows epoch c.args.disks result.disks result.events.items c.in-Ok.ensures.opened handed in
    let H : ℕ → Type 0 = λ at. HadDeskAt shows moment leaves faults c.args.options.now.genesis false at c.args.disks result.disks result.events.items Ends in
    record { shown = c.now.result; is_shown = c.now.ensures; serves = inr (subst H (c.epoch_of-now.ensures.epoch ∙ ap (λ slot. epoch_of slot) c.slot_of.ensures) had) }

pub returns-in-Ok-clause-causes : goal.returns-in-Ok-clause-causes
returns-in-Ok-clause-causes g c =
    let see = link_seen g.R.Conn.Link.left g.R.Conn.Link.held g.R.Conn.Link.faults in
    let clock : Option ℕ = g.C.Clock.start c.args.clock.now in
    let parts = parts_seen g.S.Signer.told g.S.Signer.faults g.S.Signer.denials g.R.Door.coming g.R.Door.finished g.R.Door.lent g.R.Door.faults g.O.Sink.held g.O.Sink.faults in
    let before : Parts g.row.R-Conn.Denot = parts c.args.signers.items c.args.door c.args.out.now in
    let result = c.serve_desk.result in
    let now : Parts g.row.R-Conn.Denot = parts result.signers.items result.door c.serve_desk.new.out in
    let shared = c.serve_desk.ensures in
    let opening = c.in-Ok.ensures.opened in
    journal_because g.D.Disk.moment g.D.Disk.leaves g.D.Disk.faults c.span_law.ensures c.close_law.ensures c.among_law.ensures c.safe_law.ensures.granted c.safe_law.ensures.posted see clock c.args.options.now c.in-Ok.desk shared.ended before now result.status
    shared.shares g.D.Disk.shows c.epoch_of-now.result c.args.disks result.disks result.events.items opening.opened.up opening.later shared.disks
