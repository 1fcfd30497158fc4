use Rattle.std.proofs.Common.{ap, subst, sym, ◌∙◌}
use Rattle.edge_kit.specs.declared.bytes.Root.{Root}
use Rattle.journal_commands.specs.Views.{Output, output_of}
use Rattle.journal_commands.specs.Showing.{ShowEnds}
use Rattle.journal_commands.proofs.ShowLemmas.{show_ended}
use Rattle.journal_commands.proofs.OpeningLemmas.{root_of}
use Rattle.journal_commands.proofs.keys.run_show.Goals as goal

pub returns-clause-ends : goal.returns-clause-ends
returns-clause-ends g c = λ genesis journal is.
    let before : Output = output_of g.O.Sink.held g.O.Sink.faults c.args.out.now in
    let now : Output = output_of g.O.Sink.held g.O.Sink.faults c.show_desk-status.new.out in
    let E : Root → Type 0 = λ root. ShowEnds g.D.Disk.shows g.D.Disk.moment g.D.Disk.leaves g.D.Disk.faults root c.args.disks c.end-disks.result.0 before now c.end-disks.result.1.items c.show_desk-status.result in
    subst E (ap (root_of c.in-Show.genesis) (sym c.in-Show.is ∙ is))
    (show_ended g.D.Disk.shows g.D.Disk.moment g.D.Disk.leaves g.D.Disk.faults c.in-Show.genesis c.args.disks c.end-disks.result.0 before now c.end-disks.result.1.items c.show_desk-status.result
    c.in-Ok.desk c.show_desk-status.new.desk c.in-Ok.ensures.opened c.show_desk-status.ensures.ends (record { disks = c.end-disks.ensures.disks; noted = c.end-disks.ensures.events }))
