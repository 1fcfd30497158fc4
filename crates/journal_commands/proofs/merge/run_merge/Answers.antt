use Rattle.std.proofs.Common.{ap, subst, sym, ◌∙◌}
use Rattle.edge_kit.specs.declared.bytes.Root.{Root}
use Rattle.journal_commands.specs.Views.{View, view_of}
use Rattle.journal_commands.specs.Merging.{MergeEnds}
use Rattle.journal_commands.proofs.MergeLemmas.{merge_ended}
use Rattle.journal_commands.proofs.OpeningLemmas.{root_of}
use Rattle.journal_commands.proofs.merge.run_merge.Goals as goal

pub returns-clause-ends : goal.returns-clause-ends
returns-clause-ends g c = λ genesis journal is.
    let before : View = view_of g.I.Source.left g.I.Source.faults g.O.Sink.held g.O.Sink.faults c.args.input.now c.args.out.now in
    let now : View = view_of g.I.Source.left g.I.Source.faults g.O.Sink.held g.O.Sink.faults c.merge_input-status.new.input c.merge_input-status.new.out in
    let E : Root → Type 0 = λ root. MergeEnds g.D.Disk.shows g.D.Disk.moment g.D.Disk.leaves g.D.Disk.faults root c.args.disks c.end-disks.result.0 before now c.end-disks.result.1.items c.merge_input-status.result in
    subst E (ap (root_of c.in-Merge.genesis) (sym c.in-Merge.is ∙ is))
    (merge_ended g.D.Disk.shows g.D.Disk.moment g.D.Disk.leaves g.D.Disk.faults c.in-Merge.genesis c.args.disks c.end-disks.result.0 before now c.end-disks.result.1.items c.merge_input-status.result
    c.in-Ok.desk c.merge_input-status.new.desk c.in-Ok.ensures.opened c.merge_input-status.ensures.ends (record { disks = c.end-disks.ensures.disks; noted = c.end-disks.ensures.events }))
