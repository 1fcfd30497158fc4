use Rattle.std.proofs.Common.{◌≡◌, ◌∙◌, ap, List, ℕ, take, drop, rules}
use Rattle.edge_kit.specs.declared.mem_disk.Crash.TheVariants as crash
use Rattle.edge_kit.specs.MemDisks.{crashed}
use Rattle.edge_kit.proofs.MemDiskLemmas.{image_left, crashed-written}
use Rattle.edge_kit.proofs.mem_disk.MemDisk.image.Goals as goal

pub returns-clause-exact : goal.returns-clause-exact
returns-clause-exact c =
    let d = c.args.self.now in
    let done : c.crash_all.new.image.items ≡ crashed crash.Written d.first.items (take d.synced d.steps.items) = search rules in
    let is : c.crash_all-2.new.image.items ≡ crashed c.args.crash c.crash_all.new.image.items (drop d.synced d.steps.items) = search rules in
    is ∙ ap (λ (l : List ℕ). crashed c.args.crash l (drop d.synced d.steps.items)) (done ∙ crashed-written d.first.items (take d.synced d.steps.items))

pub returns-clause-left : goal.returns-clause-left
returns-clause-left c =
    let d = c.args.self.now in image_left c.args.crash d.first.items c.crash_all-2.new.image.items d.steps.items d.synced d.changes (returns-clause-exact c)
