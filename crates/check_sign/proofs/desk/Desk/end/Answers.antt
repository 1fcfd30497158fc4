use Rattle.std.proofs.Common.{List, ℕ, subst}
use Rattle.record_journal.specs.Journals.{MayRead, disks_of}
use Rattle.record_journal.specs.TwoDisks.{LeftPair}
use Rattle.check_sign.specs.Contents.{Seen, disks_in}
use Rattle.check_sign.specs.Writing.{journal_of}
use Rattle.check_sign.proofs.OpenLemmas.{may_open}
use Rattle.check_sign.proofs.desk.Desk.end.Goals as goal

pub returns-clause-left : goal.returns-clause-left
returns-clause-left g c =
    let R : List ℕ → Type 0 = λ r. LeftPair g.D.Disk.moment g.D.Disk.leaves (disks_of c.self.inside.journal) (MayRead (record c.self.inside.journal { root = r })) in
    let S : Seen _ → Type 0 = λ s. LeftPair g.D.Disk.moment g.D.Disk.leaves (disks_in s) (MayRead (journal_of s)) in
    let holds = subst S c.self.view_is (subst R c.self.invariant.0.root c.self.invariant.0.left) in
    λ state stands a b left left_too. may_open c.args.self state stands (a, b) (holds a b left left_too)
