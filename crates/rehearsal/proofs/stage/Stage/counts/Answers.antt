use Rattle.std.proofs.Common.{refl, sym, ◌∙◌, ap, subst, length}
use Rattle.slash_defs.specs.Lists.{SafeList, unsafe_pairs}
use Rattle.rehearsal.proofs.StageLemmas.{rehearsed}
use Rattle.rehearsal.proofs.stage.Stage.counts.Goals as goal

pub returns : goal.returns
returns c =
    let same = c.deref.ensures.value in
    let size = c.len.ensures ∙ (sym c.deref.ensures.len ∙ ap length same) in
    let none = λ (safe : SafeList c.args.self.now.cast.sent.items). c.conflict_pairs.ensures.none.1 (subst SafeList (sym same) safe) in
    rehearsed c.args.self.now.number c.args.self.now.count c.args.steps c.args.self.now _ c.requires.stood refl size refl refl refl (c.conflict_pairs.ensures.count ∙ ap unsafe_pairs same) none
