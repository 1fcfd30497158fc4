use Rattle.std.proofs.Common.{◌≡◌, ◌⊎◌, inl, inr}
use Rattle.std.proofs.lemmas.List.{get_or_default}
use Rattle.protect_record.specs.declared.verdict.Verdict.{Verdict}
use Rattle.record_join.proofs.AllLemmas.{Unfitting, judged_none, judged_more, judged_unfit, same_on, unfitting_of}
use Rattle.record_join.proofs.FileLemmas.{distinct_once}
use Rattle.record_join.specs.declared.judgement.Judged.{Judged}
use Rattle.record_join.specs.declared.judgement.Judged.TheVariants as judged
use Rattle.record_join.proofs.message.judge_all.Goals as goal

pub messages-init : goal.messages-init
messages-init c = judged_none c.args.kept.now.entries

pub returns-then-repeat-clause-same : goal.returns-then-repeat-clause-same
returns-then-repeat-clause-same c = same_on _ _ _ _ _ _ c.messages.invariant.same c.judge.ensures.judges

pub returns-then-repeat-clause-unfit : goal.returns-then-repeat-clause-unfit
returns-then-repeat-clause-unfit c = λ is.
    judged_unfit _ _ _ c.args.listed.now c.messages.one-index _ c.judge.result c.messages-test.true (get_or_default c.args.listed.now c.messages.one-index _ _ c.messages-test.true) c.messages.invariant c.judge.ensures.judges
    (unfitting_of c.judge.result (judged.Ready c.in-Ready.repeat) c.in-Ready.is c.if-repeat.true)

pub returns-in-Unknown-clause-same : goal.returns-in-Unknown-clause-same
returns-in-Unknown-clause-same c = same_on _ _ _ _ _ _ c.messages.invariant.same c.judge.ensures.judges

pub returns-in-Unknown-clause-unfit : goal.returns-in-Unknown-clause-unfit
returns-in-Unknown-clause-unfit c = λ is.
    judged_unfit _ _ _ c.args.listed.now c.messages.one-index _ c.judge.result c.messages-test.true (get_or_default c.args.listed.now c.messages.one-index _ _ c.messages-test.true) c.messages.invariant c.judge.ensures.judges
    (elim c.in-Unknown.is [ inl e ↦ unfitting_of c.judge.result judged.Unknown e tt | inr e ↦ unfitting_of c.judge.result (judged.Refused e.0) e.1 tt ])

pub returns-in-NoRoom-clause-same : goal.returns-in-NoRoom-clause-same
returns-in-NoRoom-clause-same c = same_on _ _ _ _ _ _ c.messages.invariant.same c.judge.ensures.judges

pub messages-preserved : goal.messages-preserved
messages-preserved c =
    judged_more _ _ _ c.args.listed.now c.messages.one-index _ c.in-Ready.repeat (distinct_once _ c.requires) c.messages-test.true (get_or_default c.args.listed.now c.messages.one-index _ _ c.messages-test.true) c.messages.invariant c.in-Ready.ensures.judges c.if-repeat.false
