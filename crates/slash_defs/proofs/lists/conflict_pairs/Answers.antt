use Rattle.std.proofs.Common.{◌+◌, ◌∙◌, ap, length-drop, get_or, arith, count_by, []}
use Rattle.std.proofs.lemmas.List.{take_rest}
use Rattle.slash_defs.specs.declared.message.Message.TheVariants.{Block}
use Rattle.slash_defs.specs.Lists.{is_unsafe}
use Rattle.slash_defs.proofs.PairLemmas.{pairs_more, pairs_end, safe_from_none, none_from_safe}
use Rattle.slash_defs.proofs.lists.conflict_pairs.Goals as goal

pub loop-i-preserved : goal.loop-i-preserved
loop-i-preserved c =
    let list = c.args.list.now in
    let first = get_or list c.loop-i.i (record { 0 = [] }, Block 0 (record { 0 = [] })) in
    let counted = c.conflicts_with-pairs.ensures.count ∙ ap (count_by (is_unsafe first)) (take_rest list (c.loop-i.i + 1)) in
    let rest = pairs_more list c.loop-i.i (record { 0 = [] }, Block 0 (record { 0 = [] })) c.loop-i-test.true in
    let bound = rw (take_rest list (c.loop-i.i + 1)) at c.conflicts_with-pairs.ensures.bound in
    (omega (arith, c.loop-i.invariant.0), omega (arith, c.loop-i.invariant.1, length-drop (c.loop-i.i + 1) list))

pub returns-clause-count : goal.returns-clause-count
returns-clause-count c = omega (arith, c.loop-i.invariant.0, pairs_end c.args.list.now c.loop-i.i c.loop-i-test.false)

pub returns-clause-none : goal.returns-clause-none
returns-clause-none c =
    let all = pairs_end c.args.list.now c.loop-i.i c.loop-i-test.false in
    (λ e. safe_from_none _ (omega (arith, c.loop-i.invariant.0)), λ safe. omega (arith, c.loop-i.invariant.0, none_from_safe _ safe))
