use Rattle.std.proofs.Common.{◌-◌, get_or, refl, sym, ◌∙◌, ap, arith}
use Rattle.std.specs.Ordering.{is_gt}
use Rattle.std.proofs.lemmas.List.{get_or_default}
use Rattle.protect_record.proofs.MergeLemmas.{merging_starts, merging_left, merging_right, merged}
use Rattle.protect_record.proofs.merging.merge_parts.Goals.{else-left-gt0-via-then-left-gt0+else-is_gt, else-left-gt0-via-else-left-gt0}
use Rattle.protect_record.proofs.merging.merge_parts.Goals as goal

pub loop-right-init : goal.loop-right-init
loop-right-init g c = merging_starts g.T.Ord.cmp c.args.list.now c.args.count c.args.more c.requires.len

pub loop-right-preserved-then-is_gt : goal.loop-right-preserved-then-is_gt
loop-right-preserved-then-is_gt g c =
    merging_left g.T.Ord.cmp c.args.list.now c.loop-right.list c.args.count c.args.more c.loop-right.left c.loop-right.right _ c.index-list-left-then-is_gt.result (get_or c.loop-right.list (c.loop-right.left - 1) c.index-list-left.result) c.index-list-count.result
    c.loop-right.invariant (omega arith) (omega arith) refl c.requires.len c.requires.front c.index-list-left-then-is_gt.is (ap (λ d. get_or c.loop-right.list (c.loop-right.left - 1) d) c.index-list-left.is) c.index-list-count.is
    (ap is_gt (sym c.cmp.ensures) ∙ sym c.is_gt.ensures ∙ c.if-is_gt.true)

pub loop-right-preserved : goal.loop-right-preserved
loop-right-preserved g c =
    merging_right g.T.Ord.cmp g.met.T.Ord.total c.args.list.now c.loop-right.list c.args.count c.args.more c.loop-right.left c.loop-right.right _ c.index-list-count.result
    c.loop-right.invariant (omega arith) refl c.requires.len c.requires.back c.index-list-count.is
    (λ some. elim c.else-left-gt0.branch [
      | else-left-gt0-via-then-left-gt0+else-is_gt w ↦
          ap (λ z. is_gt (g.T.Ord.cmp z c.index-list-count.result))
          (get_or_default c.loop-right.list (c.loop-right.left - 1) c.index-list-count.result w.index-list-left.result (omega (arith, c.loop-right.invariant.len, c.loop-right.invariant.left_within)))
          ∙ ap is_gt (sym w.cmp.ensures) ∙ sym w.is_gt.ensures ∙ w.if-is_gt.false
      | else-left-gt0-via-else-left-gt0 w ↦ absurd (omega (arith, w.if-left-gt0.false))
    ])

pub returns : goal.returns
returns g c = merged g.T.Ord.cmp c.args.list.now c.loop-right.list c.args.count c.args.more c.loop-right.left c.loop-right.right (omega arith) c.requires.len c.requires.front c.loop-right.invariant
