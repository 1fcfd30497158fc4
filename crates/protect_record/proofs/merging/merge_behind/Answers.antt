use Rattle.std.proofs.Common.{◌+◌, List, sym, subst, arith}
use Rattle.std.specs.List.Sorted.{IsSorted}
use Rattle.protect_record.proofs.MergeLemmas.{front_stays, merged_sorted}
use Rattle.protect_record.proofs.merging.merge_behind.Goals as goal

pub merge_parts-requires-clause-front : goal.merge_parts-requires-clause-front
merge_parts-requires-clause-front g c =
    subst (λ (xs : List g.row.T.Denot). IsSorted g.T.Ord.cmp xs) (sym (front_stays c.args.list.now c.sort_from.new.list c.args.count (c.args.count + c.args.more) (omega arith) c.sort_from.ensures.front)) c.requires.front

pub returns : goal.returns
returns g c = merged_sorted g.T.Ord.cmp c.args.list.now c.sort_from.new.list _ c.args.count (c.args.count + c.args.more) (omega arith) c.sort_from.ensures.front c.sort_from.ensures.back c.merge_parts.ensures
