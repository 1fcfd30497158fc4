use Rattle.std.proofs.Common.{rules}
use Rattle.std.specs.Prelude.{nat_le, nat_lt}
use Rattle.std.proofs.lemmas.List.Sorted.{IsPartitionPoint-from_clause}
use Rattle.duty_loop.specs.Asked.{AskedKey}
use Rattle.duty_loop.proofs.NoteLemmas.{begins_by, ends_by, range_is}
use Rattle.duty_loop.proofs.notes.keys_of.Goals as goal

pub returns : goal.returns
returns c =
    let first = IsPartitionPoint-from_clause (λ (a : AskedKey). nat_lt a.0 c.args.index) _ _ c.partition_point-begin.ensures.partitioned (begins_by c.args.index _ c.requires) (λ a r q k. search rules) in
    let second = IsPartitionPoint-from_clause (λ (a : AskedKey). nat_le a.0 c.args.index) _ _ c.partition_point-end.ensures.partitioned (ends_by c.args.index c.partition_point-begin.result _ _ c.split_at.ensures.back c.requires) (λ a r q k. search rules) in
    range_is c.args.index c.partition_point-begin.result c.partition_point-end.result c.args.asked.now _ _ c.split_at.ensures.back c.split_at-2.ensures.front first second
