use Rattle.std.proofs.Common.{length}
use Rattle.std.specs.Map.Iter.{deref_pair}
use Rattle.std.proofs.lemmas.List.{length-append}
use Rattle.std.proofs.lemmas.Map.Iter.{iter_turn, iter_end}
use Rattle.record_join.proofs.FileLemmas.{distinct_ordered, read_at, joins_more, joins_all, room_next_join}
use Rattle.record_join.proofs.join.join_records.Goals as goal

pub join_at-requires : goal.join_at-requires
join_at-requires c =
    let given = c.into_iter-key-iterator.ensures.into_iter_gives in
    let turn = iter_turn deref_pair c.args.others.now.entries c.others.yielded _ _ _ _ given.0 c.others.yielded_by (c.in-Some.key, c.in-Some.record) c.in-Some.is c.next.ensures.steps in
    let at = read_at _ _ _ turn.1 in
    room_next_join _ _ _ (length c.others.yielded) (c.in-Some.key.now, c.in-Some.record.now) (distinct_ordered _ given.5) at.0 at.1 c.others.invariant c.requires

pub others-preserved : goal.others-preserved
others-preserved c =
    let given = c.into_iter-key-iterator.ensures.into_iter_gives in
    let turn = iter_turn deref_pair c.args.others.now.entries c.others.yielded _ _ _ _ given.0 c.others.yielded_by (c.in-Some.key, c.in-Some.record) c.in-Some.is c.next.ensures.steps in
    let at = read_at _ _ _ turn.1 in
    rw (length-append c.others.yielded) (joins_more _ _ _ _ (length c.others.yielded) (c.in-Some.key.now, c.in-Some.record.now) (distinct_ordered _ given.5) at.0 at.1 c.others.invariant c.join_at.ensures.takes c.join_at.ensures.ordered c.join_at.ensures.len)

pub returns-clause-each : goal.returns-clause-each
returns-clause-each c =
    let given = c.into_iter-key-iterator.ensures.into_iter_gives in
    let ended = iter_end deref_pair c.args.others.now.entries c.others.yielded _ _ _ _ given.0 c.others.yielded_by c.in-None.is c.next.ensures.steps in
    (joins_all _ _ _ (length c.others.yielded) ended.1 c.others.invariant).1

pub returns-clause-stands : goal.returns-clause-stands
returns-clause-stands c =
    let given = c.into_iter-key-iterator.ensures.into_iter_gives in
    let ended = iter_end deref_pair c.args.others.now.entries c.others.yielded _ _ _ _ given.0 c.others.yielded_by c.in-None.is c.next.ensures.steps in
    (joins_all _ _ _ (length c.others.yielded) ended.1 c.others.invariant).0
