use Rattle.std.proofs.Common.{length, rules}
use Rattle.std.specs.Map.Iter.{deref_pair}
use Rattle.std.proofs.lemmas.List.{length-append}
use Rattle.std.proofs.lemmas.Map.Iter.{iter_turn}
use Rattle.record_join.specs.Preparing.{parts_size}
use Rattle.record_join.proofs.FreshLemmas.{ready_none}
use Rattle.record_join.proofs.FileLemmas.{distinct_ordered, others_back, prepared_step, read_at, ready_step}
use Rattle.record_join.proofs.join.prepare_records.Goals as goal

pub others-init : goal.others-init
others-init c = ready_none parts_size c.args.kept.now.entries _ (search rules)

pub others-preserved : goal.others-preserved
others-preserved c =
    let given = c.into_iter-key-iterator.ensures.into_iter_gives in
    let turn = iter_turn deref_pair c.args.others.now.entries c.others.yielded _ _ _ _ given.0 c.others.yielded_by (c.in-Some.key, c.in-Some.record) c.in-Some.is c.next.ensures.steps in
    let at = read_at _ _ _ turn.1 in
    rw (length-append c.others.yielded) (ready_step parts_size _ _ _ c.args.others.now.entries (length c.others.yielded) _ _ _ _ (distinct_ordered _ given.5) at.0 at.1 c.size_of.ensures c.others.invariant
    c.make_room.ensures.makes c.in-Ok.ensures.room c.in-Ok.ensures.noted)

pub returns-in_default-clause-others : goal.returns-in_default-clause-others
returns-in_default-clause-others c =
    let given = c.into_iter-key-iterator.ensures.into_iter_gives in
    let turn = iter_turn deref_pair c.args.others.now.entries c.others.yielded _ _ _ _ given.0 c.others.yielded_by (c.in-Some.key, c.in-Some.record) c.in-Some.is c.next.ensures.steps in
    let at = read_at _ _ _ turn.1 in
    others_back _ _ _ _ _ (prepared_step _ _ _ c.args.others.now.entries (length c.others.yielded) _ _ _ at.0 at.1 c.others.invariant.prepared c.make_room.ensures.makes) c.take_out.ensures.others
