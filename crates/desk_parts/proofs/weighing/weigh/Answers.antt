use Rattle.std.proofs.Common.{◌∙◌, List, arith, ap, length, sym}
use Rattle.std.specs.Map.Iter.{deref_pair}
use Rattle.std.proofs.lemmas.List.{length-append, take_all}
use Rattle.std.proofs.lemmas.Map.Iter.{iter_end, iter_turn}
use Rattle.edge_kit.specs.declared.bytes.PubKey.{PubKey}
use Rattle.protect_record.specs.Parts.{Parts}
use Rattle.record_join.proofs.FileLemmas.{read_at}
use Rattle.desk_parts.specs.Weights.{desk_weight}
use Rattle.desk_parts.proofs.WeightLemmas.{weight_more}
use Rattle.desk_parts.proofs.weighing.weigh.Goals as goal

pub keys-preserved : goal.keys-preserved
keys-preserved c =
    let start = c.into_iter-key-iterator.ensures.into_iter_gives ∙ c.iter-key-items.ensures.entries in
    let turn = iter_turn deref_pair c.args.books.now c.keys.yielded _ _ _ _ start c.keys.yielded_by (c.in-Some._key, c.in-Some.record) c.in-Some.is c.next.ensures.steps in
    let x : PubKey × Parts = (c.in-Some._key.now, c.in-Some.record.now) in
    let at = read_at c.args.books.now (length c.keys.yielded) x turn.1 in
    rw (length-append c.keys.yielded) (c.saturating_add-weight.ensures ∙ weight_more c.args.books.now (length c.keys.yielded) x c.keys.weight c.weigh_record.result at.0 (sym at.1) c.keys.invariant c.weigh_record.ensures)

pub returns : goal.returns
returns c =
    let start = c.into_iter-key-iterator.ensures.into_iter_gives ∙ c.iter-key-items.ensures.entries in
    let end = iter_end deref_pair c.args.books.now c.keys.yielded _ _ _ _ start c.keys.yielded_by c.in-None.is c.next.ensures.steps in
    c.keys.invariant ∙ ap (λ (l : List (PubKey × Parts)). desk_weight l) (take_all (length c.keys.yielded) c.args.books.now (omega (arith, end.1)))
