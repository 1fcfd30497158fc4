use Rattle.protect_record.proofs.OrderLemmas.{inserted, put_at}
use Rattle.protect_record.proofs.sorted.insert_once.Goals as goal

pub returns-in-Err-clause-joined : goal.returns-in-Err-clause-joined
returns-in-Err-clause-joined g c =
    inserted g.T.Ord.cmp g.met.T.Ord.total _ _ _ c.in-Err.place _ c.requires.in_order c.as_slice.ensures.value c.in-Err.ensures.bound c.in-Err.ensures.position
    _ (c.insert.ensures.succeeds c.requires.room) c.insert.ensures.items

pub returns-in-Err-clause-place : goal.returns-in-Err-clause-place
returns-in-Err-clause-place g c = put_at _ _ _ c.in-Err.place _ c.as_slice.ensures.value c.in-Err.ensures.bound _ (c.insert.ensures.succeeds c.requires.room) c.insert.ensures.items
