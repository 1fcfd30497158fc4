use Rattle.std.proofs.Common.{◌≡◌, ◌++◌, ◌+◌, ◌≤◌, All, None, length, map}
use Rattle.std.specs.Prelude.{vec_capacity}
use Rattle.desk_lock.specs.Sharing.{IsSame, given_of}
use Rattle.door_lanes.specs.Runs.{AreNew}
use Rattle.door_lanes.proofs.seats.give_passes.Given as goal

abbrev pub invariant-servants : goal.invariant-servants
invariant-servants g l = record {
  next : (goal.iterator-servants g).can_next l.servant-iterator;
  finite : (goal.iterator-servants g).is_finite l.servant-iterator;
  rest : l.yielded ++ l.servant-iterator.rest.items ≡ l.fn.servants.items;
  same : IsSame l.fn.owner l.owner;
  given : given_of l.owner ≡ given_of l.fn.owner + length l.yielded;
  len : length l.lanes.items ≡ length l.yielded;
  room : length l.fn.servants.items ≤ vec_capacity l.lanes;
  servants : map (λ lane. lane.servant) l.lanes.items ≡ l.yielded;
  empty : All (λ lane. lane.kept ≡ None) l.lanes.items;
  new : AreNew l.fn.owner.shared (given_of l.fn.owner) (map (λ lane. lane.taker) l.lanes.items);
}
