use Rattle.std.proofs.Common.{◌≡◌, ◌++◌, ◌≤◌, ◌+◌, All, length, map}
use Rattle.std.specs.Prelude.{vec_capacity}
use Rattle.door_lanes.proofs.seats.take_seats.Given as goal

abbrev pub invariant-lanes : goal.invariant-lanes
invariant-lanes g l = record {
  next : (goal.iterator-lanes g).can_next l.lane-iterator;
  finite : (goal.iterator-lanes g).is_finite l.lane-iterator;
  rest : l.yielded ++ l.lane-iterator.rest.items ≡ l.fn.lanes.items;
  room : length l.seats.items + length l.lane-iterator.rest.items ≤ vec_capacity l.seats;
  passes : map (λ lane. lane.taker.pass) l.seats.items ≡ map (λ lane. lane.taker) l.yielded;
  servants : map (λ lane. lane.servant) l.seats.items ≡ map (λ lane. lane.servant) l.yielded;
  kept : map (λ lane. lane.kept) l.seats.items ≡ map (λ lane. lane.kept) l.yielded;
  shared : All (λ lane. lane.taker.shared.now ≡ l.fn.shared) l.seats.items;
}
