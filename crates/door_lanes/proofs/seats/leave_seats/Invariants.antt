use Rattle.std.proofs.Common.{◌≡◌, ◌++◌, ◌+◌, ◌≤◌, length, map}
use Rattle.std.specs.Prelude.{vec_capacity}
use Rattle.door_lanes.proofs.seats.leave_seats.Given as goal

abbrev pub invariant-seats : goal.invariant-seats
invariant-seats g l = record {
  next : (goal.iterator-seats g).can_next l.lane-iterator;
  finite : (goal.iterator-seats g).is_finite l.lane-iterator;
  rest : l.yielded ++ l.lane-iterator.rest.items ≡ l.fn.seats.items;
  room : length l.passes.items + length l.lane-iterator.rest.items ≤ vec_capacity l.passes;
  kept_room : length l.kept.items + length l.lane-iterator.rest.items ≤ vec_capacity l.kept;
  servants_room : length l.servants.items + length l.lane-iterator.rest.items ≤ vec_capacity l.servants;
  passes : l.passes.items ≡ map (λ lane. lane.taker.pass) l.yielded;
  kept : l.kept.items ≡ map (λ lane. lane.kept) l.yielded;
  servants : l.servants.items ≡ map (λ lane. lane.servant) l.yielded;
}
