use Rattle.std.proofs.Common.{◌≡◌, ◌++◌, ◌+◌, ◌≤◌, length, map}
use Rattle.std.specs.Prelude.{vec_capacity}
use Rattle.serve_run.specs.Seating.{lane_end}
use Rattle.serve_run.proofs.seats.leave_seats.Given as goal

abbrev pub invariant-seats : goal.invariant-seats
invariant-seats g l = record {
  next : (goal.iterator-seats g).can_next l.lane-iterator;
  finite : (goal.iterator-seats g).is_finite l.lane-iterator;
  rest : l.yielded ++ l.lane-iterator.rest.items ≡ l.fn.seats.items;
  room : length l.passes.items + length l.lane-iterator.rest.items ≤ vec_capacity l.passes;
  ends_room : length l.ends.items + length l.lane-iterator.rest.items ≤ vec_capacity l.ends;
  passes : l.passes.items ≡ l.fn.passes.items ++ map (λ lane. lane.desk.pass) l.yielded;
  ends : l.ends.items ≡ map lane_end l.yielded;
}
