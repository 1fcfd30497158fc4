use Rattle.std.proofs.Common.{◌≡◌, ◌++◌, ◌≤◌, All, length, map}
use Rattle.std.specs.Prelude.{vec_capacity}
use Rattle.desk_seat.specs.Seats.{IsDeskPass}
use Rattle.duty_workers.specs.Working.{IsReady}
use Rattle.serve_run.specs.Seating.{lane_end}
use Rattle.serve_run.proofs.seats.take_seats.Given as goal

abbrev pub invariant-lanes : goal.invariant-lanes
invariant-lanes g l = record {
  next : (goal.iterator-lanes g).can_next l.lane-iterator;
  finite : (goal.iterator-lanes g).is_finite l.lane-iterator;
  rest : l.yielded ++ l.lane-iterator.rest.items ≡ l.fn.lanes.items;
  room : length l.fn.lanes.items ≤ vec_capacity l.seats;
  passes : map (λ lane. lane.desk.pass) l.seats.items ≡ map (λ lane. lane.desk) l.yielded;
  ends : map lane_end l.seats.items ≡ map lane_end l.yielded;
  shared : All (λ lane. lane.desk.shared.now ≡ l.shared) l.seats.items;
  ready : All (IsReady (λ desk. IsDeskPass g.D.Disk.moment g.D.Disk.leaves g.D.Disk.faults desk.shared.now desk.pass)) l.seats.items;
}
