use Rattle.std.proofs.Common.{◌≡◌, ◌++◌, ◌+◌, ◌≤◌, length, map}
use Rattle.std.specs.Prelude.{vec_capacity}
use Rattle.desk_lock.specs.Sharing.{IsSame, given_of}
use Rattle.serve_run.specs.Seating.{AreNew, lane_end}
use Rattle.serve_run.proofs.seats.give_passes.Given as goal

abbrev pub invariant-ends : goal.invariant-ends
invariant-ends g l = record {
  next : (goal.iterator-ends g).can_next l.end-iterator;
  finite : (goal.iterator-ends g).is_finite l.end-iterator;
  rest : l.yielded ++ l.end-iterator.rest.items ≡ l.fn.ends.items;
  same : IsSame l.fn.owner l.owner;
  given : given_of l.owner ≡ given_of l.fn.owner + length l.yielded;
  len : length l.lanes.items ≡ length l.yielded;
  room : length l.fn.ends.items ≤ vec_capacity l.lanes;
  ends : map lane_end l.lanes.items ≡ l.yielded;
  new : AreNew g.D.Disk.moment g.D.Disk.leaves g.D.Disk.faults l.fn.owner.shared (given_of l.fn.owner) (map (λ lane. lane.desk) l.lanes.items);
}
