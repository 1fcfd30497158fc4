use Rattle.std.proofs.Common.{◌≡◌, ◌++◌, length}
use Rattle.door_lanes.specs.Doors.{AreLent, TookBack, door_seen, returned_in}
use Rattle.door_lanes.proofs.finish.hand_back_all.Given as goal

abbrev pub invariant-kept : goal.invariant-kept
invariant-kept g l = record {
  next : (goal.iterator-kept g).can_next l.back-iterator;
  finite : (goal.iterator-kept g).is_finite l.back-iterator;
  rest : l.yielded ++ l.back-iterator.rest.items ≡ l.fn.kept.items;
  room : AreLent (g.R.Door.lent l.door) (length (returned_in l.back-iterator.rest.items));
  took : TookBack (door_seen g.R.Door.coming g.R.Door.finished g.R.Door.lent g.R.Door.faults l.fn.door) (returned_in l.yielded) (door_seen g.R.Door.coming g.R.Door.finished g.R.Door.lent g.R.Door.faults l.door);
}
