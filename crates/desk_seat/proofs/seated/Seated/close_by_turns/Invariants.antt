use Rattle.desk_machine.specs.declared.call.DeskCall.TheVariants.{FinishClose}
use Rattle.desk_seat.specs.Seats.{IsDeskPass}
use Rattle.desk_seat.specs.SeatLaws.{Waited}
use Rattle.desk_seat.proofs.seated.Seated.close_by_turns.Given as goal

abbrev pub invariant-loop : goal.invariant-loop
invariant-loop g l =
    (goal.iterator-loop g).can_next l.iterator' × (goal.iterator-loop g).is_finite l.iterator' × IsDeskPass g.D.Disk.moment g.D.Disk.leaves g.D.Disk.faults l.self.shared.now l.self.pass
    × Waited (FinishClose l.fn.key) l.fn.self.shared l.self.shared l.fn.self.pass l.self.pass
