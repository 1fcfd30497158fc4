use Rattle.desk_seat.proofs.SpanLemmas.{closed_idle}
use Rattle.desk_seat.proofs.laws.close_law.Goals as goal

pub returns : goal.returns
returns g c = closed_idle g.D.Disk.moment g.D.Disk.leaves g.D.Disk.faults
