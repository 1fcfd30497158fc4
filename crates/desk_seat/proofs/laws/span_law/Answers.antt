use Rattle.desk_seat.proofs.SpanLemmas.{spans}
use Rattle.desk_seat.proofs.laws.span_law.Goals as goal

pub returns : goal.returns
returns g c = spans g.D.Disk.moment g.D.Disk.leaves g.D.Disk.faults
