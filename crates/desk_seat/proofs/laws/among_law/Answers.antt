use Rattle.desk_seat.proofs.SpanLemmas.{among}
use Rattle.desk_seat.proofs.laws.among_law.Goals as goal

pub returns : goal.returns
returns c = among
