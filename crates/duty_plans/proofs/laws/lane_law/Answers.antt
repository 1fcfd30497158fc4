use Rattle.duty_plans.proofs.SeatLemmas.{ran_of}
use Rattle.duty_plans.proofs.laws.lane_law.Goals as goal

pub returns : goal.returns
returns g c = record { ran = λ plan a b v free ends run. ran_of g.K.DeskCalls.leads g.met.K.DeskCalls.leads_none g.met.K.DeskCalls.leads_more plan a b v free ends run }
