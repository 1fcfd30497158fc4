use Rattle.client_calls.proofs.SeatLemmas.{ran_of}
use Rattle.client_calls.proofs.laws.seat_law.Goals as goal

pub returns : goal.returns
returns g c = record { ran = λ plan a b v h. ran_of g.K.DeskCalls.leads g.met.K.DeskCalls.leads_none g.met.K.DeskCalls.leads_more plan a b v h }
