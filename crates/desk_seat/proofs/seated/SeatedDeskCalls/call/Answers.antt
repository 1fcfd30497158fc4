use Rattle.desk_seat.specs.SeatLaws.{settles_at}
use Rattle.desk_seat.proofs.seated.SeatedDeskCalls.call.Goals as goal

pub returns-clause-settles : goal.returns-clause-settles
returns-clause-settles g c = settles_at _ _ _ _ c.turn.ensures.turned.made_is c.turn.ensures.turned.stepped.counted.granted
