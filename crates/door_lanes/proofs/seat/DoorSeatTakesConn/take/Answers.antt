use Rattle.std.proofs.Common.{refl}
use Rattle.desk_lock.specs.Passes.{made}
use Rattle.door_lanes.specs.SeatLaws.{grows_turned, hands_may, hands_turned}
use Rattle.door_lanes.proofs.seat.DoorSeatTakesConn.take.Goals as goal

pub turn-requires-clause-may : goal.turn-requires-clause-may
turn-requires-clause-may g c = hands_may (made c.args.self.now.pass) c.args.back c.requires.1

pub returns-clause-ready : goal.returns-clause-ready
returns-clause-ready g c = (c.turn.ensures.pass, hands_turned (made c.args.self.now.pass) _ c.args.back _ c.requires.1 c.turn.ensures.turned.made_is)

pub returns-clause-leads : goal.returns-clause-leads
returns-clause-leads g c = (refl, grows_turned _ _ _ _ _ c.turn.ensures.turned)
