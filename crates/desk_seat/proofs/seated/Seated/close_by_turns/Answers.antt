use Rattle.desk_seat.specs.SeatLaws.{waited_none, waited_more}
use Rattle.desk_seat.proofs.seated.Seated.close_by_turns.Goals as goal

pub loop-init : goal.loop-init
loop-init g c = (tt, tt, c.requires.ready, waited_none _ _ _)

pub loop-preserved : goal.loop-preserved
loop-preserved g c =
    (tt, tt, c.in-Busy.ensures.ready, waited_more _ _ _ _ _ _ _ _ c.loop.invariant.3 tt c.in-Busy.ensures.leads.0 c.in-Busy.ensures.leads.1)
