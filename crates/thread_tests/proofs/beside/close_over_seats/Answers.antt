use denote.Param.{param}
use denote.Exit.{yes}
use denote.Param.Send.{param_send, arg_send}
use Rattle.desk_seat.proofs.Crosses.{seated_send}
use Rattle.thread_tests.proofs.beside.close_over_seats.Goals as goal

pub hold_and_close-requires-send-K : goal.hold_and_close-requires-send-K
hold_and_close-requires-send-K g c κs within =
    param_send 1 _ (arg_send _ yes _ (seated_send _ (param 1 g.row.D) (param 0 g.row.T) g.D.Disk c.type_bounds.send-D c.type_bounds.sync-T))
