use Rattle.std.proofs.Common.{sym, subst}
use Rattle.check_sign.specs.Contents.{Seen}
use Rattle.desk_lock.specs.Sharing.{opening}
use Rattle.desk_seat.specs.Turns.{Served}
use Rattle.desk_seat.proofs.TurnLemmas.{served}
use Rattle.desk_seat.proofs.sharing.take_back.Goals as goal

pub returns : goal.returns
returns g c =
    let moment = g.D.Disk.moment in
    let leaves = g.D.Disk.leaves in
    let faults = g.D.Disk.faults in
    subst (λ (d : Seen g.row.D.Denot). Served moment leaves faults (opening c.args.owner.shared) c.args.passes.items d) (sym c.into_desk.ensures) (served moment leaves faults (opening c.args.owner.shared) c.args.passes.items c.close.result c.close.ensures)
