use Rattle.check_sign.proofs.OpenLemmas.{is_call}
use Rattle.check_sign.proofs.desk.Desk.call.Goals as goal

pub returns : goal.returns
returns g c =
    is_call g.D.Disk.moment g.D.Disk.leaves g.D.Disk.faults c.args.self.now c.dispatch.new.self c.args.call c.dispatch.result
    c.dispatch.ensures.machine c.dispatch.ensures.counted c.dispatch.ensures.own c.dispatch.ensures.keeps c.dispatch.ensures.rose c.dispatch.ensures.disks
