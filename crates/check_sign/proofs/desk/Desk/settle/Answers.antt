use Rattle.desk_machine.specs.declared.call.DeskCall.TheVariants as call
use Rattle.desk_machine.specs.declared.call.DeskReply.TheVariants as reply
use Rattle.check_sign.proofs.OpenLemmas.{is_call}
use Rattle.check_sign.proofs.desk.Desk.settle.Goals as goal

pub returns : goal.returns
returns g c =
    is_call g.D.Disk.moment g.D.Disk.leaves g.D.Disk.faults c.args.self.now c.settle_grant.new.self (call.Settle c.args.grant c.args.outcome) reply.Settled
    c.settle_grant.ensures.machine c.settle_grant.ensures.counted tt c.settle_grant.ensures.moved.keeps c.settle_grant.ensures.rose (c.settle_grant.ensures.moved.other, c.settle_grant.ensures.moved.place)
