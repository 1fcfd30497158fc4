use Rattle.check_sign.proofs.LeaveLemmas.{may_settle}
use Rattle.check_sign.proofs.calls_by.DeskDeskCalls.call.Goals as goal

pub returns-clause-settles : goal.returns-clause-settles
returns-clause-settles g c = may_settle c.args.self.now.contents c.call.new.self.contents c.args.call c.call.result c.call.ensures.counted
