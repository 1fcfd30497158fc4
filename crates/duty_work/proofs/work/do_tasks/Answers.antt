use Rattle.std.proofs.Common.{None}
use Rattle.duty_work.proofs.RunLemmas.{works_done}
use Rattle.duty_work.proofs.work.do_tasks.Goals as goal

pub returns-clause-works : goal.returns-clause-works
returns-clause-works g c = λ s h. works_done g.K.DeskCalls.leads None c.args.setup.now c.args.held.now s _ _ c.new-domains.result c.epoch_of.result c.args.place c.args.tasks.now _ h c.new-domains.ensures c.epoch_of.ensures.epoch c.run_lanes.ensures.works
