use Rattle.duty_plans.proofs.EndLemmas.{results_more}
use Rattle.duty_plans.proofs.ended.results_of.Goals as goal

pub ends-preserved : goal.ends-preserved
ends-preserved c = results_more c.args.ended.now c.ends.results.items c.push.new.self.items c.ends.one-index c.one-item.result c.ends-test.true c.one-item.is c.in_ok-push.ensures.items c.ends.invariant
