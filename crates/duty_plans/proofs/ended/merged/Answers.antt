use Rattle.duty_plans.proofs.EndLemmas.{merged_more, place_within}
use Rattle.duty_plans.proofs.ended.merged.Goals as goal

pub ends-preserved : goal.ends-preserved
ends-preserved c = record {
  within = place_within c.one-item.result c.ends.at c.ends.one-index c.place_after-at.result c.ends.invariant.within c.place_after-at.ensures;
  so_far = merged_more c.args.ended.now c.args.again.now c.ends.results.items c.push.new.self.items c.ends.one-index c.ends.at c.place_after-at.result c.one-item.result c.last_result.result
      c.ends-test.true c.one-item.is c.last_result.ensures c.place_after-at.ensures c.in_ok-push.ensures.items c.ends.invariant.so_far;
}
