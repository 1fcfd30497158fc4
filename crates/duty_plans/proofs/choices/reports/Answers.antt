use Rattle.duty_plans.proofs.EndLemmas.{next_within, reports_more}
use Rattle.duty_plans.proofs.choices.reports.Goals as goal

pub choices-preserved : goal.choices-preserved
choices-preserved c = record {
  within = next_within c.one-item.result c.choices.at c.choices.one-index c.next_place-at.result c.choices.invariant.within c.next_place-at.ensures;
  so_far = reports_more c.args.choices.now c.args.aggregates.now c.choices.found.items c.push.new.self.items c.choices.one-index c.choices.at c.next_place-at.result c.one-item.result c.report_of.result
      c.choices-test.true c.one-item.is c.report_of.ensures c.next_place-at.ensures c.in_ok-push.ensures.items c.choices.invariant.so_far;
}
