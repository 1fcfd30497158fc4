use Rattle.duty_plans.proofs.EndLemmas.{next_within, votes_more}
use Rattle.duty_plans.proofs.votes.vote_ends.Goals as goal

pub asked-preserved : goal.asked-preserved
asked-preserved c = record {
  within = next_within c.one-item.result c.asked.at c.asked.one-index c.next_place-at.result c.asked.invariant.within c.next_place-at.ensures;
  so_far = votes_more c.args.asked.now c.args.cast.now c.asked.ends.items c.push.new.self.items c.asked.one-index c.asked.at c.next_place-at.result c.one-item.result c.in_ok-end_of.field-0
      c.asked-test.true c.one-item.is c.in_ok-end_of.ensures c.next_place-at.ensures c.in_ok-push.ensures.items c.asked.invariant.so_far;
}
