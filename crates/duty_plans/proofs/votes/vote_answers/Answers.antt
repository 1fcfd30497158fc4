use Rattle.duty_plans.proofs.VoteLemmas.{answers_more}
use Rattle.duty_plans.proofs.votes.vote_answers.Goals as goal

pub votes-preserved : goal.votes-preserved
votes-preserved c =
    answers_more c.args.tasks.now c.args.ended.now c.args.votes.now c.votes.answers.items c.push.new.self.items c.votes.duty-index _ c.in_ok-answer_of.field-0 c.votes-test.true c.in_ok-answer_of.ensures
    c.in_ok-push.ensures.items c.votes.invariant
