use Rattle.std.proofs.Common.{◌++◌, ◌∙◌, List, ap}
use Rattle.std.specs.Prelude.{filter}
use Rattle.duty_plans.specs.declared.task.Task.{Task}
use Rattle.duty_plans.specs.Votes.{data_tasks}
use Rattle.duty_plans.proofs.VoteLemmas.{asked_first, asked_more, is_new}
use Rattle.duty_plans.proofs.votes.data_tasks.Goals as goal

pub votes-init : goal.votes-init
votes-init c = ap (λ (l : List Task). l ++ filter (is_new l) (data_tasks c.args.votes.now)) c.new-tasks.ensures.items ∙ asked_first c.args.votes.now

pub votes-preserved : goal.votes-preserved
votes-preserved c =
    asked_more c.args.votes.now c.votes.tasks.items c.keep_question.new.tasks.items c.votes.duty-index _ c.votes-test.true c.in_ok-keep_question.ensures c.votes.invariant
