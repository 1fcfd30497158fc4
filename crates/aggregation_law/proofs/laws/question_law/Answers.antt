use Rattle.aggregation_law.proofs.CastLemmas.{all_of_two, only_votes}
use Rattle.aggregation_law.proofs.QuestionLemmas.{all_apart, answer_cast, answer_differs, answer_failed, answer_told, each_asked}
use Rattle.aggregation_law.proofs.TaskLemmas.{data_one}
use Rattle.duty_plans.specs.Votes.{answer_of, data_tasks}
use Rattle.aggregation_law.proofs.laws.question_law.Goals as goal

pub returns-clause-each : goal.returns-clause-each
returns-clause-each c = each_asked

pub returns-clause-only : goal.returns-clause-only
returns-clause-only c = data_one

pub returns-clause-once : goal.returns-clause-once
returns-clause-once c = all_apart

pub returns-clause-told : goal.returns-clause-told
returns-clause-told c = λ ds ends row asked e details pair same. answer_told ds ends row asked e pair same details

pub returns-clause-differs : goal.returns-clause-differs
returns-clause-differs c = λ ds ends row asked e details member pair same. answer_differs ds ends row asked e pair same details member

pub returns-clause-failed : goal.returns-clause-failed
returns-clause-failed c = answer_failed

pub returns-clause-cast : goal.returns-clause-cast
returns-clause-cast c = answer_cast

pub returns-clause-cast_only : goal.returns-clause-cast_only
returns-clause-cast_only c = λ ds ends. only_votes (answer_of (data_tasks ds) ends) ds

pub returns-clause-cast_once : goal.returns-clause-cast_once
returns-clause-cast_once c = λ ds ends. all_of_two (answer_of (data_tasks ds) ends) ds
