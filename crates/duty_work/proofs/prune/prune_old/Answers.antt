use Rattle.duty_work.proofs.PruneLemmas.{none_called}
use Rattle.duty_work.proofs.prune.prune_old.Goals as goal

pub returns-in-Some-clause-called : goal.returns-in-Some-clause-called
returns-in-Some-clause-called g c = λ start lanes nodes out next. rw c.in-Some.is (c.prune_active.ensures.called start lanes nodes out next)

pub returns-in-None-clause-called : goal.returns-in-None-clause-called
returns-in-None-clause-called g c = λ start lanes nodes out next. rw c.in-None.is (none_called g.K.DeskCalls.leads start next _)
