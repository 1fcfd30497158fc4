use Rattle.std.proofs.Common.{refl}
use Rattle.duty_loop.proofs.live.note_asked.Goals as goal

pub returns-in-Given-clause-runs : goal.returns-in-Given-clause-runs
returns-in-Given-clause-runs g c = λ start lanes s nodes out h. rw c.in-Given.is (c.note_answer.ensures.runs start lanes s nodes out h)

pub returns-in-Nothing-clause-runs : goal.returns-in-Nothing-clause-runs
returns-in-Nothing-clause-runs g c = λ start lanes s nodes out h. rw c.in-Nothing.is (refl, refl)

pub returns-in-Stopped-clause-runs : goal.returns-in-Stopped-clause-runs
returns-in-Stopped-clause-runs g c = λ start lanes s nodes out h. rw c.in-Stopped.is (refl, refl)
