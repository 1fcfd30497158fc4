use Rattle.call_plans.specs.Plans.{Done}
use Rattle.key_custody.specs.Plans.{deletion_plan}
use Rattle.keymanager_bodies.specs.Bodies.{deletion_reply}
use Rattle.keymanager_api.proofs.RunLemmas.{ran_then, ran_short, at_most}
use Rattle.keymanager_api.proofs.answering.do_delete.Goals as goal

pub returns-in-Ok-clause-runs : goal.returns-in-Ok-clause-runs
returns-in-Ok-clause-runs g c = λ now.
    ran_then g.K.DeskCalls.leads _ _ (deletion_plan c.args.keys.now) deletion_reply c.in-Ok.deletion _ c.in-Ok.ensures.runs (at_most c.deletion_reply.result _ c.deletion_reply.ensures)

pub returns-in-Err-clause-runs : goal.returns-in-Err-clause-runs
returns-in-Err-clause-runs g c = λ now. ran_short g.K.DeskCalls.leads _ _ (deletion_plan c.args.keys.now) (λ deletion. Done (deletion_reply deletion)) c.in-Err.ensures.runs
