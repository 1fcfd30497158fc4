use Rattle.call_plans.specs.Plans.{Done}
use Rattle.key_custody.specs.Plans.{import_plan}
use Rattle.keymanager_bodies.specs.Bodies.{import_reply}
use Rattle.keymanager_api.proofs.RunLemmas.{ran_then, ran_short, ran_at, at_most}
use Rattle.keymanager_api.proofs.answering.do_import.Goals as goal

pub returns-in-Ok-clause-runs : goal.returns-in-Ok-clause-runs
returns-in-Ok-clause-runs g c =
    ran_then g.K.DeskCalls.leads _ _ (import_plan c.args.file c.args.now c.args.keystores.now) import_reply c.in-Ok.ending _
    (ran_at g.K.DeskCalls.leads _ _ (λ keys. import_plan c.args.file c.args.now keys) _ _ _ c.texts.ensures.pairs c.in-Ok.ensures.runs)
    (at_most c.import_reply.result _ c.import_reply.ensures)

pub returns-in-Err-clause-runs : goal.returns-in-Err-clause-runs
returns-in-Err-clause-runs g c =
    ran_short g.K.DeskCalls.leads _ _ (import_plan c.args.file c.args.now c.args.keystores.now) (λ ending. Done (import_reply ending))
    (ran_at g.K.DeskCalls.leads _ _ (λ keys. import_plan c.args.file c.args.now keys) _ _ _ c.texts.ensures.pairs c.in-Err.ensures.runs)
