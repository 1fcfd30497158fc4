use Rattle.std.proofs.Common.{◌∙◌, ap}
use Rattle.keymanager_routes.specs.Refusals.{refusal_reply}
use Rattle.keymanager_bodies.specs.Asking.{body_asks}
use Rattle.keymanager_api.specs.Plans.{checked_plan}
use Rattle.keymanager_api.proofs.RunLemmas.{at_most, ran_at, ran_cut, ran_none}
use Rattle.keymanager_api.proofs.answering.reply_behind.Goals as goal

pub returns-in-Ok-Err-clause-runs : goal.returns-in-Ok-Err-clause-runs
returns-in-Ok-Err-clause-runs g c =
    let read = rw c.in-Ok-Err.field-0-is at c.in-Ok-Err.ensures.asked in
    ran_at g.K.DeskCalls.leads _ _ (λ a. checked_plan c.args.now a) _ _ _ (read ∙ ap (λ body. body_asks c.args.action body) c.as_slice.ensures.value)
    (ran_none g.K.DeskCalls.leads g.met.K.DeskCalls.leads_none _ (refusal_reply c.in-Ok-Err.refusal) _ (at_most c.reply.result _ c.reply.ensures))

pub returns-in-Err-clause-runs : goal.returns-in-Err-clause-runs
returns-in-Err-clause-runs g c = ran_cut g.K.DeskCalls.leads g.met.K.DeskCalls.leads_none _ _
