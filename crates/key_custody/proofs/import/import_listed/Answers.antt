use Rattle.std.proofs.Common.{sym, ◌∙◌}
use Rattle.key_custody.specs.Plans.{taken_plan}
use Rattle.key_custody.proofs.CustodyLemmas.{listed_end, listed_on, runs_import}
use Rattle.key_custody.proofs.import.import_listed.Goals as goal

pub returns-then-is_active_in-clause-runs : goal.returns-then-is_active_in-clause-runs
returns-then-is_active_in-clause-runs g c = listed_end g.K.DeskCalls.leads _ c.args.now c.args.keystore.now c.args.password.now c.args.key.now c.args.listed.now (sym c.is_active_in.ensures ∙ c.if-is_active_in.true)

pub returns-clause-runs : goal.returns-clause-runs
returns-clause-runs g c = listed_on g.K.DeskCalls.leads _ _ c.args.now c.args.keystore.now c.args.password.now c.args.key.now c.args.listed.now _ (sym c.is_active_in.ensures ∙ c.if-is_active_in.false)
    (runs_import g.K.DeskCalls.leads g.met.K.DeskCalls.leads_none _ _ _ _ _ c.import-reply.result (λ r. taken_plan c.args.now c.args.key.now r) _ c.import-reply.ensures.told c.import-reply.ensures.later c.import-reply.ensures.fault c.import-reply.ensures.denials c.import-reply.ensures.denied (c.activate_taken.ensures.runs _))
