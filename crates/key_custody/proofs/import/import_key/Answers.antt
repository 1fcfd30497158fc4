use Rattle.std.proofs.Common.{ap, ◌∙◌, sym}
use Rattle.desk_machine.specs.declared.call.DeskCall.TheVariants as call
use Rattle.key_custody.specs.Plans.{standing_plan, listed_plan}
use Rattle.key_custody.proofs.CustodyLemmas.{asks_cut, asks_on}
use Rattle.key_custody.proofs.import.import_key.Goals as goal

pub returns : goal.returns
returns g c = record { ready = c.ask.ensures.ready; runs = asks_cut g.K.DeskCalls.leads _ _ _ call.Keys c.ask.result (λ x. standing_plan c.args.now c.args.keystore.now c.args.password.now c.args.key.now x) c.ask.ensures.asked }

pub returns-in-Listed-clause-runs : goal.returns-in-Listed-clause-runs
returns-in-Listed-clause-runs g c = asks_on g.K.DeskCalls.leads _ _ _ _ call.Keys c.ask.result (λ x. standing_plan c.args.now c.args.keystore.now c.args.password.now c.args.key.now x) _ _ c.ask.ensures.asked
    (ap (λ x. standing_plan c.args.now c.args.keystore.now c.args.password.now c.args.key.now x) c.in-Listed.is ∙ ap (λ l. listed_plan c.args.now c.args.keystore.now c.args.password.now c.args.key.now l) (sym c.as_slice.ensures)) c.import_listed.ensures.runs
