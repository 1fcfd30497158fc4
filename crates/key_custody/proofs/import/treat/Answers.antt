use Rattle.std.proofs.Common.{Some, refl}
use Rattle.client_calls.specs.Steps.{Fits}
use Rattle.client_calls.specs.Seats.{Does}
use Rattle.key_custody.specs.Plans.{keystores_plan, paired}
use Rattle.std.specs.Prelude.{string_bytes}
use Rattle.call_plans.specs.Plans.{Done}
use Rattle.call_plans.proofs.PathLemmas.{carries_on, carries_short, carries_end}
use Rattle.key_custody.specs.declared.import.ImportEnd.TheVariants as ending
use Rattle.key_custody.proofs.import.treat.Goals as goal

pub returns-in-Ok-clause-runs : goal.returns-in-Ok-clause-runs
returns-in-Ok-clause-runs g c = carries_on Fits (Does g.K.DeskCalls.leads) _ _ _ (keystores_plan c.args.now (paired (λ s. string_bytes s) c.args.keystores.now c.args.passwords.now)) (λ got. Done (ending.Treated got)) _ _
    c.in-Ok.ensures.runs (carries_end Fits (Does g.K.DeskCalls.leads) _ _ (Some (ending.Treated c.in-Ok.statuses)) refl)

pub returns-in-Err-clause-runs : goal.returns-in-Err-clause-runs
returns-in-Err-clause-runs g c = carries_short Fits (Does g.K.DeskCalls.leads) _ _ (keystores_plan c.args.now (paired (λ s. string_bytes s) c.args.keystores.now c.args.passwords.now)) (λ got. Done (ending.Treated got)) c.in-Err.ensures.runs
