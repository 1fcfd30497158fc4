use Rattle.std.proofs.Common.{[], ◌∷◌, refl}
use Rattle.desk_machine.specs.declared.call.DeskCall.TheVariants as call
use Rattle.check_sign.proofs.calls_by.DeskDeskCalls.close_idle.Goals as goal

pub returns-clause-made : goal.returns-clause-made
returns-clause-made g c = ((call.FinishClose c.args.key.now, c.call.result) ∷ [], record { busy = []; all_busy = tt; made_is = refl }, c.call.ensures.leads)
