use Rattle.std.proofs.Common.{refl, sym, ap}
use Rattle.node_calls.specs.declared.ask.Ask.TheVariants as ask
use Rattle.call_plans.proofs.PathLemmas.{carries_cut}
use Rattle.duty_turns.specs.Standing.{with_indices}
use Rattle.duty_turns.specs.Turns.{answered_plan, to_renew}
use Rattle.duty_turns.specs.TurnSteps.{Fits}
use Rattle.duty_asks.specs.Quiet.{QuietDoes}
use Rattle.duty_asks.proofs.QuietLemmas.{came_at, parts_asked_or_cut, parts_cut, tells_none}
use Rattle.duty_asks.proofs.indices.ask_some.Goals as goal

pub returns-in_default : goal.returns-in_default
returns-in_default g c = λ s h. parts_cut _ s _ _ (carries_cut Fits QuietDoes _ _)

pub returns : goal.returns
returns g c = λ s h.
    parts_asked_or_cut _ (ask.Validators c.args.keys.now) with_indices (to_renew s) s _ _ c.ask_or_tell-asked.result _
    (came_at (ask.Validators c.in-Ok.keys) (ask.Validators c.args.keys.now) (answered_plan with_indices (to_renew s) s) (to_renew s) _ _ c.ask_or_tell-asked.result (ap ask.Validators c.in-Ok.ensures)
    (c.ask_or_tell-asked.ensures (answered_plan with_indices (to_renew s) s) (to_renew s) (sym h.is.slot) (tells_none with_indices (to_renew s) s refl)))
    (c.take_indices.ensures s h)
