use Rattle.std.proofs.Common.{refl, sym}
use Rattle.node_calls.specs.declared.ask.Ask.TheVariants as ask
use Rattle.duty_turns.specs.Standing.{with_fork}
use Rattle.duty_turns.specs.Turns.{answered_plan, to_renew}
use Rattle.duty_asks.proofs.QuietLemmas.{parts_asked, tells_none}
use Rattle.duty_asks.proofs.duties.ask_fork.Goals as goal

pub returns : goal.returns
returns g c = λ s h. parts_asked _ ask.Fork with_fork (to_renew s) s _ _ c.ask_or_tell-asked.result _ (c.ask_or_tell-asked.ensures (answered_plan with_fork (to_renew s) s) (to_renew s) (sym h.is.slot) (tells_none with_fork (to_renew s) s refl)) (c.take_fork.ensures s h)
