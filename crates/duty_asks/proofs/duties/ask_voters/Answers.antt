use Rattle.call_plans.proofs.PathLemmas.{carries_cut}
use Rattle.duty_turns.specs.TurnSteps.{Fits}
use Rattle.duty_asks.specs.Quiet.{QuietDoes}
use Rattle.duty_asks.proofs.QuietLemmas.{parts_cut}
use Rattle.duty_asks.proofs.duties.ask_voters.Goals as goal

pub returns-in_default : goal.returns-in_default
returns-in_default g c = λ s h. parts_cut _ s _ _ (carries_cut Fits QuietDoes _ _)
