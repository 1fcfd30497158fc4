use Rattle.node_calls.specs.declared.ask.Ask.TheVariants as ask
use Rattle.duty_turns.specs.Standing.{with_proposers}
use Rattle.duty_turns.specs.Times.{epoch_of}
use Rattle.duty_turns.specs.Turns.{ask_plan, voters_plan}
use Rattle.duty_asks.proofs.QuietLemmas.{parts_then}
use Rattle.duty_asks.proofs.duties.ask_rows.Goals as goal

pub returns : goal.returns
returns g c = λ s h. parts_then _ _ (ask_plan (ask.Proposer (epoch_of s.slot)) (with_proposers (epoch_of s.slot)) s s) (voters_plan c.args.active.now) _ _ _ c.ask_proposers.result c.ask_voters.result c.in-Ok.is (c.ask_proposers.ensures s h) (λ t k. c.ask_voters.ensures t k)
