use Rattle.duty_loop.proofs.GuardingLemmas.{turns_guarded}
use Rattle.duty_loop.proofs.laws.turns_law.Goals as goal

pub returns : goal.returns
returns g c = record { guarded = λ start plan a b steps v free ends path follows. turns_guarded g.K.DeskCalls.leads g.met.K.DeskCalls.leads_none g.met.K.DeskCalls.leads_more start plan a b steps v free ends path follows }
