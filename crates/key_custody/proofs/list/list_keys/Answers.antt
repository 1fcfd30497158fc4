use Rattle.std.proofs.Common.{ap, ◌∙◌}
use Rattle.desk_machine.specs.declared.call.DeskCall.TheVariants as call
use Rattle.key_custody.specs.Replies.{active_keys}
use Rattle.key_custody.specs.Plans.{active_plan}
use Rattle.key_custody.proofs.CustodyLemmas.{asks_cut, asks_on, given_end}
use Rattle.key_custody.proofs.list.list_keys.Goals as goal

pub returns : goal.returns
returns g c = record { ready = c.ask.ensures.ready; runs = λ s. asks_cut g.K.DeskCalls.leads _ _ s call.Keys c.ask.result active_plan c.ask.ensures.asked }

pub returns-in-Listed-clause-runs : goal.returns-in-Listed-clause-runs
returns-in-Listed-clause-runs g c = λ s. asks_on g.K.DeskCalls.leads _ _ s _ call.Keys c.ask.result active_plan _ _ c.ask.ensures.asked (ap active_plan c.in-Listed.is)
    (given_end g.K.DeskCalls.leads _ _ _ (λ y e. c.active_of.ensures y e ∙ ap active_keys c.as_slice.ensures))
