use Rattle.std.proofs.Common.{◌≡◌, ◌++◌, ◌∙◌, List, true, sym, subst}
use Rattle.duty_schedule.specs.declared.rows.Duty.{Duty}
use Rattle.duty_workers.specs.Places.{are_placed}
use Rattle.duty_work.proofs.RunLemmas.{ended_as, short}
use Rattle.duty_work.proofs.work.end_both.Goals as goal

pub end_slot-requires-clause-places : goal.end_slot-requires-clause-places
end_slot-requires-clause-places g c = λ lifetimes outlives. subst (λ (l : List Duty). are_placed l ≡ true) (sym (c.as_slice-duties.ensures.value ∙ c.in-Ok.ensures)) c.requires.places

pub returns-in_default-clause-runs : goal.returns-in_default-clause-runs
returns-in_default-clause-runs g c = λ nodes s h. short g.K.DeskCalls.leads (g.C.Clock.start c.args.clock.now) _ _ s _

pub returns-in_default-both_ends-clause-runs : goal.returns-in_default-both_ends-clause-runs
returns-in_default-both_ends-clause-runs g c = λ nodes s h. short g.K.DeskCalls.leads (g.C.Clock.start c.args.clock.now) _ _ s _

pub returns-clause-runs : goal.returns-clause-runs
returns-clause-runs g c = λ nodes s h.
    ended_as g.K.DeskCalls.leads (g.C.Clock.start c.args.clock.now) _ c.args.setup.now s _ _ c.as_slice-duties.result.now (c.args.blocks.now ++ c.args.votes.now) c.as_slice-ends.result.now (c.args.proposed.items ++ c.args.cast.items) c.end_slot.result
    (c.as_slice-duties.ensures.value ∙ c.in-Ok.ensures) (c.as_slice-ends.ensures.value ∙ c.in-Ok-both_ends.ensures) (c.end_slot.ensures.runs nodes s h)
