use Rattle.std.proofs.Common.{◌≡◌, ◌∙◌, List, true, ap, sym, subst}
use Rattle.std.specs.Prelude.{string_bytes}
use Rattle.duty_plans.specs.declared.task.Task.{Task}
use Rattle.duty_turns.specs.Lines.{duty_lines}
use Rattle.duty_turns.specs.Turns.{choices_of, chooses_plan}
use Rattle.duty_workers.specs.Places.{are_placed_tasks}
use Rattle.duty_work.proofs.PlacedLemmas.{made_placed}
use Rattle.duty_work.proofs.RunLemmas.{short, told_fails, told_on, told_short, turns_as}
use Rattle.duty_work.proofs.aggregate.write_results.Goals as goal

pub choose_all-requires-clause-places : goal.choose_all-requires-clause-places
choose_all-requires-clause-places g c = λ lifetimes outlives. subst (λ (l : List Task). are_placed_tasks l ≡ true) (sym (c.as_slice-choices.ensures.value ∙ c.in-Ok-choices_of.ensures)) (made_placed c.args.setup.now c.args.duties.now c.args.ends.now c.requires.places)

pub returns-in_default-clause-runs : goal.returns-in_default-clause-runs
returns-in_default-clause-runs g c = λ nodes s h. short g.K.DeskCalls.leads (g.C.Clock.start c.args.clock.now) _ _ s _

pub returns-in-Err-clause-runs : goal.returns-in-Err-clause-runs
returns-in-Err-clause-runs g c = λ nodes s h.
    told_fails g.K.DeskCalls.leads (g.C.Clock.start c.args.clock.now) _ s _ _ nodes _ _ (string_bytes c.in-Ok.lines) c.as_bytes.result.now (duty_lines s.slot c.args.duties.now c.args.results.now) c.write_text.result c.in-Err.field-0 (chooses_plan c.args.setup.now s (choices_of c.args.setup.now c.args.duties.now c.args.ends.now))
    (c.in-Ok.ensures ∙ ap (λ n. duty_lines n c.args.duties.now c.args.results.now) h.is.slot) c.as_bytes.ensures.value c.in-Err.is c.write_text.ensures

pub returns-in_default-choices_of-clause-runs : goal.returns-in_default-choices_of-clause-runs
returns-in_default-choices_of-clause-runs g c = λ nodes s h.
    told_short g.K.DeskCalls.leads (g.C.Clock.start c.args.clock.now) _ s _ _ nodes _ _ (string_bytes c.in-Ok.lines) c.as_bytes.result.now (duty_lines s.slot c.args.duties.now c.args.results.now) c.write_text.result (chooses_plan c.args.setup.now s (choices_of c.args.setup.now c.args.duties.now c.args.ends.now))
    (c.in-Ok.ensures ∙ ap (λ n. duty_lines n c.args.duties.now c.args.results.now) h.is.slot) c.as_bytes.ensures.value c.in-Ok-write_text.is c.write_text.ensures

pub returns-clause-runs : goal.returns-clause-runs
returns-clause-runs g c = λ nodes s h.
    told_on g.K.DeskCalls.leads (g.C.Clock.start c.args.clock.now) _ _ _ nodes _ _ _ (string_bytes c.in-Ok.lines) c.as_bytes.result.now (duty_lines s.slot c.args.duties.now c.args.results.now) c.write_text.result (chooses_plan c.args.setup.now s (choices_of c.args.setup.now c.args.duties.now c.args.ends.now)) c.choose_all.result
    (c.in-Ok.ensures ∙ ap (λ n. duty_lines n c.args.duties.now c.args.results.now) h.is.slot) c.as_bytes.ensures.value c.in-Ok-write_text.is c.write_text.ensures
    (turns_as g.K.DeskCalls.leads (g.C.Clock.start c.args.clock.now) _ (chooses_plan c.args.setup.now s (choices_of c.args.setup.now c.args.duties.now c.args.ends.now)) (chooses_plan c.args.setup.now s c.as_slice-choices.result.now) _ _ c.choose_all.result
    (ap (λ (l : List Task). chooses_plan c.args.setup.now s l) (sym (c.as_slice-choices.ensures.value ∙ c.in-Ok-choices_of.ensures))) (c.choose_all.ensures.runs nodes s h))
