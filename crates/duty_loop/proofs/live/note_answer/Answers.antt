use Rattle.std.proofs.Common.{◌∙◌, ap, List}
use Rattle.node_calls.specs.declared.answer.LivenessRow.{LivenessRow}
use Rattle.duty_turns.specs.Turns.{notes_of}
use Rattle.call_plans.proofs.PathLemmas.{carries_cut}
use Rattle.duty_turns.specs.TurnSteps.{Does, Fits}
use Rattle.duty_loop.proofs.LiveLemmas.{lived_by}
use Rattle.duty_loop.proofs.live.note_answer.Goals as goal

pub returns-in_default-clause-runs : goal.returns-in_default-clause-runs
returns-in_default-clause-runs g c = λ start lanes s nodes out h. carries_cut Fits (Does g.K.DeskCalls.leads start) _ _

pub returns-in_default-notes_of-clause-runs : goal.returns-in_default-notes_of-clause-runs
returns-in_default-notes_of-clause-runs g c = λ start lanes s nodes out h. carries_cut Fits (Does g.K.DeskCalls.leads start) _ _

pub returns-clause-runs : goal.returns-clause-runs
returns-clause-runs g c = λ start lanes s nodes out h. lived_by g.K.DeskCalls.leads g.met.K.DeskCalls.leads_none start c.args.epoch c.args.now c.args.keys.now s _ _ _ c.args.held.now.indices.entries c.args.answer c.in-Liveness.rows _ c.in-Liveness.is h.indices
    (c.as_slice-2.ensures.value ∙ c.in-Ok.ensures ∙ ap (λ (l : List LivenessRow). notes_of c.args.held.now.indices.entries c.args.keys.now l) c.as_slice.ensures) (c.note_all.ensures.runs start lanes s nodes out)
