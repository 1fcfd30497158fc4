use Rattle.call_plans.proofs.PathLemmas.{carries_cut}
use Rattle.duty_turns.specs.Lines.{aggregate_lines}
use Rattle.duty_turns.specs.TurnSteps.{Does, Fits}
use Rattle.duty_turns.specs.Turns.{finish_plan}
use Rattle.std.specs.Prelude.{string_bytes}
use Rattle.duty_work.proofs.RunLemmas.{put_fails, put_on}
use Rattle.duty_work.proofs.aggregate.write_reports.Goals as goal

pub returns-in_default-clause-runs : goal.returns-in_default-clause-runs
returns-in_default-clause-runs g c = λ start lanes nodes s active. carries_cut Fits (Does g.K.DeskCalls.leads start) _ _

pub returns-in-Err-clause-runs : goal.returns-in-Err-clause-runs
returns-in-Err-clause-runs g c = λ start lanes nodes s active. put_fails g.K.DeskCalls.leads start _ lanes nodes _ _ (string_bytes c.in-Ok.lines) c.as_bytes.result.now (aggregate_lines c.args.slot c.args.choices.now c.args.found.now) c.write_text.result c.in-Err.field-0 (finish_plan c.args.setup.now c.args.slot s) c.in-Ok.ensures c.as_bytes.ensures.value c.in-Err.is c.write_text.ensures

pub returns-clause-runs : goal.returns-clause-runs
returns-clause-runs g c = λ start lanes nodes s active. put_on g.K.DeskCalls.leads start _ lanes nodes _ _ _ (string_bytes c.in-Ok.lines) c.as_bytes.result.now (aggregate_lines c.args.slot c.args.choices.now c.args.found.now) c.write_text.result (finish_plan c.args.setup.now c.args.slot s) _ c.in-Ok.ensures c.as_bytes.ensures.value c.in-Ok-write_text.is c.write_text.ensures
    (c.finish.ensures.runs start lanes nodes _ s active)
