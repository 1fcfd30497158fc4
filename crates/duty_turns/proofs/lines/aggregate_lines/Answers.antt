use Rattle.std.proofs.Common.{ap, sym, ◌∙◌}
use Rattle.duty_plans.specs.declared.task.Task.{Task}
use Rattle.duty_turns.specs.Lines.{report_line}
use Rattle.duty_turns.proofs.LineLemmas.{lines_end, lines_over, lines_push, none_over, some_at, some_below}
use Rattle.duty_turns.proofs.lines.aggregate_lines.Goals as goal

pub returns-in_default : goal.returns-in_default
returns-in_default c =
    lines_end (report_line c.args.slot) c.args.choices.now c.args.reports.now c.choices.i _ _ (none_over _ c.get.result (sym c.copied.ensures ∙ c.in_default.is) c.get.ensures.lookup.3) c.choices.invariant

pub choices-preserved : goal.choices-preserved
choices-preserved c =
    let is = sym c.copied.ensures ∙ c.in-Some.is in
    lines_push (report_line c.args.slot) c.args.choices.now c.args.reports.now c.choices.i c.index-choices-i.result c.in-Some.report _ _ _ _ c.choices-test.true
    (some_below _ _ _ c.get.result c.in-Some.report is c.get.ensures.lookup.3) (some_at c.args.reports.now c.choices.i c.get.result c.in-Some.report is c.get.ensures.lookup.1)
    c.in_ok-push_str.ensures.bytes (c.as_str.ensures.value ∙ c.in_ok-line.ensures ∙ ap (λ (t : Task). report_line c.args.slot t c.in-Some.report) c.index-choices-i.is) c.choices.invariant

pub returns : goal.returns
returns c = lines_over (report_line c.args.slot) c.args.choices.now c.args.reports.now c.choices.i _ _ c.choices-test.false c.choices.invariant
