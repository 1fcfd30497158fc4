use Rattle.std.proofs.Common.{sym, ◌∙◌}
use Rattle.duty_turns.specs.Lines.{duty_line}
use Rattle.duty_turns.proofs.LineLemmas.{lines_end, lines_over, lines_push, none_over, some_at, some_below}
use Rattle.duty_turns.proofs.lines.duty_lines.Goals as goal

pub returns-in_default : goal.returns-in_default
returns-in_default c =
    lines_end (duty_line c.args.slot) c.args.duties.now c.args.results.now c.duties.i _ _ (none_over _ c.get.result (sym c.copied.ensures ∙ c.in_default.is) c.get.ensures.lookup.3) c.duties.invariant

pub duties-preserved : goal.duties-preserved
duties-preserved c =
    let is = sym c.copied.ensures ∙ c.in-Some.is in
    lines_push (duty_line c.args.slot) c.args.duties.now c.args.results.now c.duties.i _ c.in-Some.ended _ _ _ _ c.duties-test.true
    (some_below _ _ _ c.get.result c.in-Some.ended is c.get.ensures.lookup.3) (some_at c.args.results.now c.duties.i c.get.result c.in-Some.ended is c.get.ensures.lookup.1)
    c.in_ok-push_str.ensures.bytes (c.as_str.ensures.value ∙ c.in_ok-line.ensures) c.duties.invariant

pub returns : goal.returns
returns c = lines_over (duty_line c.args.slot) c.args.duties.now c.args.results.now c.duties.i _ _ c.duties-test.false c.duties.invariant
