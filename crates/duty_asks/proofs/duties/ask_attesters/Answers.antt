use Rattle.std.proofs.Common.{refl, sym, ◌∙◌, ap}
use Rattle.node_calls.specs.declared.ask.Ask.TheVariants as ask
use Rattle.call_plans.proofs.PathLemmas.{carries_cut}
use Rattle.duty_turns.specs.Standing.{with_attesters}
use Rattle.duty_turns.specs.Times.{epoch_of}
use Rattle.duty_turns.specs.Turns.{answered_plan, attesters_plan}
use Rattle.duty_turns.specs.TurnSteps.{Fits}
use Rattle.duty_asks.specs.Quiet.{QuietDoes}
use Rattle.duty_asks.proofs.QuietLemmas.{attesters_asked, came_at, came_fit, parts_asked, parts_at, parts_cut, tells_none}
use Rattle.duty_asks.proofs.duties.ask_attesters.Goals as goal

pub returns-in_default : goal.returns-in_default
returns-in_default g c = λ s h. parts_cut _ s _ _ (carries_cut Fits QuietDoes _ _)

pub returns : goal.returns
returns g c = λ s h.
    let epoch = c.epoch_of-epoch.result in
    let take_in = with_attesters epoch c.args.indices in
    let came =
    came_at (ask.Attester epoch c.in-Ok.copy) (ask.Attester epoch c.args.indices) (answered_plan take_in s s) s _ _ c.ask_or_tell-asked.result (ap (ask.Attester epoch) (c.in-Ok.ensures ∙ c.as_slice.ensures))
    (c.ask_or_tell-asked.ensures (answered_plan take_in s s) s (sym h.is.slot) (tells_none take_in s s refl))
    in
    parts_at _ (λ e. attesters_plan e c.args.indices s) _ _ _ epoch (epoch_of s.slot) (c.epoch_of-epoch.ensures.epoch ∙ ap (λ n. epoch_of n) h.is.slot)
    (attesters_asked _ epoch c.args.indices s _ _ _ (sym c.is_empty.ensures ∙ c.if-is_empty.false)
    (parts_asked _ (ask.Attester epoch c.args.indices) take_in s s _ _ c.ask_or_tell-asked.result _ came
    (c.take_attesters.ensures s h (came_fit (ask.Attester epoch c.args.indices) (answered_plan take_in s s) s _ _ c.ask_or_tell-asked.result came))))
