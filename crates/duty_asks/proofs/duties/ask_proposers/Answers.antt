use Rattle.std.proofs.Common.{refl, sym, ◌∙◌, ap}
use Rattle.node_calls.specs.declared.ask.Ask.TheVariants as ask
use Rattle.duty_turns.specs.Standing.{with_proposers}
use Rattle.duty_turns.specs.Times.{epoch_of}
use Rattle.duty_turns.specs.Turns.{answered_plan, ask_plan}
use Rattle.duty_asks.proofs.QuietLemmas.{parts_asked, parts_at, tells_none}
use Rattle.duty_asks.proofs.duties.ask_proposers.Goals as goal

pub returns : goal.returns
returns g c = λ s h.
    let take_in = with_proposers c.epoch_of-epoch.result in
    parts_at _ (λ e. ask_plan (ask.Proposer e) (with_proposers e) s s) _ _ _ c.epoch_of-epoch.result (epoch_of s.slot) (c.epoch_of-epoch.ensures.epoch ∙ ap (λ n. epoch_of n) h.is.slot)
    (parts_asked _ (ask.Proposer c.epoch_of-epoch.result) take_in s s _ _ c.ask_or_tell-asked.result _ (c.ask_or_tell-asked.ensures (answered_plan take_in s s) s (sym h.is.slot) (tells_none take_in s s refl)) (c.take_proposers.ensures s h))
