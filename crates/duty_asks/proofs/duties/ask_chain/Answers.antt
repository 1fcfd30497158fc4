use Rattle.std.proofs.Common.{Some, length, ◌∙◌, ap}
use Rattle.node_calls.specs.declared.ask.Ask.TheVariants as ask
use Rattle.duty_turns.specs.Standing.{with_fork}
use Rattle.duty_turns.specs.Times.{epoch_of}
use Rattle.duty_turns.specs.Turns.{ask_plan, by_32, index_plan, renewed_now, to_renew}
use Rattle.duty_asks.proofs.PlaceLemmas.{renewed_placed}
use Rattle.duty_asks.proofs.QuietLemmas.{parts_then, parts_stop}
use Rattle.duty_asks.proofs.duties.ask_chain.Goals as goal

pub returns-in-Err : goal.returns-in-Err
returns-in-Err g c = λ s h.
    let now = renewed_placed c.args.held.now s _ _ (ap Some (c.epoch_of.ensures.epoch ∙ ap (λ n. epoch_of n) h.is.slot)) h in
    parts_stop _ _ (ask_plan ask.Fork with_fork (to_renew s) (renewed_now s)) (index_plan (by_32 (length c.args.active.now) c.args.active.now)) _ _ c.ask_fork.result c.in-Err.stop c.in-Err.is (c.ask_fork.ensures (renewed_now s) now)

pub returns : goal.returns
returns g c = λ s h.
    let now = renewed_placed c.args.held.now s _ _ (ap Some (c.epoch_of.ensures.epoch ∙ ap (λ n. epoch_of n) h.is.slot)) h in
    parts_then _ _ (ask_plan ask.Fork with_fork (to_renew s) (renewed_now s)) (index_plan (by_32 (length c.args.active.now) c.args.active.now)) _ _ _ c.ask_fork.result c.ask_indices.result c.in-Ok.is (c.ask_fork.ensures (renewed_now s) now) (λ t k. c.ask_indices.ensures t k)
