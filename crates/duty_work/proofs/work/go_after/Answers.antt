use Rattle.std.proofs.Common.{◌∙◌, refl, sym, ap}
use Rattle.duty_turns.specs.Times.{next_slot}
use Rattle.duty_work.proofs.RunLemmas.{held_as, holds_at}
use Rattle.duty_work.proofs.TurnLemmas.{after_back, after_next}
use Rattle.duty_work.proofs.work.go_after.Goals as goal

pub returns-then-moment-reached : goal.returns-then-moment-reached
returns-then-moment-reached c = λ s h.
    held_as (sym (after_next c.args.genesis_time c.args.moment c.args.reached s c.if-moment-reached.true))
    (holds_at c.args.held.now _ s (next_slot s.slot) h (c.next_slot-held.ensures ∙ ap (λ n. next_slot n) h.is.slot) refl refl refl refl refl)

pub returns : goal.returns
returns c = λ s h. held_as (sym (after_back c.args.genesis_time c.args.moment c.args.reached s c.if-moment-reached.false)) (c.go_to.ensures s h)
