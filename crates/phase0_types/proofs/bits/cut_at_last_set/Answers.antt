use Rattle.std.proofs.Common.{◌∙◌, ap}
use Rattle.phase0_types.specs.Reading.{before_last_set}
use Rattle.phase0_types.proofs.BitLemmas.{before_last_set-push_set, before_last_set-push_clear}
use Rattle.phase0_types.proofs.bits.cut_at_last_set.Goals as goal

pub returns-then-bit : goal.returns-then-bit
returns-then-bit c =
    let last = rw c.if-bit.true at c.in-Some.ensures.items in
    c.set.invariant ∙ ap before_last_set last ∙ before_last_set-push_set c.pop.new.self.items

pub set-preserved : goal.set-preserved
set-preserved c =
    let last = rw c.if-bit.false at c.in-Some.ensures.items in
    c.set.invariant ∙ ap before_last_set last ∙ before_last_set-push_clear c.pop.new.self.items
