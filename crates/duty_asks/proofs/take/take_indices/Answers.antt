use Rattle.std.proofs.Common.{None, inr, refl}
use Rattle.duty_turns.specs.Turns.{to_renew}
use Rattle.duty_asks.specs.Placed.{HoldsPlaced}
use Rattle.duty_asks.proofs.PlaceLemmas.{renewed_placed}
use Rattle.duty_asks.proofs.TakeLemmas.{took_indices}
use Rattle.duty_asks.proofs.take.take_indices.Goals as goal

pub returns-in-Given : goal.returns-in-Given
returns-in-Given c = λ s h. took_indices (HoldsPlaced c.set_indices.new.held) (HoldsPlaced c.args.held.now) c.in-Given.answer s c.args.asked c.set_indices.result c.in-Given.is c.set_indices.ensures.set c.set_indices.ensures.memory h

pub returns-in-Nothing : goal.returns-in-Nothing
returns-in-Nothing c = λ s h. inr (rw c.in-Nothing.is (record { after = to_renew s; held = renewed_placed c.args.held.now s None None refl h; value = refl }))

pub returns-in-Stopped : goal.returns-in-Stopped
returns-in-Stopped c = λ s h. inr (rw c.in-Stopped.is (record { after = s; held = tt; value = refl }))
