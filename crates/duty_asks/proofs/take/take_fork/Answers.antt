use Rattle.std.proofs.Common.{None, refl}
use Rattle.duty_turns.specs.Turns.{to_renew}
use Rattle.duty_asks.proofs.PlaceLemmas.{renewed_placed}
use Rattle.duty_asks.proofs.take.take_fork.Goals as goal

pub returns-in-Nothing : goal.returns-in-Nothing
returns-in-Nothing c = λ s h. rw c.in-Nothing.is (record { after = to_renew s; held = renewed_placed c.args.held.now s None None refl h; value = refl })

pub returns-in-Stopped : goal.returns-in-Stopped
returns-in-Stopped c = λ s h. rw c.in-Stopped.is (record { after = s; held = tt; value = refl })
