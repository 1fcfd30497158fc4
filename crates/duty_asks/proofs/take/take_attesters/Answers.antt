use Rattle.std.proofs.Common.{refl}
use Rattle.duty_asks.proofs.take.take_attesters.Goals as goal

pub returns-in-Stopped : goal.returns-in-Stopped
returns-in-Stopped c = λ s h f. rw c.in-Stopped.is (record { after = s; held = tt; value = refl })
