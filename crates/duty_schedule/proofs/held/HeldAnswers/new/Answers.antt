use Rattle.std.proofs.Common.{refl}
use Rattle.duty_schedule.proofs.HoldingLemmas.{empty_at}
use Rattle.duty_schedule.proofs.held.HeldAnswers.new.Goals as goal

pub returns : goal.returns
returns g c = λ newest epoch. empty_at _ newest epoch refl refl
