use Rattle.std.proofs.Common.{◌≡◌, ◌+◌, ◌<◌, refl, arith}
use Rattle.duty_schedule.proofs.HoldingLemmas.{moves_by_one, moves_far}
use Rattle.duty_schedule.proofs.held.HeldAnswers.move_on.Goals as goal

pub returns-in-1 : goal.returns-in-1
returns-in-1 g c =
    let next : c.args.later ≡ c.args.newest + 1 = omega arith in
    moves_by_one c.args.self.now _ c.args.newest c.args.later next c.take.ensures.after c.take.ensures.value

pub returns-in_default : goal.returns-in_default
returns-in_default g c =
    let far : c.args.newest + 1 < c.args.later = omega arith in
    moves_far c.args.self.now _ c.args.newest c.args.later far refl refl
