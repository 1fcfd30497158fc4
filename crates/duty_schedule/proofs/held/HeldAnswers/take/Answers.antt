use Rattle.std.proofs.Common.{◌≡◌, ◌+◌, ◌≤◌, refl, arith}
use Rattle.duty_schedule.proofs.HoldingLemmas.{newest_at, others_newest, others_previous, own_newest, own_previous, previous_at, taken_kept}
use Rattle.duty_schedule.proofs.held.HeldAnswers.take.Goals as goal

pub returns-in-0-clause-own : goal.returns-in-0-clause-own
returns-in-0-clause-own g c = λ kept.
    let e : c.args.epoch ≡ c.args.newest = omega arith in own_newest c.args.self.now _ c.args.newest c.args.epoch c.args.answer e c.hold.ensures.held

pub returns-in-0-clause-others : goal.returns-in-0-clause-others
returns-in-0-clause-others g c = λ other apart.
    let e : c.args.epoch ≡ c.args.newest = omega arith in others_newest c.args.self.now _ c.args.newest c.args.epoch other e apart refl

pub returns-in-0-clause-taken : goal.returns-in-0-clause-taken
returns-in-0-clause-taken g c =
    let e : c.args.epoch ≡ c.args.newest = omega arith in
    let kept : c.args.newest ≤ c.args.epoch + 1 = omega arith in
    let now = c.args.self.now in
    taken_kept now now c.args.newest c.args.epoch now.newest c.args.answer.basis c.hold.result kept (newest_at now c.args.newest c.args.epoch e) c.hold.ensures.taken

pub returns-in-1-clause-own : goal.returns-in-1-clause-own
returns-in-1-clause-own g c = λ kept.
    let e : c.args.epoch + 1 ≡ c.args.newest = omega arith in own_previous c.args.self.now _ c.args.newest c.args.epoch c.args.answer e c.hold-in-1.ensures.held

pub returns-in-1-clause-others : goal.returns-in-1-clause-others
returns-in-1-clause-others g c = λ other apart.
    let e : c.args.epoch + 1 ≡ c.args.newest = omega arith in others_previous c.args.self.now _ c.args.newest c.args.epoch other e apart refl

pub returns-in-1-clause-taken : goal.returns-in-1-clause-taken
returns-in-1-clause-taken g c =
    let e : c.args.epoch + 1 ≡ c.args.newest = omega arith in
    let kept : c.args.newest ≤ c.args.epoch + 1 = omega arith in
    let now = c.args.self.now in
    taken_kept now now c.args.newest c.args.epoch now.previous c.args.answer.basis c.hold-in-1.result kept (previous_at now c.args.newest c.args.epoch e) c.hold-in-1.ensures.taken
