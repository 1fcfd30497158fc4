use Rattle.std.proofs.Common.{◌≡◌, ℕ, subst, arith}
use Rattle.rehearsal.specs.Rehearsals.{Stood}
use Rattle.rehearsal.proofs.stage.rehearse.Goals as goal

pub counts-requires-clause-stood : goal.counts-requires-clause-stood
counts-requires-clause-stood c =
    let last = c.steps-test.false in
    let most = c.steps.auto.step-end in
    let all : c.steps.step ≡ c.args.steps = omega (arith, last, most) in
    let S : ℕ → Type 0 = λ n. Stood c.steps.stage.number c.steps.stage.count n c.steps.stage in
    subst S all c.steps.invariant.stood
