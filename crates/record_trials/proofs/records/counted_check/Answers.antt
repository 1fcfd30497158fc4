use Rattle.std.proofs.Common.{◌+◌, ◌-◌, ◌^◌, ◌<◌, ◌≤◌, ◌⊎◌, inl, inr, arith}
use Rattle.std.proofs.Math.Pow.{pow_mono}
use Rattle.std.proofs.lemmas.Bool.{cases_lt}
use Rattle.record_trials.proofs.records.counted_check.Goals as goal

pub returns : goal.returns
returns g c thousand none = at (cases_lt 11 (c.check_counted.new.steps - c.args.steps.now)) where
  at : (11 < c.check_counted.new.steps - c.args.steps.now) ⊎ (c.check_counted.new.steps - c.args.steps.now ≤ 11) → c.check_counted.new.steps ≤ c.args.steps.now + 11
  at (inl more) = let up : 2 ^ 12 ≤ 2 ^ (c.check_counted.new.steps - c.args.steps.now) = pow_mono {i = 12} {j = c.check_counted.new.steps - c.args.steps.now} (omega arith) in absurd (omega (arith, up, c.check_counted.ensures.few none, thousand))
  at (inr few) = omega (arith, c.check_counted.ensures.counts)
