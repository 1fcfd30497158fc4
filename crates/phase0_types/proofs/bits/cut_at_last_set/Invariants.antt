use Rattle.std.proofs.Common.{◌≡◌, vec_len}
use Rattle.phase0_types.specs.Reading.{before_last_set}
use Rattle.phase0_types.proofs.bits.cut_at_last_set.Given as goal

-- the bits that were taken off are not set
abbrev pub invariant-set : goal.invariant-set
invariant-set l = before_last_set l.fn.bits.items ≡ before_last_set l.bits.items

abbrev pub decreases-set : goal.decreases-set
decreases-set l = vec_len l.bits
