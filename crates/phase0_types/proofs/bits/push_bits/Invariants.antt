use Rattle.std.proofs.Common.{◌≡◌, ◌-◌, ◌++◌}
use Rattle.phase0_types.specs.Reading.{bits_of}
use Rattle.phase0_types.proofs.bits.push_bits.Given as goal

-- what is left to add, behind what was added
abbrev pub invariant-bits : goal.invariant-bits
invariant-bits l = l.bits.items ++ bits_of (8 - l._place) l.rest ≡ l.fn.bits.items ++ bits_of 8 l.fn.byte
