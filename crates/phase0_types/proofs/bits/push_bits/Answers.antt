use Rattle.std.proofs.Common.{◌-◌, ◌+◌, ◌/◌, ◌++◌, ◌∙◌, ap, arith}
use Rattle.phase0_types.specs.Reading.{bits_of}
use Rattle.phase0_types.proofs.BitLemmas.{bits_of-push}
use Rattle.phase0_types.proofs.bits.push_bits.Goals as goal

pub bits-preserved : goal.bits-preserved
bits-preserved c =
    let pushed = rw c.in_ok-push.was at c.push.ensures.items in
    ap (λ bits. bits ++ bits_of (8 - (c.bits._place + 1)) (c.bits.rest / 2)) pushed ∙ bits_of-push c.bits.bits.items c.bits._place c.bits.rest (omega arith) ∙ c.bits.invariant
