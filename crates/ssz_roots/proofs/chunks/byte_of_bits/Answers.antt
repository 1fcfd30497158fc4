use Rattle.std.proofs.Common.{◌^◌, ◌<◌, false, arith}
use Rattle.std.proofs.lemmas.Nat.{pow_below}
use Rattle.ssz_roots.proofs.PackingLemmas.{bits_value-take_more}
use Rattle.ssz_roots.proofs.TreeLemmas.{width_more}
use Rattle.ssz_roots.proofs.chunks.byte_of_bits.Goals as goal
use Rattle.ssz_roots.proofs.chunks.byte_of_bits.Goals.{then-bit, else-bit}

pub bits-preserved : goal.bits-preserved
bits-preserved c =
    let more = bits_value-take_more c.args.bits.now c.bits.place false (omega arith) in
    let fits : 2 ^ c.bits.place < 2 ^ 8 = pow_below c.bits.place 8 (omega arith) in
    let width = width_more c.bits.place in
    elim c.if-bit.branch [
      | then-bit w ↦ let set = rw w.if-bit.true at more in record { value = omega (arith, set, w.byte-is); small = omega (arith, w.byte-is) }
      | else-bit w ↦ let clear = rw w.if-bit.false at more in record { value = omega (arith, clear, w.byte-is); small = omega (arith, w.byte-is) }
    ]
