use Rattle.std.proofs.Common.{◌<◌, length, ◌∙◌, arith}
use Rattle.std.proofs.lemmas.List.{take_more, take_all}
use Rattle.ssz_roots.specs.Packing.{bit_bytes}
use Rattle.ssz_roots.specs.PackingLaws.{length-bit_bytes, get_or-bit_bytes}
use Rattle.ssz_roots.proofs.packing.pack_bits.Goals as goal

pub bytes-preserved : goal.bytes-preserved
bytes-preserved c =
    let all = bit_bytes c.args.bits.now in
    let within : c.bytes.index < length all = omega (arith, length-bit_bytes c.args.bits.now) in
    rw c.in_ok-push.was at c.push.ensures.items ∙ rw (c.bytes.invariant, take_more all c.bytes.index 0 within, get_or-bit_bytes c.args.bits.now c.bytes.index 0 within, c.byte_at.ensures)

pub returns : goal.returns
returns c = c.bytes.invariant ∙ take_all c.bytes.index (bit_bytes c.args.bits.now) (omega (arith, length-bit_bytes c.args.bits.now))
