use Rattle.std.proofs.Common.{arith}
use Rattle.ssz_roots.proofs.PackingLemmas.{bits_fill}
use Rattle.ssz_roots.proofs.chunks.chunk_of_bits.Goals as goal

pub returns : goal.returns
returns c = bits_fill c.args.bits.now c.bytes.chunk c.bytes.invariant.whole (λ k h. c.bytes.invariant.bytes k (omega arith))
