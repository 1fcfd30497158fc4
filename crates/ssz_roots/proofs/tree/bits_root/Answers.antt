use Rattle.std.proofs.Common.{arith}
use Rattle.ssz_roots.proofs.PackingLemmas.{length-packed_bits}
use Rattle.ssz_roots.proofs.tree.bits_root.Goals as goal

pub chunks_root-requires : goal.chunks_root-requires
chunks_root-requires c = omega (arith, length-packed_bits c.args.bits.now)
