use Rattle.std.proofs.Common.{arith}
use Rattle.ssz_roots.proofs.PackingLemmas.{length-packed_numbers}
use Rattle.ssz_roots.proofs.tree.numbers_root.Goals as goal

pub chunks_root-requires : goal.chunks_root-requires
chunks_root-requires c = omega (arith, length-packed_numbers c.args.numbers.now)
