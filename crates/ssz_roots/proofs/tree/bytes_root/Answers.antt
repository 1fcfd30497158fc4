use Rattle.std.proofs.Common.{arith}
use Rattle.ssz_roots.proofs.PackingLemmas.{length-packed}
use Rattle.ssz_roots.proofs.tree.bytes_root.Goals as goal

pub chunks_root-requires : goal.chunks_root-requires
chunks_root-requires c = omega (arith, length-packed c.args.bytes.now)
