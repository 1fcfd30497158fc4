use Rattle.std.proofs.Common.{sym, arith}
use Rattle.ssz_roots.specs.PackingLaws.{merkle_root-one}
use Rattle.phase0_types.specs.Roots.{root_of}
use Rattle.phase0_types.proofs.leaves.chunk_root.Goals as goal

pub returns : goal.returns
unfolding root_of
returns c = sym (merkle_root-one c.args.chunk.now (omega arith))
