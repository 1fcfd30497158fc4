use Rattle.std.proofs.Common.{◌≡◌, take}
use Rattle.ssz_roots.specs.Packing.{packed}
use Rattle.ssz_roots.specs.Trees.{root_chunks}
use Rattle.ssz_roots.proofs.packing.pack.Given as goal

abbrev pub invariant-chunks : goal.invariant-chunks
invariant-chunks l = root_chunks l.chunks.items ≡ take l.index (packed l.bytes)
