use Rattle.std.proofs.Common.{refl, ◌∙◌, arith}
use Rattle.ssz_roots.specs.Packing.{number_bytes}
use Rattle.ssz_roots.proofs.PackingLemmas.{number_fill, numbers_fill}
use Rattle.ssz_roots.proofs.chunks.chunk_of_numbers.Goals as goal

pub numbers-init : goal.numbers-init
unfolding number_bytes
numbers-init c = refl

pub numbers-preserved : goal.numbers-preserved
numbers-preserved c = rw (c.copy_from_slice.ensures.after, c.to_le_bytes.ensures, c.numbers.invariant) (number_fill c.args.numbers.now c.numbers.place 0 (omega arith))

pub returns : goal.returns
returns c = c.numbers.invariant ∙ numbers_fill c.args.numbers.now c.numbers.place (omega arith)
