use Rattle.std.proofs.Common.{◌*◌, Some, sym, ap, ◌∙◌, arith}
use Rattle.std.proofs.lemmas.List.{take_rest}
use Rattle.ssz_roots.specs.Packing.{chunk_from, bit_bytes}
use Rattle.ssz_roots.proofs.PackingLemmas.{bits_begin, bit_chunk_at}
use Rattle.ssz_roots.proofs.chunks.RefSliceBoolChunks.chunk.Goals as goal

pub returns : goal.returns
returns c =
    bit_chunk_at c.args.self.now.now c.args.index c.requires ∙ ap (λ x. Some x) (sym (c.chunk_of_bits.ensures ∙ ap (λ bytes. chunk_from (bit_bytes bytes)) (take_rest c.args.self.now.now (256 * c.args.index))))

pub overflow_mul-index : goal.overflow_mul-index
overflow_mul-index c = omega (arith, bits_begin c.args.self.now.now c.args.index c.requires)

pub slice_bounds-chunk_of_bits-count : goal.slice_bounds-chunk_of_bits-count
slice_bounds-chunk_of_bits-count c = omega (arith, bits_begin c.args.self.now.now c.args.index c.requires)

pub slice_bounds-chunk_of_bits-start : goal.slice_bounds-chunk_of_bits-start
slice_bounds-chunk_of_bits-start c = let begins = bits_begin c.args.self.now.now c.args.index c.requires in omega arith
