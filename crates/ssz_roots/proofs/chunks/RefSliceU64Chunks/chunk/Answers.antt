use Rattle.std.proofs.Common.{◌*◌, Some, sym, ap, ◌∙◌, arith}
use Rattle.std.proofs.lemmas.List.{take_rest}
use Rattle.ssz_roots.specs.Packing.{chunk_from, number_bytes}
use Rattle.ssz_roots.proofs.PackingLemmas.{numbers_begin, number_chunk_at}
use Rattle.ssz_roots.proofs.chunks.RefSliceU64Chunks.chunk.Goals as goal

pub returns : goal.returns
returns c =
    number_chunk_at c.args.self.now.now c.args.index c.requires ∙ ap (λ x. Some x) (sym (c.chunk_of_numbers.ensures ∙ ap (λ bytes. chunk_from (number_bytes bytes)) (take_rest c.args.self.now.now (4 * c.args.index))))

pub overflow_mul-index : goal.overflow_mul-index
overflow_mul-index c = omega (arith, numbers_begin c.args.self.now.now c.args.index c.requires)

pub slice_bounds-chunk_of_numbers-count : goal.slice_bounds-chunk_of_numbers-count
slice_bounds-chunk_of_numbers-count c = omega (arith, numbers_begin c.args.self.now.now c.args.index c.requires)

pub slice_bounds-chunk_of_numbers-start : goal.slice_bounds-chunk_of_numbers-start
slice_bounds-chunk_of_numbers-start c = let begins = numbers_begin c.args.self.now.now c.args.index c.requires in omega arith

pub offset_bounds-self-index : goal.offset_bounds-self-index
offset_bounds-self-index c = let begins = numbers_begin c.args.self.now.now c.args.index c.requires in omega arith
