use Rattle.std.proofs.Common.{◌*◌, Some, sym, ap, ◌∙◌, arith}
use Rattle.std.proofs.lemmas.List.{take_rest}
use Rattle.ssz_roots.specs.Packing.{chunk_from}
use Rattle.ssz_roots.proofs.PackingLemmas.{bytes_begin, slice_get-packed}
use Rattle.ssz_roots.proofs.chunks.RefSliceU8Chunks.chunk.Goals as goal

pub returns : goal.returns
returns c =
    slice_get-packed c.args.self.now.now c.args.index c.requires ∙ ap (λ x. Some x) (sym (c.chunk_of_bytes.ensures ∙ ap (λ bytes. chunk_from bytes) (take_rest c.args.self.now.now (32 * c.args.index))))

pub overflow_mul-index : goal.overflow_mul-index
overflow_mul-index c = omega (arith, bytes_begin c.args.self.now.now c.args.index c.requires)

pub slice_bounds-chunk_of_bytes-count : goal.slice_bounds-chunk_of_bytes-count
slice_bounds-chunk_of_bytes-count c = omega (arith, bytes_begin c.args.self.now.now c.args.index c.requires)

pub slice_bounds-chunk_of_bytes-start : goal.slice_bounds-chunk_of_bytes-start
slice_bounds-chunk_of_bytes-start c = let begins = bytes_begin c.args.self.now.now c.args.index c.requires in omega arith
