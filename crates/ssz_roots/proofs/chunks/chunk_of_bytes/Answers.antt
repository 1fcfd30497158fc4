use Rattle.ssz_roots.proofs.PackingLemmas.{bytes_fill}
use Rattle.ssz_roots.proofs.chunks.chunk_of_bytes.Goals as goal

pub returns : goal.returns
returns c = bytes_fill c.args.bytes.now c.copy_from_slice.new.self c.min-count.result c.min-count.ensures c.copy_from_slice.ensures.after
