use Rattle.ssz_roots.specs.Packing.{packed}
use Rattle.ssz_roots.proofs.PackingLemmas.{chunks_push}
use Rattle.ssz_roots.proofs.packing.pack.Goals as goal

pub chunks-preserved : goal.chunks-preserved
chunks-preserved c =
    chunks_push c.chunks.chunks.items c.push.new.self.items c.chunk.result (packed c.args.bytes.now) c.chunks.index c.chunks.invariant (rw c.in_ok-push.was at c.push.ensures.items) c.chunk.ensures
