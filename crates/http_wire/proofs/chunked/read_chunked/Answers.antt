use Rattle.std.proofs.Common.{arith}
use Rattle.http_wire.proofs.ChunkedLemmas.{chunks_more, chunks_end, chunk_grows, chunked_faulty, chunks_bound}
use Rattle.http_wire.proofs.ListenLemmas.{listens-trans}
use Rattle.http_wire.proofs.chunked.read_chunked.Goals as goal

pub returns-in-Ok-false-clause-step : goal.returns-in-Ok-false-clause-step
returns-in-Ok-false-clause-step g c =
    let step = rw c.in-Ok-false.field-0-test at c.in-Ok-false.ensures.step in
    chunks_end _ _ _ c.chunks.body.items c.read_chunk.new.body.items c.chunks.invariant.chunks step

pub returns-in-Err-clause-step : goal.returns-in-Err-clause-step
returns-in-Err-clause-step g c =
    chunked_faulty _ _ _ c.chunks.body.items c.read_chunk.new.body.items c.in-Err.fault c.chunks.invariant.chunks c.in-Err.ensures.step

pub chunks-preserved : goal.chunks-preserved
chunks-preserved g c =
    let step = rw c.in-Ok-true.field-0-test at c.in-Ok-true.ensures.step in
    let grows = chunk_grows _ _ c.chunks.body.items c.read_chunk.new.body.items step in
    record {
      chunks = chunks_more _ _ _ c.chunks.body.items c.read_chunk.new.body.items c.chunks.invariant.chunks step;
      count = omega (arith, grows, c.chunks.invariant.count);
      listens = listens-trans c.chunks.invariant.listens c.read_chunk.ensures.listens;
    }

pub returns-in-Ok-false-clause-bound : goal.returns-in-Ok-false-clause-bound
returns-in-Ok-false-clause-bound g c = chunks_bound _ _ _ c.chunks.body.items c.chunks.invariant.chunks c.read_chunk.ensures.bound

pub returns-in-Err-clause-bound : goal.returns-in-Err-clause-bound
returns-in-Err-clause-bound g c = chunks_bound _ _ _ c.chunks.body.items c.chunks.invariant.chunks c.read_chunk.ensures.bound
