use Rattle.std.proofs.Common.{sym, ◌∙◌}
use Rattle.ssz_roots.proofs.PackingLemmas.{length-packed_bits}
use Rattle.ssz_roots.proofs.chunks.RefSliceBoolChunks.count.Goals as goal

pub returns : goal.returns
returns c = c.div_ceil.ensures ∙ sym (length-packed_bits c.args.self.now.now)
