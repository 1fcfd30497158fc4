use Rattle.std.proofs.Common.{sym, ◌∙◌}
use Rattle.ssz_roots.proofs.PackingLemmas.{length-packed}
use Rattle.ssz_roots.proofs.chunks.RefSliceU8Chunks.count.Goals as goal

pub returns : goal.returns
returns c = c.div_ceil.ensures ∙ sym (length-packed c.args.self.now.now)
