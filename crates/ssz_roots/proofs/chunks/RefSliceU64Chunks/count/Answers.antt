use Rattle.std.proofs.Common.{sym, ◌∙◌}
use Rattle.ssz_roots.proofs.PackingLemmas.{length-packed_numbers}
use Rattle.ssz_roots.proofs.chunks.RefSliceU64Chunks.count.Goals as goal

pub returns : goal.returns
returns c = c.div_ceil.ensures ∙ sym (length-packed_numbers c.args.self.now.now)
