use Rattle.std.proofs.Common.{◌∙◌}
use Rattle.ssz_roots.proofs.TreeLemmas.{merkle_root-is}
use Rattle.ssz_roots.proofs.tree.chunks_root.Goals as goal

pub returns : goal.returns
returns g c =
    c.root_at.ensures ∙ merkle_root-is c.args.limit c.depth_for-depth.result (g.C.Chunks.chunks c.args.chunks.now) c.requires c.depth_for-depth.ensures.fits c.depth_for-depth.ensures.depth
