use Rattle.ssz_roots.proofs.tree.+root_at.Given as goal

abbrev pub decreases-root_at : goal.decreases-root_at
decreases-root_at g l = l.depth
