use Rattle.std.proofs.Common.{◌+◌, ◌^◌, ◌≤◌, sym, arith}
use Rattle.std.proofs.Math.Pow.{pow_mono}
use Rattle.ssz_roots.proofs.TreeLemmas.{depth_of-is, below_width, width_more}
use Rattle.ssz_roots.proofs.tree.depth_for.Goals as goal

pub returns-then-limit-le1-clause-depth : goal.returns-then-limit-le1-clause-depth
returns-then-limit-le1-clause-depth c = sym (depth_of-is c.args.limit 0 (omega arith) (omega arith) (λ e h. absurd (omega arith)))

pub returns-clause-depth : goal.returns-clause-depth
returns-clause-depth c =
    let level = c.ilog2.result in
    sym (depth_of-is c.args.limit (level + 1) (omega (arith, below_width level)) (omega (arith, width_more level)) (λ e h. let width : 2 ^ e ≤ 2 ^ level = pow_mono (omega arith) in omega arith))
