use Rattle.std.proofs.Common.{◌^◌, ◌≤◌, arith}
use Rattle.std.proofs.Math.Pow.{pow_mono}
use Rattle.ssz_roots.proofs.TreeLemmas.{below_from_width}
use Rattle.ssz_roots.proofs.zeros.depths_of_padding.Goals as goal

pub returns-in-Some-clause-most : goal.returns-in-Some-clause-most
returns-in-Some-clause-most c =
    let width : 2 ^ c.args.depth ≤ 2 ^ 64 = pow_mono c.requires.deep in
    omega (arith, below_from_width c.in-Some.level 65 (omega (arith, c.in-Some.ensures.power_le)))
