use Rattle.std.proofs.Common.{◌≡◌, length}
use Rattle.ssz_roots.specs.Zeros.{AreZeroRoots}
use Rattle.ssz_roots.proofs.zeros.zero_roots.Given as goal

abbrev pub invariant-depths : goal.invariant-depths
invariant-depths l = record { whole : length l.roots ≡ 65; zeros : AreZeroRoots l.roots l.depth }
