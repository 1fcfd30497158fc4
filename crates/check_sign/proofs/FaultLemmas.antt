-- How the counts of faults of two disks go on.
use Rattle.std.proofs.Common.{inl, inr, ℕ, ◌≤◌, arith}
use Rattle.edge_kit.specs.Causes.{Rose}
use Rattle.edge_kit.specs.declared.disk.Disks.{Disks}
use Rattle.record_journal.specs.TwoDisks.{FaultsLater, EitherRose}

rose_back : (x y z : ℕ) → x ≤ y → Rose y z → Rose x z
rose_back x y z le rose = omega (arith, le, rose)

rose_on : (x y z : ℕ) → Rose x y → y ≤ z → Rose x z
rose_on x y z rose le = omega (arith, rose, le)

module _ {D : Type 0} (faults : D → ℕ) where
  pub later_none : (disks : Disks D) → FaultsLater faults disks disks
  later_none disks = record { first = omega arith; second = omega arith }

  pub later_on : (old mid new : Disks D) → FaultsLater faults old mid → FaultsLater faults mid new → FaultsLater faults old new
  later_on old mid new first second = record {
    first = omega (arith, first.first, second.first);
    second = omega (arith, first.second, second.second);
  }

  -- a count that rose later rose since the beginning
  pub either_back : (old mid new : Disks D) → FaultsLater faults old mid → EitherRose faults mid new → EitherRose faults old new
  either_back old mid new later (inl rose) = inl (rose_back (faults old.first) (faults mid.first) (faults new.first) later.first rose)
  either_back old mid new later (inr rose) = inr (rose_back (faults old.second) (faults mid.second) (faults new.second) later.second rose)

  -- and one that rose has risen until the end
  pub either_on : (old mid new : Disks D) → EitherRose faults old mid → FaultsLater faults mid new → EitherRose faults old new
  either_on old mid new (inl rose) later = inl (rose_on (faults old.first) (faults mid.first) (faults new.first) rose later.first)
  either_on old mid new (inr rose) later = inr (rose_on (faults old.second) (faults mid.second) (faults new.second) rose later.second)
