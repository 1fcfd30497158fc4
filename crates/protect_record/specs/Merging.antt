-- Two lists in an order, merged into one.
use Rattle.std.specs.Prelude.{◌⊎◌, ◌↔◌, List, Contains}
use Rattle.std.specs.List.Sorted.{IsSorted}
use Rattle.std.specs.declared.cmp.Ordering.{Ordering}

-- the elements of both, none before the one that it stands behind
pub record HasMerged {X : Type 0} (cmp : X → X → Ordering) (one other both : List X) : Type 0 where
  pub elements : (e : X) → Contains both e ↔ (Contains one e ⊎ Contains other e)
  pub sorted : IsSorted cmp both
