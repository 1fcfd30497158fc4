-- A list in an order, each element once.
use Rattle.std.specs.Prelude.{◌≡◌, ◌≢◌, List, AllPairs, Contains}
use Rattle.std.specs.declared.cmp.Ordering.{Ordering}
use Rattle.std.specs.declared.cmp.Ordering.TheVariants.{Less}

-- each element comes before those behind it
abbrev pub IsInOrder : {X : Type 0} → (X → X → Ordering) → List X → Type 0
IsInOrder cmp xs = AllPairs (λ a b. cmp a b ≡ Less) xs

-- of those kept that pass, the one that no other comes before
pub record IsFirst {X : Type 0} (cmp : X → X → Ordering) (P : X → Type 0) (kept : List X) (first : X) : Type 0 where
  pub is_kept : Contains kept first
  pub passes : P first
  pub no_earlier : (other : X) → Contains kept other → P other → cmp other first ≢ Less
