-- A list cut into parts of so many elements each, the last with the rest.
use Rattle.std.specs.Prelude.{◌≡◌, ℕ, zero, suc, ◌<◌, ◌≤◌, List, [], ◌∷◌, length, take, drop}

-- the same, as long as there is fuel: a part takes one
abbrev pub cut_by : {X : Type 0} → ℕ → ℕ → List X → List (List X)
cut_by zero limit xs = []
cut_by (suc fuel) limit [] = []
cut_by (suc fuel) limit (x ∷ xs) = take limit (x ∷ xs) ∷ cut_by fuel limit (drop limit (x ∷ xs))

unfoldable pub cut : {X : Type 0} → ℕ → List X → List (List X)
cut limit xs = cut_by (length xs) limit xs

-- no part is empty, each but the last has so many elements, and the last no more
abbrev pub AreFilled : {X : Type 0} → ℕ → List (List X) → Type 0
AreFilled limit [] = Unit {0}
AreFilled limit (part ∷ []) = (0 < length part) × (length part ≤ limit)
AreFilled limit (part ∷ next ∷ parts) = (length part ≡ limit) × AreFilled limit (next ∷ parts)
