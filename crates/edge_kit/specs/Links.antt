-- What a two-way stream tells, where it tells: what the peer still sends, and what was sent to it.
use Rattle.std.specs.Prelude.{◌≡◌, ℕ, List, [], ◌∷◌, ⊤, Option, Some, None}

-- a known value stays
abbrev pub Stays : {X : Type 0} → Option X → Option X → Type 0
Stays None new = ⊤
Stays (Some x) None = ⊥
Stays (Some x) (Some y) = y ≡ x

-- the next conversation of a known list begins, or one in which the peer says nothing, where none is left
abbrev pub Begins : List (List ℕ) → List ℕ → List (List ℕ) → Type 0
Begins [] left coming = (left ≡ []) × (coming ≡ [])
Begins (first ∷ others) left coming = (left ≡ first) × (coming ≡ others)

abbrev pub Opens : Option (List (List ℕ)) → Option (List ℕ) → Option (List (List ℕ)) → Type 0
Opens None left coming = ⊤
Opens (Some xs) None coming = ⊥
Opens (Some xs) (Some left) None = ⊥
Opens (Some xs) (Some left) (Some coming) = Begins xs left coming
