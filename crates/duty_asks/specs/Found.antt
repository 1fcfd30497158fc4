-- Indices that were found.
use Rattle.std.specs.Prelude.{ℕ, List, [], ◌∷◌, ◌++◌, Option, Some, None}

-- with one more after them, if there is one
abbrev pub with_index : List ℕ → Option ℕ → List ℕ
with_index found None = found
with_index found (Some index) = found ++ index ∷ []
