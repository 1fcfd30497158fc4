-- What a door tells, where it tells: which connections still come in, and how many it has lent.
use Rattle.std.specs.Prelude.{◌≡◌, ℕ, ◌+◌, ◌<◌, List, [], ◌∷◌, ⊤, Option, Some, None, Result, Ok, Err}

-- the first of the connections that still come in is given, or none, where none is left
abbrev pub Accepts : {C : Type 0} → Option (List C) → Option (List C) → Option C → Type 0
Accepts None new conn = ⊤
Accepts (Some cs) None conn = ⊥
Accepts (Some []) (Some left) conn = (conn ≡ None) × (left ≡ [])
Accepts (Some (first ∷ others)) (Some left) conn = (conn ≡ Some first) × (left ≡ others)

-- how many more are lent where this came of an `accept`
abbrev pub lent_for : {C E : Type 0} → Result (Option C) E → ℕ
lent_for (Ok (Some conn)) = 1
lent_for (Ok None) = 0
lent_for (Err e) = 0

-- a known count rises by so many
abbrev pub Counts : Option ℕ → Option ℕ → ℕ → Type 0
Counts None new more = new ≡ None
Counts (Some n) new more = new ≡ Some (n + more)

abbrev pub LendsFor : {C E : Type 0} → Option ℕ → Option ℕ → Result (Option C) E → Type 0
LendsFor old new result = Counts old new (lent_for result)

-- one is taken back
abbrev pub TakesBack : Option ℕ → Option ℕ → Type 0
TakesBack old new = Counts new old 1

-- some are lent, where the count is known
abbrev pub IsLent : Option ℕ → Type 0
IsLent None = ⊤
IsLent (Some n) = 0 < n
