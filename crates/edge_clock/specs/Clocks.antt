-- What a clock answers. Moments are seconds since 1970; a clock that is told on time has a start.
use Rattle.std.specs.Prelude.{◌≡◌, ℕ, false, max, Bool, Option, Some, None, ⊤}

-- read on time, it shows its start
abbrev pub IsNow : Option ℕ → ℕ → Type 0
IsNow None answer = ⊤
IsNow (Some start) answer = answer ≡ start

-- a wait for a moment is over at this one: on time it is that moment, or the start, where that is past it
abbrev pub IsWaited : Option ℕ → ℕ → ℕ → Type 0
IsWaited None moment answer = ⊤
IsWaited (Some start) moment answer = answer ≡ max start moment

-- told on time, nobody halts it
abbrev pub IsHalted : Option ℕ → Bool → Type 0
IsHalted None answer = ⊤
IsHalted (Some start) answer = answer ≡ false
