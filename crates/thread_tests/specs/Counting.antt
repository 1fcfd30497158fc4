-- The machine of the counter.
use Rattle.std.specs.Prelude.{◌≡◌, ℕ, ◌+◌, ◌%◌, ◌^◌, List}
use Rattle.atomic_table.specs.declared.shared.Seat.{Seat}
use Rattle.desk_lock.specs.declared.types.Held.{Held}
use Rattle.desk_lock.specs.declared.types.View.{View}
use Rattle.desk_lock.specs.Sharing.{Shared, IsPassAt}
use Rattle.thread_tests.specs.declared.counter.Counter.{Counter}

-- it replies what it had
abbrev pub Steps : Counter → ℕ → ℕ → Counter → Type 0
Steps c k r d = (r ≡ c.total) × (d.total ≡ (c.total + k) % 2 ^ 64)

abbrev pub May : List (ℕ × ℕ) → ℕ → Type 0
May mine k = Unit {0}

abbrev pub IsPass : Shared Counter ℕ ℕ → Seat (Held Counter ℕ ℕ) (View Counter ℕ ℕ) → Type 0
IsPass s p = IsPassAt Steps May s p
