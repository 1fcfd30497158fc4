-- What a clock in memory answers.
use Rattle.std.specs.Prelude.{ℕ, ◌+◌, ◌-◌, ◌^◌, ◌==◌, max, min, if◌then◌else◌, List, [], ◌∷◌, Option, Some, None}
use Rattle.edge_clock.specs.declared.mem_clock.Delay.{Delay}

-- without delays it is told on time
abbrev pub start_told : ℕ → List Delay → Option ℕ
start_told start [] = Some start
start_told start (d ∷ delays) = None

-- by how many seconds a wait for this moment is over late: the first delay of the moment says it
abbrev pub delay_of : List Delay → ℕ → ℕ
delay_of [] moment = 0
delay_of (d ∷ delays) moment = if d.moment == moment then d.seconds else delay_of delays moment

-- when the wait is over, at most at the greatest moment
abbrev pub waited_until : ℕ → List Delay → ℕ → ℕ
waited_until start delays moment = min (max start moment + delay_of delays moment) (2 ^ 64 - 1)
