-- Slots and moments (consensus-specs, `SECONDS_PER_SLOT`, `SLOTS_PER_EPOCH`). Moments are seconds since 1970.
use Rattle.std.specs.Prelude.{ℕ, ◌+◌, ◌-◌, ◌*◌, ◌/◌, ◌%◌, ◌^◌, ◌==◌, ◌||◌, min, nat_lt, Bool}

-- at most 18446744073709551615
abbrev pub capped : ℕ → ℕ
capped n = min n (2 ^ 64 - 1)

-- the slot that a moment is in, 0 before genesis
abbrev pub slot_of : ℕ → ℕ → ℕ
slot_of genesis_time moment = (moment - genesis_time) / 12

-- when a slot begins
abbrev pub slot_start : ℕ → ℕ → ℕ
slot_start genesis_time slot = capped (genesis_time + capped (slot * 12))

-- when its votes are cast: a third into it
abbrev pub votes_start : ℕ → ℕ → ℕ
votes_start genesis_time slot = capped (slot_start genesis_time slot + 4)

-- when what was granted in it and not sent is tried once more: after its votes, and before two thirds of it
abbrev pub again_start : ℕ → ℕ → ℕ
again_start genesis_time slot = capped (slot_start genesis_time slot + 7)

-- when aggregates of its votes are asked for: two thirds into it
abbrev pub aggregates_start : ℕ → ℕ → ℕ
aggregates_start genesis_time slot = capped (slot_start genesis_time slot + 8)

abbrev pub next_slot : ℕ → ℕ
next_slot slot = capped (slot + 1)

abbrev pub epoch_of : ℕ → ℕ
epoch_of slot = slot / 32

abbrev pub is_first_slot : ℕ → Bool
is_first_slot slot = slot % 32 == 0

-- a wait for a moment of this slot was over at another one than it was for: in a later slot, or before the moment, since the clock was set
-- back
abbrev pub is_missed : ℕ → ℕ → ℕ → ℕ → Bool
is_missed genesis_time slot moment reached = nat_lt slot (slot_of genesis_time reached) || nat_lt reached moment
