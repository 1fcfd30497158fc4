-- The aggregation bits of one member's vote (consensus-specs, "Construct attestation").
use Rattle.std.specs.Prelude.{ℕ, List, Bool, true, false, replicate, slice_set}

-- one bit a member of the committee, set at this place alone
abbrev pub aggregation_bits : ℕ → ℕ → List Bool
aggregation_bits place length = slice_set (replicate length false) place true
