-- Which members of a committee aggregate its votes (consensus-specs, "Aggregation selection").
use Rattle.std.specs.Prelude.{ℕ, ◌==◌, ◌/◌, ◌%◌, Bool, max, take}
use Rattle.std.specs.Int.{w64, from_le_bytes}
use Rattle.sha2.specs.Sha256.{sha256}
use Rattle.edge_kit.specs.declared.bytes.Sig.{Sig}

-- one in a sixteenth of the members of a committee of this length, by the SHA-256 of its signature of the slot; all of a small one
abbrev pub is_aggregator : Sig → ℕ → Bool
is_aggregator proof members = from_le_bytes w64 (take 8 (sha256 proof.0)) % max (members / 16) 1 == 0
