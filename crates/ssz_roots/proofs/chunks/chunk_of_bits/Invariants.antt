use Rattle.std.proofs.Common.{◌≡◌, ℕ, ◌*◌, ◌<◌, length, take, drop, get_or}
use Rattle.ssz_roots.specs.Packing.{bits_value}
use Rattle.ssz_roots.proofs.chunks.chunk_of_bits.Given as goal

abbrev pub invariant-bytes : goal.invariant-bytes
invariant-bytes l = record {
  whole : length l.chunk ≡ 32;
  bytes : (k : ℕ) → k < l.place → get_or l.chunk k 0 ≡ bits_value (take 8 (drop (8 * k) l.bits));
}
