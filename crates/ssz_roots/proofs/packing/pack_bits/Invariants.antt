use Rattle.std.proofs.Common.{◌≡◌, take}
use Rattle.ssz_roots.specs.Packing.{bit_bytes}
use Rattle.ssz_roots.proofs.packing.pack_bits.Given as goal

abbrev pub invariant-bytes : goal.invariant-bytes
invariant-bytes l = l.bytes.items ≡ take l.index (bit_bytes l.bits)
