use Rattle.std.proofs.Common.{◌≡◌, ◌^◌, ◌<◌, take}
use Rattle.ssz_roots.specs.Packing.{bits_value}
use Rattle.ssz_roots.proofs.chunks.byte_of_bits.Given as goal

abbrev pub invariant-bits : goal.invariant-bits
invariant-bits l = record {
  value : l.byte ≡ bits_value (take l.place l.bits);
  small : l.byte < 2 ^ l.place;
}
