use Rattle.std.proofs.Common.{◌≡◌, take}
use Rattle.std.specs.List.{flat_map}
use Rattle.phase0_types.specs.Reading.{bits_of}
use Rattle.phase0_types.proofs.bits.all_bits.Given as goal

abbrev pub invariant-bytes : goal.invariant-bytes
invariant-bytes l = l.bits.items ≡ flat_map (bits_of 8) (take l.byte-index l.bytes)
