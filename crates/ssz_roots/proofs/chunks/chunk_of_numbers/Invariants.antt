use Rattle.std.proofs.Common.{◌≡◌, ◌-◌, ◌*◌, ◌++◌, take, replicate}
use Rattle.ssz_roots.specs.Packing.{number_bytes}
use Rattle.ssz_roots.proofs.chunks.chunk_of_numbers.Given as goal

abbrev pub invariant-numbers : goal.invariant-numbers
invariant-numbers l = l.chunk ≡ number_bytes (take l.place l.numbers) ++ replicate (32 - 8 * l.place) 0
