-- Bytes, bits and numbers as chunks (consensus-specs, "SimpleSerialize", "Merkleization": `pack`, `pack_bits`).
use Rattle.std.specs.Prelude.{ℕ, ◌+◌, ◌-◌, ◌*◌, List, [], ◌∷◌, ◌++◌, Bool, length, take, drop, map, replicate, if◌then◌else◌}
use Rattle.std.specs.List.{range_with_len, flat_map}
use Rattle.std.specs.Int.{w64, to_le_bytes, div_ceil}

-- the first 32 bytes, with zeros behind where there are fewer
abbrev pub chunk_from : List ℕ → List ℕ
chunk_from bytes = take 32 bytes ++ replicate (32 - length bytes) 0

-- the bytes cut into chunks, the last filled with zeros (`pack`)
unfoldable pub packed : List ℕ → List (List ℕ)
packed bytes = map (λ k. chunk_from (drop (32 * k) bytes)) (range_with_len 0 (div_ceil (length bytes) 32))

-- the number that bits write, the lowest first
abbrev pub bits_value : List Bool → ℕ
bits_value [] = 0
bits_value (bit ∷ bits) = (if bit then 1 else 0) + 2 * bits_value bits

-- the bits as bytes, eight in each, the lowest first (`pack_bits`)
unfoldable pub bit_bytes : List Bool → List ℕ
bit_bytes bits = map (λ k. bits_value (take 8 (drop (8 * k) bits))) (range_with_len 0 (div_ceil (length bits) 8))

-- numbers of 64 bits as bytes, each little-endian (SimpleSerialize, "Serialization", `uintN`)
unfoldable pub number_bytes : List ℕ → List ℕ
number_bytes numbers = flat_map (to_le_bytes w64) numbers

-- a number as a chunk: 256 bits, little-endian (`mix_in_length`)
unfoldable pub number_chunk : ℕ → List ℕ
number_chunk number = to_le_bytes w64 number ++ replicate 24 0
