-- Laws of bits as bytes and of a chunk as a tree, for the crates above.
use Rattle.std.proofs.Common.{◌≡◌, ℕ, zero, suc, ◌+◌, ◌-◌, ◌*◌, ◌<◌, Bool, List, ◌∷◌, ◌++◌, length, take, drop, replicate, get_or, sym, ap, ◌∙◌, arith, length-drop}
use Rattle.std.specs.Int.{div_ceil}
use Rattle.std.proofs.lemmas.List.{append-nil, same_lists, drop-drop, take_all}
use Rattle.std.proofs.lemmas.List.FromFn.{length-map-range_with_len, get_or-map-range_with_len}
use Rattle.ssz_roots.specs.Packing.{chunk_from, packed, bits_value, bit_bytes}
use Rattle.ssz_roots.specs.Trees.{merkle_root, tree_root, padded, depth_of, depth_from}

-- eight bits in a byte
pub length-bit_bytes : (bits : List Bool) → length (bit_bytes bits) ≡ div_ceil (length bits) 8
unfolding bit_bytes
length-bit_bytes bits = length-map-range_with_len (λ k. bits_value (take 8 (drop (8 * k) bits))) 0 (div_ceil (length bits) 8)

-- the byte at a place
pub get_or-bit_bytes : (bits : List Bool) (k other : ℕ) → k < length (bit_bytes bits) → get_or (bit_bytes bits) k other ≡ bits_value (take 8 (drop (8 * k) bits))
unfolding bit_bytes
get_or-bit_bytes bits k other h =
    get_or-map-range_with_len (λ k. bits_value (take 8 (drop (8 * k) bits))) 0 (div_ceil (length bits) 8) k k other (let e = length-bit_bytes bits in omega arith) (omega arith)

-- the first eight bits are the first byte
pub bit_bytes-more : (bits : List Bool) → 0 < length bits → bit_bytes bits ≡ bits_value (take 8 bits) ∷ bit_bytes (drop 8 bits)
bit_bytes-more bits some =
    let whole = length-bit_bytes bits in
    let rest = length-bit_bytes (drop 8 bits) in
    let less = length-drop 8 bits in
    same_lists (bit_bytes bits) (bits_value (take 8 bits) ∷ bit_bytes (drop 8 bits)) (omega arith) at
  where
    at : (k d : ℕ) → k < length (bit_bytes bits) → get_or (bit_bytes bits) k d ≡ get_or (bits_value (take 8 bits) ∷ bit_bytes (drop 8 bits)) k d
    at zero d h = get_or-bit_bytes bits 0 d h
    at (suc k) d h =
        let whole = length-bit_bytes bits in
        let rest = length-bit_bytes (drop 8 bits) in
        let less = length-drop 8 bits in
        let here : 8 * suc k ≡ 8 + 8 * k = omega arith in
        get_or-bit_bytes bits (suc k) d h ∙ ap (λ n. bits_value (take 8 (drop n bits))) here ∙ ap (λ xs. bits_value (take 8 xs)) (sym (drop-drop (8 * k) 8 bits)) ∙ sym (get_or-bit_bytes (drop 8 bits) k d (omega arith))

-- 32 bytes are a chunk as they are
chunk_from-whole : (chunk : List ℕ) → length chunk ≡ 32 → chunk_from chunk ≡ chunk
chunk_from-whole chunk whole =
    let none : 32 - length chunk ≡ 0 = omega arith in
    ap (λ xs. xs ++ replicate (32 - length chunk) 0) (take_all 32 chunk (omega arith)) ∙ ap (λ n. chunk ++ replicate n 0) none ∙ append-nil chunk

-- a chunk alone is its own root
pub merkle_root-one : (chunk : List ℕ) → length chunk ≡ 32 → merkle_root 1 (packed chunk) ≡ chunk
unfolding merkle_root packed tree_root padded depth_of depth_from
merkle_root-one chunk whole = rw whole (chunk_from-whole chunk whole)
