-- Bytes, bits and numbers as chunks.
use Rattle.std.proofs.Common.{◌≡◌, ℕ, zero, suc, ◌+◌, ◌-◌, ◌*◌, ◌^◌, ◌<◌, min, Bool, cond, List, [], ◌∷◌, ◌++◌, length, take, drop, replicate, get_or, Some, refl, sym, ap, ◌∙◌, append_assoc, inl, inr, arith, length-append, length-take, length-drop}
use Rattle.std.specs.Prelude.{slice_get}
use Rattle.std.specs.Int.{w64, to_le_bytes, div_ceil}
use Rattle.std.proofs.lemmas.List.{same_lists, get_or-drop, drop-replicate, take_min, take_at, drop_at, map_push, drop_all, drop-drop, take_all, get_or_default, take_more, length-take-le, length-replicate, get_or-replicate, get_or_append_left, get_or-append_right, get_or-take}
use Rattle.std.proofs.lemmas.List.FromFn.{length-map-range_with_len, get_or-map-range_with_len}
use Rattle.std.proofs.lemmas.Option.{slice_get-get_or, slice_get_within, get_or_from_slice_get}
use Rattle.std.proofs.lemmas.Bool.{cases_lt}
use Rattle.std.proofs.Math.Nat.{pow-succ'}
use Rattle.edge_kit.specs.declared.bytes.Root.{Root}
use Rattle.ssz_roots.specs.Trees.{root_chunks}
use borrow.Rule.Slice.PartMut.{put_mid}
use Rattle.ssz_roots.specs.PackingLaws.{length-bit_bytes, get_or-bit_bytes}
use Rattle.ssz_roots.specs.Packing.{chunk_from, packed, bits_value, bit_bytes, number_bytes}

-- ---- how many chunks and bytes there are

pub length-packed : (bytes : List ℕ) → length (packed bytes) ≡ div_ceil (length bytes) 32
unfolding packed
length-packed bytes = length-map-range_with_len (λ k. chunk_from (drop (32 * k) bytes)) 0 (div_ceil (length bytes) 32)

pub length-number_bytes : (numbers : List ℕ) → length (number_bytes numbers) ≡ 8 * length numbers
unfolding number_bytes
length-number_bytes [] = refl
length-number_bytes (n ∷ numbers) = simp length-append (omega (arith, length-number_bytes numbers))

pub length-packed_bits : (bits : List Bool) → length (packed (bit_bytes bits)) ≡ div_ceil (length bits) 256
length-packed_bits bits = length-packed (bit_bytes bits) ∙ rw (length-bit_bytes bits) (omega arith)

pub length-packed_numbers : (numbers : List ℕ) → length (packed (number_bytes numbers)) ≡ div_ceil (length numbers) 4
length-packed_numbers numbers = length-packed (number_bytes numbers) ∙ rw (length-number_bytes numbers) (omega arith)

-- ---- where a chunk begins

pub bytes_begin : (bytes : List ℕ) (index : ℕ) → index < length (packed bytes) → 32 * index < length bytes
bytes_begin bytes index h = let e = length-packed bytes in omega arith

pub bits_begin : (bits : List Bool) (index : ℕ) → index < length (packed (bit_bytes bits)) → 256 * index < length bits
bits_begin bits index h = let e = length-packed_bits bits in omega arith

pub numbers_begin : (numbers : List ℕ) (index : ℕ) → index < length (packed (number_bytes numbers)) → 4 * index < length numbers
numbers_begin numbers index h = let e = length-packed_numbers numbers in omega arith

-- ---- the chunk at an index

get_or-packed : (bytes : List ℕ) (index : ℕ) (other : List ℕ) → index < length (packed bytes) → get_or (packed bytes) index other ≡ chunk_from (drop (32 * index) bytes)
unfolding packed
get_or-packed bytes index other h =
    get_or-map-range_with_len (λ k. chunk_from (drop (32 * k) bytes)) 0 (div_ceil (length bytes) 32) index index other (let e = length-packed bytes in omega arith) (omega arith)

pub slice_get-packed : (bytes : List ℕ) (index : ℕ) → index < length (packed bytes) → slice_get (packed bytes) index ≡ Some (chunk_from (drop (32 * index) bytes))
slice_get-packed bytes index h = slice_get-get_or (packed bytes) index [] h ∙ ap (λ x. Some x) (get_or-packed bytes index [] h)

drop-number_bytes : (k : ℕ) (numbers : List ℕ) → drop (8 * k) (number_bytes numbers) ≡ number_bytes (drop k numbers)
unfolding number_bytes
drop-number_bytes zero numbers = refl
drop-number_bytes (suc k) [] = drop_all (8 * suc k) [] (omega arith)
drop-number_bytes (suc k) (n ∷ numbers) =
    let more : 8 * suc k ≡ 8 + 8 * k = omega arith in
    rw more (sym (drop-drop (8 * k) 8 (number_bytes (n ∷ numbers))) ∙ drop-number_bytes k numbers)

pub number_chunk_at : (numbers : List ℕ) (index : ℕ) → index < length (packed (number_bytes numbers)) → slice_get (packed (number_bytes numbers)) index ≡ Some (chunk_from (number_bytes (drop (4 * index) numbers)))
number_chunk_at numbers index h =
    let here : 32 * index ≡ 8 * (4 * index) = omega arith in
    slice_get-packed (number_bytes numbers) index h ∙ ap (λ bytes. Some (chunk_from bytes)) (ap (λ k. drop k (number_bytes numbers)) here ∙ drop-number_bytes (4 * index) numbers)

drop-bit_bytes : (k : ℕ) (bits : List Bool) → drop k (bit_bytes bits) ≡ bit_bytes (drop (8 * k) bits)
drop-bit_bytes k bits =
    same_lists _ _ (rw (length-drop k (bit_bytes bits), length-bit_bytes bits, length-bit_bytes (drop (8 * k) bits), length-drop (8 * k) bits) (omega arith)) (λ i d h.
    let size = length-drop k (bit_bytes bits) in
    let same = length-drop (8 * k) bits in
    let bytes = length-bit_bytes bits in
    let rest = length-bit_bytes (drop (8 * k) bits) in
    let here : 8 * k + 8 * i ≡ 8 * (k + i) = omega arith in
    get_or-drop k (bit_bytes bits) i d ∙ get_or-bit_bytes bits (k + i) d (omega arith) ∙ sym (get_or-bit_bytes (drop (8 * k) bits) i d (omega arith) ∙ ap (λ xs. bits_value (take 8 xs)) (drop-drop (8 * i) (8 * k) bits ∙ ap (λ n. drop n bits) here)))

pub bit_chunk_at : (bits : List Bool) (index : ℕ) → index < length (packed (bit_bytes bits)) → slice_get (packed (bit_bytes bits)) index ≡ Some (chunk_from (bit_bytes (drop (256 * index) bits)))
bit_chunk_at bits index h =
    let here : 8 * (32 * index) ≡ 256 * index = omega arith in
    slice_get-packed (bit_bytes bits) index h ∙ ap (λ bytes. Some (chunk_from bytes)) (drop-bit_bytes (32 * index) bits ∙ ap (λ k. bit_bytes (drop k bits)) here)

-- ---- the bytes of a chunk

pub bits_value-push : (bits : List Bool) (bit : Bool) → bits_value (bits ++ bit ∷ []) ≡ bits_value bits + cond bit 1 0 * 2 ^ length bits
bits_value-push [] bit = omega arith
bits_value-push (b ∷ bits) bit = rw (bits_value-push bits bit, pow-succ' 2 (length bits)) (omega arith)

pub bits_value-take_more : (bits : List Bool) (place : ℕ) (other : Bool) → place < length bits → bits_value (take (place + 1) bits) ≡ bits_value (take place bits) + cond (get_or bits place other) 1 0 * 2 ^ place
bits_value-take_more bits place other h =
    rw (take_more bits place other h, bits_value-push (take place bits) (get_or bits place other), length-take-le place bits (omega arith))

chunk_from-length : (bytes : List ℕ) → length (chunk_from bytes) ≡ 32
chunk_from-length bytes = simp (length-append, length-take, length-replicate) (omega arith)

-- 32 bytes, each of eight bits, are the chunk of the bits
pub bits_fill : (bits : List Bool) (chunk : List ℕ) → length chunk ≡ 32 → ((k : ℕ) → k < 32 → get_or chunk k 0 ≡ bits_value (take 8 (drop (8 * k) bits))) → chunk ≡ chunk_from (bit_bytes bits)
bits_fill bits chunk whole each =
    let bytes = bit_bytes bits in
    let count = length-bit_bytes bits in
    let taken = length-take 32 bytes in
    same_lists chunk (chunk_from bytes) (whole ∙ sym (chunk_from-length bytes)) (λ k d h.
    get_or_default chunk k d 0 h ∙ each k (omega arith) ∙ elim (cases_lt k (length bytes)) [
      | inl within ↦ sym (get_or_append_left (take 32 bytes) (replicate (32 - length bytes) 0) d k (omega arith) ∙ get_or-take 32 bytes k d (omega arith) ∙ get_or-bit_bytes bits k d within)
      | inr past ↦ rw (drop_all (8 * k) bits (omega arith)) (sym (get_or-append_right (take 32 bytes) (replicate (32 - length bytes) 0) (length bytes) k d (omega arith) past ∙ get_or-replicate (32 - length bytes) (k - length bytes) 0 d (omega arith)))
    ])

-- bytes written over zeros are their chunk
pub bytes_fill : (bytes part : List ℕ) (count : ℕ) → count ≡ min (length bytes) 32 → part ≡ take count bytes → part ++ drop count (replicate 32 0) ≡ chunk_from bytes
bytes_fill bytes part count least same =
    let first : count ≡ min 32 (length bytes) = omega arith in
    let taken : take count bytes ≡ take 32 bytes = rw first (take_min 32 bytes) in
    let zeros : 32 - count ≡ 32 - length bytes = omega arith in
    ap (λ xs. xs ++ drop count (replicate 32 0)) (same ∙ taken) ∙ ap (λ xs. take 32 bytes ++ xs) (drop-replicate {X = ℕ} count 32 0 ∙ ap (λ n. replicate n 0) zeros)

number_bytes-push : (numbers : List ℕ) (n : ℕ) → number_bytes (numbers ++ n ∷ []) ≡ number_bytes numbers ++ to_le_bytes w64 n
unfolding number_bytes
number_bytes-push [] n = refl
number_bytes-push (m ∷ numbers) n = ap (λ bytes. to_le_bytes w64 m ++ bytes) (number_bytes-push numbers n)

-- eight bytes more written over zeros
part_fill : (first part : List ℕ) (place : ℕ) → length first ≡ 8 * place → put_mid (8 * place) (8 * place + 8 - 8 * place) (first ++ replicate (32 - 8 * place) 0) part ≡ (first ++ part) ++ replicate (32 - 8 * (place + 1)) 0
part_fill first part place size =
    let zeros : List ℕ = replicate (32 - 8 * place) 0 in
    let less : 32 - 8 * place - (8 * place + 8 - 8 * place) ≡ 32 - 8 * (place + 1) = omega arith in
    rw (take_at first zeros (8 * place) size, drop_at first zeros (8 * place) size, drop-replicate {X = ℕ} (8 * place + 8 - 8 * place) (32 - 8 * place) 0, less) (sym (append_assoc first part (replicate (32 - 8 * (place + 1)) 0)))

-- one more number written over the zeros
pub number_fill : (numbers : List ℕ) (place other : ℕ) → place < length numbers → put_mid (8 * place) (8 * place + 8 - 8 * place) (number_bytes (take place numbers) ++ replicate (32 - 8 * place) 0) (to_le_bytes w64 (get_or numbers place other)) ≡ number_bytes (take (place + 1) numbers) ++ replicate (32 - 8 * (place + 1)) 0
number_fill numbers place other within =
    let first = take place numbers in
    let size = length-take-le place numbers (omega arith) in
    part_fill (number_bytes first) (to_le_bytes w64 (get_or numbers place other)) place (omega (arith, length-number_bytes first)) ∙ ap (λ bytes. bytes ++ replicate (32 - 8 * (place + 1)) 0) (sym (ap number_bytes (take_more numbers place other within) ∙ number_bytes-push first (get_or numbers place other)))

take-number_bytes : (k : ℕ) (numbers : List ℕ) → take (8 * k) (number_bytes numbers) ≡ number_bytes (take k numbers)
unfolding number_bytes
take-number_bytes zero numbers = refl
take-number_bytes (suc k) [] = take_all (8 * suc k) [] (omega arith)
take-number_bytes (suc k) (n ∷ numbers) =
    let more : 8 * suc k ≡ suc (suc (suc (suc (suc (suc (suc (suc (8 * k)))))))) = omega arith in
    rw more (ap (λ bytes. to_le_bytes w64 n ++ bytes) (take-number_bytes k numbers))

-- the first four numbers are the chunk of all
pub numbers_fill : (numbers : List ℕ) (count : ℕ) → count ≡ min (length numbers) 4 → number_bytes (take count numbers) ++ replicate (32 - 8 * count) 0 ≡ chunk_from (number_bytes numbers)
numbers_fill numbers count least =
    let first : count ≡ min 4 (length numbers) = omega arith in
    let size = length-number_bytes numbers in
    let taken : take count numbers ≡ take 4 numbers = rw first (take_min 4 numbers) in
    let zeros : 32 - 8 * count ≡ 32 - length (number_bytes numbers) = omega arith in
    ap (λ xs. number_bytes xs ++ replicate (32 - 8 * count) 0) taken ∙ ap (λ n. number_bytes (take 4 numbers) ++ replicate n 0) zeros ∙ ap (λ xs. xs ++ replicate (32 - length (number_bytes numbers)) 0) (sym (take-number_bytes 4 numbers))

-- one chunk more of a list that is gathered
pub chunks_push : (chunks now : List Root) (more : Root) (all : List (List ℕ)) (index : ℕ) → root_chunks chunks ≡ take index all → now ≡ chunks ++ more ∷ [] → slice_get all index ≡ Some more.0 → root_chunks now ≡ take (index + 1) all
chunks_push chunks now more all index so_far same here =
    let within = slice_get_within all index more.0 here in
    ap root_chunks same ∙ map_push (λ (root : Root). root.0) chunks more ∙ rw (so_far, take_more all index [] within, get_or_from_slice_get all index more.0 [] here)
