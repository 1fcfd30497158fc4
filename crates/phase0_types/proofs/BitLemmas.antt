-- Bits with their delimiter are read as what they were written from.
use Rattle.std.proofs.Common.{◌≡◌, ℕ, zero, suc, ◌+◌, ◌-◌, ◌*◌, ◌/◌, ◌%◌, ◌^◌, ◌<◌, ◌≤◌, nat_lt, Bool, true, false, cond, eqb, List, [], ◌∷◌, ◌++◌, length, take, drop, replicate, refl, sym, ◌∙◌, ap, inl, inr, arith, Some, None, Option, append_assoc, length-drop, length-take, get_or, sub-one}
use Rattle.std.specs.List.{flat_map}
use Rattle.std.specs.Result.{result_ok}
use Rattle.std.specs.Prelude.{option_and_then}
use Rattle.std.proofs.lemmas.List.{append-nil, take_all, drop_all, take-append-le, drop-append-le, take-append-drop, length-take-le, length_push, get_or_past}
use Rattle.std.proofs.lemmas.Bool.{cases_lt, cond-true, lt-ltb, eq-eqb, ne_eqb}
use Rattle.std.proofs.Math.Nat.{pow-succ'}
use Rattle.std.proofs.Math.Pow.{pow_mono}
use Rattle.hex.specs.Hex.{IsBytes}
use Rattle.hex.proofs.HexLemmas.{decode_of-encode_lower}
use Rattle.ssz_roots.specs.Packing.{bits_value, bit_bytes}
use Rattle.ssz_roots.specs.PackingLaws.{bit_bytes-more, get_or-bit_bytes}
use Rattle.phase0_types.specs.Reading.{bits_of, with_first, before_last_set, ends_in_a_bit, bits_of_bytes, bits_of_text}
use Rattle.edge_kit.specs.Texts.{hex_text}

-- ---- the bits of a byte

bits_of-zero : (count : ℕ) → bits_of count 0 ≡ replicate count false
bits_of-zero zero = refl
bits_of-zero (suc count) = ap (λ bits. false ∷ bits) (bits_of-zero count)

first_bit : (bit : Bool) (n : ℕ) → eqb ((cond bit 1 0 + 2 * n) % 2) 1 ≡ bit
first_bit true n = eq-eqb _ _ (omega arith)
first_bit false n = ne_eqb _ _ (λ h. omega arith)

other_bits : (bit : Bool) (n : ℕ) → (cond bit 1 0 + 2 * n) / 2 ≡ n
other_bits true n = omega arith
other_bits false n = omega arith

bits_of-bits_value : (count : ℕ) (bits : List Bool) → length bits ≤ count → bits_of count (bits_value bits) ≡ bits ++ replicate (count - length bits) false
bits_of-bits_value count [] few = bits_of-zero count ∙ ap (λ n. replicate n false) (omega arith)
bits_of-bits_value zero (bit ∷ bits) few = absurd (omega arith)
bits_of-bits_value (suc count) (bit ∷ bits) few =
    let less : suc count - suc (length bits) ≡ count - length bits = omega arith in
    rw (first_bit bit (bits_value bits), other_bits bit (bits_value bits), bits_of-bits_value count bits (omega arith), less)

-- ---- the bits before the delimiter

none_set : (count : ℕ) → before_last_set (replicate count false) ≡ None
none_set zero = refl
none_set (suc count) = rw (none_set count)

before_last_set-append : (bits more rest : List Bool) → before_last_set more ≡ Some rest → before_last_set (bits ++ more) ≡ Some (bits ++ rest)
before_last_set-append [] more rest h = h
before_last_set-append (bit ∷ bits) more rest h = rw (before_last_set-append bits more rest h)

delimiter_set : (count : ℕ) → before_last_set (true ∷ replicate count false) ≡ Some []
delimiter_set count = rw (none_set count)

bits_value-positive : (bits : List Bool) → 0 < bits_value (bits ++ true ∷ [])
bits_value-positive [] = omega arith
bits_value-positive (bit ∷ bits) = omega (arith, bits_value-positive bits)

bits_value-below : (bits : List Bool) → bits_value bits < 2 ^ length bits
bits_value-below [] = omega arith
bits_value-below (true ∷ bits) = omega (arith, bits_value-below bits, pow-succ' 2 (length bits))
bits_value-below (false ∷ bits) = omega (arith, bits_value-below bits, pow-succ' 2 (length bits))

IsBytes-bit_bytes : (bits : List Bool) → IsBytes (bit_bytes bits)
IsBytes-bit_bytes bits i =
    elim (cases_lt i (length (bit_bytes bits))) [
      | inl within ↦
          let eight = take 8 (drop (8 * i) bits) in
          let few : length eight ≤ 8 = simp length-take (omega arith) in
          let width : 2 ^ length eight ≤ 2 ^ 8 = pow_mono few in
          omega (arith, get_or-bit_bytes bits i 0 within, bits_value-below eight)
      | inr past ↦ omega (arith, get_or_past (bit_bytes bits) i 0 past)
    ]

bit_bytes-none : bit_bytes [] ≡ []
unfolding bit_bytes
bit_bytes-none = refl

-- ---- the bits of bytes

some_if : {X : Type 0} (e : Bool) (o : Option X) (x : X) → cond e o None ≡ Some x → (e ≡ true) × (o ≡ Some x)
some_if true o x h = (refl, h)
some_if false o x h = absurd (cc)

-- the last byte alone
last_byte : (byte : ℕ) (first back : List Bool) → 0 < byte → bits_of 8 byte ≡ first → before_last_set first ≡ Some back → bits_of_bytes (byte ∷ []) ≡ Some back
last_byte byte first back some same before =
    cond-true (nat_lt 0 byte) _ _ (lt-ltb 0 byte some) ∙ ap before_last_set (append-nil (bits_of 8 byte) ∙ same) ∙ before

-- a byte before others
earlier_byte : (byte next : ℕ) (rest : List ℕ) (first back : List Bool) → bits_of 8 byte ≡ first → bits_of_bytes (next ∷ rest) ≡ Some back → bits_of_bytes (byte ∷ next ∷ rest) ≡ Some (first ++ back)
earlier_byte byte next rest first back same later =
    let parts = some_if (ends_in_a_bit (next ∷ rest)) (before_last_set (flat_map (bits_of 8) (next ∷ rest))) back later in
    cond-true (ends_in_a_bit (next ∷ rest)) _ _ parts.0 ∙ ap (λ bits. before_last_set (bits ++ flat_map (bits_of 8) (next ∷ rest))) same ∙ before_last_set-append first (flat_map (bits_of 8) (next ∷ rest)) back parts.1

-- the last byte decides
pub ends_in_a_bit-last : (bytes : List ℕ) → ends_in_a_bit bytes ≡ nat_lt 0 (get_or bytes (length bytes - 1) 0)
ends_in_a_bit-last [] = refl
ends_in_a_bit-last (byte ∷ []) = refl
ends_in_a_bit-last (byte ∷ next ∷ bytes) = ends_in_a_bit-last (next ∷ bytes) ∙ rw (sub-one, sub-one)

-- a list that loses its last bit
pub before_last_set-push_set : (bits : List Bool) → before_last_set (bits ++ true ∷ []) ≡ Some bits
before_last_set-push_set bits = before_last_set-append bits (true ∷ []) [] refl ∙ ap (λ xs. Some xs) (append-nil bits)

pub before_last_set-push_clear : (bits : List Bool) → before_last_set (bits ++ false ∷ []) ≡ before_last_set bits
before_last_set-push_clear [] = refl
before_last_set-push_clear (bit ∷ bits) = ap (with_first bit) (before_last_set-push_clear bits)

-- ---- bits with their delimiter

one_byte : (bits : List Bool) → length bits < 8 → bits_of_bytes (bit_bytes (bits ++ true ∷ [])) ≡ Some bits
one_byte bits few =
    let all = bits ++ true ∷ [] in
    let size = length_push bits true in
    let zeros = replicate (8 - length all) false in
    let byte : bit_bytes all ≡ bits_value all ∷ [] = bit_bytes-more all (omega arith) ∙ rw (take_all 8 all (omega arith), drop_all 8 all (omega arith), bit_bytes-none) in
    let before = before_last_set-append bits (true ∷ zeros) [] (delimiter_set (8 - length all)) ∙ ap (λ xs. Some xs) (append-nil bits) in
    ap bits_of_bytes byte ∙ last_byte (bits_value all) (bits ++ true ∷ zeros) bits (bits_value-positive bits) (bits_of-bits_value 8 all (omega arith) ∙ append_assoc bits (true ∷ []) zeros) before

next_byte : (bits : List Bool) → 8 ≤ length bits → bits_of_bytes (bit_bytes (drop 8 bits ++ true ∷ [])) ≡ Some (drop 8 bits) → bits_of_bytes (bit_bytes (bits ++ true ∷ [])) ≡ Some bits
next_byte bits many later =
    let rest = drop 8 bits ++ true ∷ [] in
    let size = length_push bits true in
    let rest_size = length_push (drop 8 bits) true in
    let eight = length-take-le 8 bits many in
    let none : 8 - length (take 8 bits) ≡ 0 = omega arith in
    let here = bits_of-bits_value 8 (take 8 bits) (omega arith) ∙ ap (λ n. take 8 bits ++ replicate n false) none ∙ append-nil (take 8 bits) in
    let byte : bit_bytes (bits ++ true ∷ []) ≡ bits_value (take 8 bits) ∷ bit_bytes rest = bit_bytes-more (bits ++ true ∷ []) (omega arith) ∙ rw (take-append-le 8 bits (true ∷ []) many, drop-append-le 8 bits (true ∷ []) many) in
    let next = bit_bytes-more rest (omega arith) in
    ap bits_of_bytes (byte ∙ ap (λ bytes. bits_value (take 8 bits) ∷ bytes) next) ∙ earlier_byte (bits_value (take 8 bits)) (bits_value (take 8 rest)) (bit_bytes (drop 8 rest)) (take 8 bits) (drop 8 bits) here (ap bits_of_bytes (sym next) ∙ later) ∙ ap (λ xs. Some xs) (take-append-drop 8 bits)

-- by eight bits a step
bytes_back : (steps : ℕ) (bits : List Bool) → length bits < 8 * steps → bits_of_bytes (bit_bytes (bits ++ true ∷ [])) ≡ Some bits
bytes_back zero bits few = absurd (omega arith)
bytes_back (suc steps) bits few =
    elim (cases_lt (length bits) 8) [
      | inl less ↦ one_byte bits less
      | inr more ↦ next_byte bits more (bytes_back steps (drop 8 bits) (omega (arith, length-drop 8 bits)))
    ]

pub bits_of_text-hex_text : (bits : List Bool) → bits_of_text (hex_text (bit_bytes (bits ++ true ∷ []))) ≡ Some bits
unfolding bits_of_text
bits_of_text-hex_text bits =
    ap (λ r. option_and_then bits_of_bytes (result_ok r)) (decode_of-encode_lower (bit_bytes (bits ++ true ∷ [])) (IsBytes-bit_bytes (bits ++ true ∷ []))) ∙ bytes_back (suc (length bits)) bits (omega arith)

-- one bit more of a byte, behind others
pub bits_of-push : (bits : List Bool) (place rest : ℕ) → place < 8 → (bits ++ eqb (rest % 2) 1 ∷ []) ++ bits_of (8 - (place + 1)) (rest / 2) ≡ bits ++ bits_of (8 - place) rest
bits_of-push bits place rest few =
    let more : 8 - place ≡ suc (8 - (place + 1)) = omega arith in
    append_assoc bits (eqb (rest % 2) 1 ∷ []) (bits_of (8 - (place + 1)) (rest / 2)) ∙ ap (λ n. bits ++ bits_of n rest) (sym more)
