-- Bytes that differ, gathered by xor and or; and the field that bears a token.
use Rattle.std.proofs.Common.{◌≡◌, ℕ, ◌+◌, ◌<◌, ◌≤◌, ◌==◌, Bool, true, false, ◌&&◌, List, [], ◌∷◌, length, map, get_or, drop, find, Option, Some, None, refl, sym, ap, ◌∙◌, cond, arith}
use Rattle.std.specs.Prelude.{bit_or, bit_xor, option_map}
use Rattle.std.specs.Str.{bytes_eq}
use Rattle.std.specs.Int.Bits.{xor_self, xor_assoc, xor_zero_l, xor_zero_r, or_zero_l}
use Rattle.std.proofs.lemmas.Nat.{le_or_l, le_or_r}
use Rattle.std.proofs.lemmas.List.{at_drop_more, at_drop_all}
use Rattle.std.proofs.lemmas.Bool.Decides.{Decides-eqb}
use Rattle.http_wire.specs.Framings.{Pair}
use Rattle.http_wire.specs.Parts.{parts, parts_of}
use Rattle.http_wire.specs.declared.field.Field.{Field}
use Rattle.http_wire.proofs.RequestLemmas.{find_map}
use Rattle.keymanager_routes.specs.Bearers.{is_bearing, bearer_of}

-- numbers whose xor is 0 are the same
no_difference : (x y : ℕ) → bit_xor x y ≡ 0 → x ≡ y
no_difference x y e =
    sym (xor_zero_r x) ∙ ap (λ z. bit_xor x z) (sym (xor_self y)) ∙ sym (xor_assoc x y y) ∙ ap (λ z. bit_xor z y) e ∙ xor_zero_l y

and_same : (r p q : Bool) → (r ≡ true → (p ≡ true) × (q ≡ true)) → (p ≡ true → q ≡ true → r ≡ true) → r ≡ (p && q)
and_same true true true h k = refl
and_same true true false h k = let e = (h refl).1 in cc
and_same true false q h k = let e = (h refl).0 in cc
and_same false true true h k = k refl refl
and_same false true false h k = refl
and_same false false q h k = refl

-- nothing differs, so far and here
gathers : (d x y : ℕ) → (bit_or d (bit_xor x y) == 0) ≡ ((d == 0) && (x == y))
gathers d x y = and_same (bit_or d (bit_xor x y) == 0) (d == 0) (x == y) fore back where
  fore : (bit_or d (bit_xor x y) == 0) ≡ true → ((d == 0) ≡ true) × ((x == y) ≡ true)
  fore e =
      let z : bit_or d (bit_xor x y) ≡ 0 = (Decides-eqb (bit_or d (bit_xor x y)) 0).0 e in
      let p : d ≡ 0 = omega (arith, le_or_l d (bit_xor x y)) in
      let q : bit_xor x y ≡ 0 = omega (arith, le_or_r d (bit_xor x y)) in
      ((Decides-eqb d 0).1 p, (Decides-eqb x y).1 (no_difference x y q))

  back : (d == 0) ≡ true → (x == y) ≡ true → (bit_or d (bit_xor x y) == 0) ≡ true
  back e f =
      let p : d ≡ 0 = (Decides-eqb d 0).0 e in
      let q : x ≡ y = (Decides-eqb x y).0 f in
      (Decides-eqb (bit_or d (bit_xor x y)) 0).1 (ap (λ z. bit_or z (bit_xor x y)) p ∙ or_zero_l (bit_xor x y) ∙ ap (λ z. bit_xor z y) q ∙ xor_self y)

apart : (p q r : Bool) → cond p (q && r) false ≡ cond (p && q) r false
apart true true r = refl
apart true false r = refl
apart false q r = refl

-- one more byte
pub gathered : (given token : List ℕ) (i d : ℕ) → i < length given → i < length token
    → cond (d == 0) (bytes_eq (drop i given) (drop i token)) false
    ≡ cond (bit_or d (bit_xor (get_or given i 0) (get_or token i 0)) == 0) (bytes_eq (drop (i + 1) given) (drop (i + 1) token)) false
gathered given token i d h k =
    let x = get_or given i 0 in
    let y = get_or token i 0 in
    ap (λ b. cond (d == 0) b false)
    (at_drop_more (λ l. bytes_eq l (drop i token)) given i 0 h ∙ at_drop_more (λ l. bytes_eq (x ∷ drop (i + 1) given) l) token i 0 k)
    ∙ apart (d == 0) (x == y) (bytes_eq (drop (i + 1) given) (drop (i + 1) token))
    ∙ ap (λ b. cond b (bytes_eq (drop (i + 1) given) (drop (i + 1) token)) false) (sym (gathers d x y))

whole : (b : Bool) → cond b true false ≡ b
whole true = refl
whole false = refl

-- no byte is left
pub gathered_all : (given token : List ℕ) (i d : ℕ) → length given ≤ i → length token ≤ i → cond (d == 0) (bytes_eq (drop i given) (drop i token)) false ≡ (d == 0)
gathered_all given token i d h k =
    ap (λ b. cond (d == 0) b false) (at_drop_all (λ l. bytes_eq l (drop i token)) given i h ∙ at_drop_all (λ l. bytes_eq [] l) token i k)
    ∙ whole (d == 0)

-- ---- the field that bears a token

pub borne : (fields : List Field) (f : Field) → Some f ≡ find (λ f. is_bearing (parts f)) fields → Some (drop 7 f.value.items) ≡ bearer_of (parts_of fields)
borne fields f e = ap (λ (o : Option Field). option_map (λ p. drop 7 p.1) (option_map parts o)) e ∙ ap (λ (o : Option Pair). option_map (λ p. drop 7 p.1) o) (sym (find_map parts is_bearing fields))

pub borne_none : (fields : List Field) → None ≡ find (λ f. is_bearing (parts f)) fields → None ≡ bearer_of (parts_of fields)
borne_none fields e = ap (λ (o : Option Field). option_map (λ p. drop 7 p.1) (option_map parts o)) e ∙ ap (λ (o : Option Pair). option_map (λ p. drop 7 p.1) o) (sym (find_map parts is_bearing fields))
