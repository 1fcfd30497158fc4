-- An input within the limits passes none.
use Rattle.std.proofs.Common.{◌≡◌, ℕ, suc, ◌+◌, ◌<◌, ◌≤◌, Bool, true, false, cond, List, [], ◌∷◌, ◌++◌, length, length-append, take, drop, map, Option, Some, None, refl, sym, ◌∙◌, ap, subst, arith, append_assoc, nat_eq}
use Rattle.std.proofs.lemmas.List.{append-nil, take-append-drop, length-take-le}
use Rattle.std.proofs.lemmas.Grind.{common_steps}
use Rattle.program_end.specs.Limits.{line_limit, input_limit}
use Rattle.program_end.specs.declared.limit.Limit.{Limit}
use Rattle.program_end.specs.declared.limit.Limit.TheVariants as limit
use Rattle.session_run.specs.Lines.{lines_of, lines_after, IsOneLine, BeginsTooLong}
use Rattle.session_run.specs.Turns.{Turn, line_of}
use Rattle.session_run.specs.Inputs.{HasRead, AreShort, PassesLimit, StopsReading, WithinLimits}

not_newline : (b : ℕ) → (b ≡ 10 → ⊥) → nat_eq b 10 ≡ false
not_newline b h = grind (arith, common_steps)

not_zero : (n : ℕ) → 0 < n → nat_eq n 0 ≡ false
not_zero n h = grind (arith, common_steps)

part_from : (part line rest : List ℕ) → IsOneLine line → lines_after part (line ++ rest) ≡ lines_after (part ++ line) rest
part_from part [] rest h = ap (λ p. lines_after p rest) (sym (append-nil part))
part_from part (b ∷ bs) rest h =
    let differs : nat_eq b 10 ≡ false = not_newline b (h 0 (omega arith)) in
    rw differs (part_from (part ++ b ∷ []) bs rest (λ k lt. h (suc k) (omega arith)) ∙ ap (λ p. lines_after p rest) (append_assoc part (b ∷ []) bs))

abbrev BeginsLong : List ℕ → List (List ℕ) → Type 0
BeginsLong part lines = (line : List ℕ) × (rest : List (List ℕ)) × (lines ≡ line ∷ rest) × (length part ≤ length line)

first_long : (ys part : List ℕ) → 0 < length part → BeginsLong part (lines_after part ys)
first_long [] part some = (part, [], rw (not_zero (length part) some) refl, omega arith)
first_long (b ∷ bs) part some = at (nat_eq b 10) (first_long bs (part ++ b ∷ []) (omega (arith, length-append part (b ∷ [])))) where
  at : (t : Bool) → BeginsLong (part ++ b ∷ []) (lines_after (part ++ b ∷ []) bs) → BeginsLong part (cond t (part ∷ lines_after [] bs) (lines_after (part ++ b ∷ []) bs))
  at true later = (part, lines_after [] bs, refl, omega arith)
  at false later = (later.0, later.1, later.2, omega (arith, later.3, length-append part (b ∷ [])))

over : (bytes tail : List ℕ) → BeginsTooLong bytes → AreShort (lines_of (bytes ++ tail)) → ⊥
unfolding lines_of
over bytes tail long short =
    let front = take (line_limit + 1) bytes in
    let behind = drop (line_limit + 1) bytes ++ tail in
    let len : length front ≡ line_limit + 1 = length-take-le (line_limit + 1) bytes (omega arith) in
    let cut : bytes ++ tail ≡ front ++ behind = ap (λ l. l ++ tail) (sym (take-append-drop (line_limit + 1) bytes)) ∙ append_assoc front (drop (line_limit + 1) bytes) tail in
    let first = first_long behind front (omega arith) in
    let P : List (List ℕ) → Type 0 = λ ls. AreShort ls in
    let line = subst P (ap (λ l. lines_after [] l) cut ∙ part_from [] front behind long.1 ∙ first.2) short in
    omega (arith, line.0.1, first.3)

short_behind : (xs ys : List (List ℕ)) → AreShort (xs ++ ys) → AreShort ys
short_behind [] ys h = h
short_behind (x ∷ xs) ys h = short_behind xs ys h.1

line_over : (before now : Option (List ℕ)) (turns : List Turn) (pending : List ℕ) (total : ℕ) → WithinLimits before → HasRead before now turns pending total → BeginsTooLong pending → ⊥
line_over None now turns pending total within h long = within
line_over (Some bytes) None turns pending total within h long = h.taken
line_over (Some bytes) (Some rest) turns pending total within h long =
    let P : List (List ℕ) → Type 0 = λ ls. AreShort ls in
    over pending rest long (short_behind (map line_of turns) (lines_of (pending ++ rest)) (subst P (ap lines_of h.taken ∙ h.lines rest) within.0))

input_over : (before now : Option (List ℕ)) (turns : List Turn) (pending : List ℕ) (total : ℕ) → WithinLimits before → HasRead before now turns pending total → total ≡ input_limit → ⊥
input_over None now turns pending total within h long = within
input_over (Some bytes) None turns pending total within h long = h.taken
input_over (Some bytes) (Some rest) turns pending total within h long = omega (arith, within.1, h.count, ap length h.taken, length-append h.read rest)

pub passes_none : (before now : Option (List ℕ)) (turns : List Turn) (l : Limit) → WithinLimits before → StopsReading before now turns (PassesLimit l) → ⊥
passes_none before now turns limit.Line within stops = line_over before now turns stops.pending stops.total within stops.has_read stops.such
passes_none before now turns limit.Input within stops = input_over before now turns stops.pending stops.total within stops.has_read stops.such
passes_none before now turns limit.File within stops = stops.such
passes_none before now turns limit.Keys within stops = stops.such
