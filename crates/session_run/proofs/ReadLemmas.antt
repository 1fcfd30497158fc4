-- The lines of what was read.
use Rattle.std.proofs.Common.{◌≡◌, ℕ, zero, suc, ◌+◌, ◌-◌, ◌<◌, ◌≤◌, ◌⊎◌, min, Bool, true, false, List, [], ◌∷◌, ◌++◌, length, length-append, get_or, map, refl, sym, ◌∙◌, ap, subst, arith, append_assoc, nat_eq, Option, inl, inr}
use Rattle.std.specs.Io.KnownBytes.{Consumes, IsAtEnd}
use Rattle.std.proofs.Math.Seq.{get_or-append_seam}
use Rattle.std.proofs.lemmas.List.{append-nil, map-append, get_or_append_left}
use Rattle.std.proofs.lemmas.Grind.{common_steps, flat_map-append}
use Rattle.edge_kit.proofs.TellingLemmas.{Consumes-nil, Consumes-trans}
use Rattle.program_end.specs.Limits.{line_limit, input_limit}
use Rattle.session_run.specs.Lines.{lines_of, lines_after, IsOneLine, IsShortLine}
use Rattle.session_run.specs.Reading.{Pending, ReadsAhead, ReadsMore, piece_size}
use Rattle.session_run.specs.Turns.{Turn, line_of}
use Rattle.session_run.specs.Inputs.{HasRead, ReadsWhole, ReadsFirst, AreShort, ended_line, ended_lines, last_lines}

not_less : (x y : ℕ) → (x < y → ⊥) → y ≤ x
not_less x y h = grind (arith, common_steps)

not_newline : (b : ℕ) → (b ≡ 10 → ⊥) → nat_eq b 10 ≡ false
not_newline b h = grind (arith, common_steps)

line_from : (part line rest : List ℕ) → IsOneLine line → lines_after part (line ++ 10 ∷ rest) ≡ (part ++ line) ∷ lines_after [] rest
line_from part [] rest h = ap (λ p. p ∷ lines_after [] rest) (sym (append-nil part))
line_from part (b ∷ bs) rest h =
    let differs : nat_eq b 10 ≡ false = not_newline b (h 0 (omega arith)) in
    rw differs (line_from (part ++ b ∷ []) bs rest (λ k lt. h (suc k) (omega arith)) ∙ ap (λ p. p ∷ lines_after [] rest) (append_assoc part (b ∷ []) bs))

pub lines_of-line : (line rest : List ℕ) → IsOneLine line → lines_of (line ++ 10 ∷ rest) ≡ line ∷ lines_of rest
unfolding lines_of
lines_of-line line rest h = line_from [] line rest h

last_from : (part line : List ℕ) → IsOneLine line → lines_after part line ≡ last_lines (part ++ line)
last_from part [] h = ap last_lines (sym (append-nil part))
last_from part (b ∷ bs) h =
    let differs : nat_eq b 10 ≡ false = not_newline b (h 0 (omega arith)) in
    rw differs (last_from (part ++ b ∷ []) bs (λ k lt. h (suc k) (omega arith)) ∙ ap last_lines (append_assoc part (b ∷ []) bs))

pub lines_of-last : (line : List ℕ) → IsOneLine line → lines_of line ≡ last_lines line
unfolding lines_of
lines_of-last line h = last_from [] line h

short_then : (xs ys : List (List ℕ)) → AreShort xs → AreShort ys → AreShort (xs ++ ys)
short_then [] ys p q = q
short_then (x ∷ xs) ys p q = (p.0, short_then xs ys p.1 q)

short_last : (line : List ℕ) → IsShortLine line → AreShort (last_lines line)
short_last line h = at (nat_eq (length line) 0) where
  at : (b : Bool) → AreShort (Rattle.std.proofs.Common.cond b [] (line ∷ []))
  at true = tt
  at false = (h, tt)

pub line_fits : (t : Turn) (line : List ℕ) → t.line ≡ line → length line ≤ length (ended_lines (t ∷ []))
line_fits t line is = omega (arith, ap length is, length-append t.line (10 ∷ []), length-append (t.line ++ 10 ∷ []) [])

pub no_line_fits : (line : List ℕ) → nat_eq (length line) 0 ≡ true → length line ≤ length (ended_lines [])
no_line_fits line h = grind (arith, common_steps)

pub one_line : (line : List ℕ) → nat_eq (length line) 0 ≡ false → line ∷ [] ≡ last_lines line
one_line line h = rw h refl

pub no_line : (line : List ℕ) → nat_eq (length line) 0 ≡ true → [] ≡ last_lines line
no_line line h = rw h refl

-- ---- how far ahead is read

-- the newline that ends a line stands in the last piece
ends_late : (held front last line rest : List ℕ) → IsOneLine (held ++ front) → held ++ (front ++ last) ≡ line ++ 10 ∷ rest → length line < length (held ++ front) → ⊥
ends_late held front last line rest one cut early =
    one (length line) early
    (sym (get_or_append_left (held ++ front) last 0 (length line) early)
    ∙ ap (λ l. get_or l (length line) 0) (append_assoc held front last ∙ cut)
    ∙ get_or-append_seam line 10 rest 0)

-- what is left after a line is one piece at most
pub left_few : (held more line rest : List ℕ) → ReadsAhead held more → length held ≤ piece_size → held ++ more ≡ line ++ 10 ∷ rest → length rest ≤ piece_size
left_few held more line rest ahead few cut =
    at (length more) refl
  where
    whole : length held + length more ≡ length line + 1 + length rest
    whole = omega (arith, ap length cut, length-append held more, length-append line (10 ∷ rest))

    at : (n : ℕ) → length more ≡ n → length rest ≤ piece_size
    at zero is = omega (arith, whole, is, few)
    at (suc n) is =
        let needed = ahead.needed (omega (arith, is)) in
        let cut_late = ap (λ l. held ++ l) (sym ahead.parts) ∙ cut in
        let late : length line < length (held ++ ahead.front) → ⊥ = ends_late held ahead.front ahead.last line rest needed.0 cut_late in
        let behind : length (held ++ ahead.front) ≤ length line = not_less (length line) (length (held ++ ahead.front)) late in
        omega (arith, whole, behind, ahead.piece, ap length ahead.parts, length-append ahead.front ahead.last, length-append held ahead.front)

-- what is held is at most one line and one piece
pub held_few : (held more : List ℕ) → ReadsAhead held more → length held ≤ line_limit + piece_size → length (held ++ more) ≤ line_limit + piece_size
held_few held more ahead few = at (length more) refl where
  at : (n : ℕ) → length more ≡ n → length (held ++ more) ≤ line_limit + piece_size
  at zero is = omega (arith, is, few, length-append held more)
  at (suc n) is =
      let needed = ahead.needed (omega (arith, is)) in
      omega (arith, needed.1, ahead.piece, ap length ahead.parts, length-append ahead.front ahead.last, length-append held ahead.front, length-append held more)

ended_then : (ts : List Turn) (t : Turn) → ended_lines (ts ++ t ∷ []) ≡ ended_lines ts ++ (t.line ++ 10 ∷ [])
ended_then ts t = flat_map-append ended_line ts (t ∷ []) ∙ ap (λ l. ended_lines ts ++ l) (append-nil (t.line ++ 10 ∷ []))

pub read_none : (left : Option (List ℕ)) → HasRead left left [] [] 0
read_none left = record { read = []; taken = Consumes-nil left; lines = λ tail. refl; short = tt; count = refl; parts = refl; ahead = omega arith }

-- more was read, and none given
pub read_on : {l1 l2 l3 : Option (List ℕ)} {turns : List Turn} {old new : Pending} → HasRead l1 l2 turns old.bytes old.total → ReadsMore l2 l3 old new → HasRead l1 l3 turns new.bytes new.total
read_on {l1} {l2} {l3} {turns} {old} {new} h r = record {
  read = h.read ++ r.more;
  taken = Consumes-trans l1 l2 l3 h.read r.more h.taken r.taken;
  lines = λ tail.
      ap lines_of (append_assoc h.read r.more tail) ∙ h.lines (r.more ++ tail)
      ∙ ap (λ l. map line_of turns ++ lines_of l) (sym (append_assoc old.bytes r.more tail) ∙ ap (λ l. l ++ tail) (sym r.bytes));
  short = h.short;
  count = omega (arith, h.count, r.total, length-append h.read r.more);
  parts = ap (λ l. l ++ r.more) h.parts ∙ append_assoc (ended_lines turns) old.bytes r.more ∙ ap (λ l. ended_lines turns ++ l) (sym r.bytes);
  ahead = let P : List ℕ → Type 0 = λ l. length l ≤ line_limit + piece_size in subst P (sym r.bytes) (held_few old.bytes r.more r.ahead h.ahead);
}

-- a line was given
pub read_line : {l1 l2 l3 : Option (List ℕ)} {turns : List Turn} {old new : Pending} (t : Turn) (line rest more : List ℕ) → HasRead l1 l2 turns old.bytes old.total → Consumes l2 l3 more
    → old.bytes ++ more ≡ line ++ 10 ∷ rest → IsShortLine line → rest ≡ new.bytes → new.total ≡ old.total + length more → new.total < input_limit → t.line ≡ line → length rest ≤ piece_size
    → HasRead l1 l3 (turns ++ t ∷ []) new.bytes new.total
read_line {l1} {l2} {l3} {turns} {old} {new} t line rest more h taken cut short is_rest total within is few = record {
  read = h.read ++ more;
  taken = Consumes-trans l1 l2 l3 h.read more h.taken taken;
  lines = λ tail.
      ap lines_of (append_assoc h.read more tail)
      ∙ h.lines (more ++ tail)
      ∙ ap (λ l. map line_of turns ++ lines_of l) (sym (append_assoc old.bytes more tail) ∙ ap (λ l. l ++ tail) cut ∙ append_assoc line (10 ∷ rest) tail)
      ∙ ap (λ l. map line_of turns ++ l) (lines_of-line line (rest ++ tail) short.0 ∙ ap (λ l. l ∷ lines_of (rest ++ tail)) (sym is))
      ∙ sym (append_assoc (map line_of turns) (t.line ∷ []) (lines_of (rest ++ tail)))
      ∙ ap (λ l. l ++ lines_of (rest ++ tail)) (sym (map-append line_of turns (t ∷ [])))
      ∙ ap (λ l. map line_of (turns ++ t ∷ []) ++ lines_of (l ++ tail)) is_rest;
  short =
      let P : List (List ℕ) → Type 0 = λ ls. AreShort ls in
      let S : List ℕ → Type 0 = λ l. IsShortLine l in
      subst P (sym (map-append line_of turns (t ∷ []))) (short_then (map line_of turns) (t.line ∷ []) h.short (subst S (sym is) short, tt));
  count = omega (arith, h.count, total, within, length-append h.read more);
  parts =
      ap (λ l. l ++ more) h.parts
      ∙ append_assoc (ended_lines turns) old.bytes more
      ∙ ap (λ l. ended_lines turns ++ l) (cut ∙ ap (λ l. l ++ 10 ∷ rest) (sym is) ∙ sym (append_assoc t.line (10 ∷ []) rest))
      ∙ sym (append_assoc (ended_lines turns) (t.line ++ 10 ∷ []) rest)
      ∙ ap (λ l. l ++ rest) (sym (ended_then turns t))
      ∙ ap (λ l. ended_lines (turns ++ t ∷ []) ++ l) is_rest;
  ahead = omega (arith, few, ap length is_rest);
}

-- what stood after the last newline was given
pub read_last : {l1 l2 l3 : Option (List ℕ)} {turns : List Turn} {old : Pending} (last : List Turn) (line more : List ℕ) (total : ℕ) → HasRead l1 l2 turns old.bytes old.total → Consumes l2 l3 more
    → old.bytes ++ more ≡ line → IsShortLine line → total ≡ old.total + length more → total < input_limit → IsAtEnd l3 → map line_of last ≡ last_lines line → length line ≤ length (ended_lines last)
    → ReadsWhole l1 l3 (turns ++ last)
read_last {l1} {l2} {l3} {turns} {old} last line more total h taken cut short total_is within end is fits = record {
  read = h.read ++ more;
  taken = Consumes-trans l1 l2 l3 h.read more h.taken taken;
  at_end = end;
  lines =
      ap lines_of (sym (append-nil (h.read ++ more)) ∙ append_assoc h.read more [])
      ∙ h.lines (more ++ [])
      ∙ ap (λ l. map line_of turns ++ lines_of l) (sym (append_assoc old.bytes more []) ∙ append-nil (old.bytes ++ more) ∙ cut)
      ∙ ap (λ l. map line_of turns ++ l) (lines_of-last line short.0 ∙ sym is)
      ∙ sym (map-append line_of turns last);
  short =
      let P : List (List ℕ) → Type 0 = λ ls. AreShort ls in
      subst P (sym (map-append line_of turns last)) (short_then (map line_of turns) (map line_of last) h.short (subst P (sym is) (short_last line short)));
  within = omega (arith, h.count, total_is, within, length-append h.read more);
  ahead = omega (arith, fits, ap length h.parts, ap length cut, length-append h.read more, length-append (ended_lines turns) old.bytes, length-append old.bytes more, ap length (flat_map-append ended_line turns last), length-append (ended_lines turns) (ended_lines last));
}

-- the turns are the first lines
pub first_of : {l1 l2 : Option (List ℕ)} {turns : List Turn} {pending : List ℕ} {total : ℕ} → HasRead l1 l2 turns pending total → length pending ≤ piece_size → ReadsFirst l1 l2 turns
first_of {l1} {l2} {turns} {pending} {total} h few = record {
  read = h.read;
  taken = h.taken;
  lines = inl (λ tail. (lines_of (pending ++ tail), h.lines tail));
  short = h.short;
  ahead = omega (arith, few, ap length h.parts, length-append (ended_lines turns) pending);
}

pub first_whole : {l1 l2 : Option (List ℕ)} {turns : List Turn} → ReadsWhole l1 l2 turns → ReadsFirst l1 l2 turns
first_whole {l1} {l2} {turns} h = record {
  read = h.read;
  taken = h.taken;
  lines = inr (h.at_end, h.lines);
  short = h.short;
  ahead = omega (arith, h.ahead);
}
