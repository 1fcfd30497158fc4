-- Texts with a byte at their end, and without.
use Rattle.std.proofs.Common.{◌≡◌, ◌≢◌, ℕ, ◌-◌, List, [], ◌∷◌, ◌++◌, length, take, true, false, refl, ◌∙◌, ap, arith}
use Rattle.std.proofs.lemmas.Grind.{common_steps}
use Rattle.std.specs.Io.BufRead.{ends_with_byte, strip_last}
use Rattle.plan_places.specs.TokenFiles.{without_line_end}

pub strip_last-there : (byte : ℕ) (front text : List ℕ) → text ≡ front ++ byte ∷ [] → front ≡ strip_last byte text
strip_last-there byte front text e = rw e (grind (arith, common_steps))

pub strip_last-absent : (byte : ℕ) (text : List ℕ) → ((front : List ℕ) → text ≢ front ++ byte ∷ []) → text ≡ strip_last byte text
strip_last-absent byte text none = grind (arith, common_steps, none (take (length text - 1) text))

ends_there : (byte : ℕ) (front text : List ℕ) → text ≡ front ++ byte ∷ [] → ends_with_byte byte text ≡ true
ends_there byte front text e = rw e (grind (arith, common_steps))

ends_absent : (byte : ℕ) (text : List ℕ) → ((front : List ℕ) → text ≢ front ++ byte ∷ []) → ends_with_byte byte text ≡ false
ends_absent byte text none = grind (arith, common_steps, none (take (length text - 1) text))

ended : (text : List ℕ) → ends_with_byte 10 text ≡ true → strip_last 13 (strip_last 10 text) ≡ without_line_end text
ended text ends = rw ends refl

pub without_line_end-there : (line rest text : List ℕ) → text ≡ line ++ 10 ∷ [] → rest ≡ strip_last 13 line → rest ≡ without_line_end text
without_line_end-there line rest text split cut = cut ∙ ap (strip_last 13) (strip_last-there 10 line text split) ∙ ended text (ends_there 10 line text split)

pub without_line_end-absent : (text : List ℕ) → ((line : List ℕ) → text ≢ line ++ 10 ∷ []) → text ≡ without_line_end text
without_line_end-absent text none = rw (ends_absent 10 text none) refl
