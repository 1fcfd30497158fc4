-- Texts without a byte at one of their ends.
use Rattle.std.proofs.Common.{◌≡◌, ◌≢◌, ℕ, ◌-◌, List, [], ◌∷◌, ◌++◌, refl, length, take, arith}
use Rattle.std.proofs.lemmas.Grind.{common_steps}
use Rattle.std.specs.Io.BufRead.{strip_last}
use Rattle.service_url.specs.Services.{strip_first}

pub strip_first-there : (byte : ℕ) (rest text : List ℕ) → text ≡ byte ∷ rest → rest ≡ strip_first byte text
strip_first-there byte rest text e = rw e (grind (arith, common_steps))

pub strip_first-absent : (byte : ℕ) (text : List ℕ) → ((rest : List ℕ) → text ≢ byte ∷ rest) → text ≡ strip_first byte text
strip_first-absent byte [] none = refl
strip_first-absent byte (x ∷ xs) none = grind (arith, common_steps, none xs)

pub strip_last-there : (byte : ℕ) (front text : List ℕ) → text ≡ front ++ byte ∷ [] → front ≡ strip_last byte text
strip_last-there byte front text e = rw e (grind (arith, common_steps))

pub strip_last-absent : (byte : ℕ) (text : List ℕ) → ((front : List ℕ) → text ≢ front ++ byte ∷ []) → text ≡ strip_last byte text
strip_last-absent byte text none = grind (arith, common_steps, none (take (length text - 1) text))
