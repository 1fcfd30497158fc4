-- Bytes that are taken one after another.
use Rattle.std.proofs.Common.{ℕ, ◌+◌, ◌≤◌, List, [], ◌++◌, length, length-append, Option, subst, arith}
use Rattle.std.specs.Io.KnownBytes.{Consumes}
use Rattle.std.proofs.lemmas.List.{append-nil}
use Rattle.std.specs.Prelude.{⊤}
use Rattle.edge_kit.proofs.TellingLemmas.{Consumes-trans, Consumes-nil}
use Rattle.http_wire.specs.Steps.{Took, TookAtMost}

-- nothing more
pub taken-nothing : (a b c : Option (List ℕ)) (xs : List ℕ) → Consumes a b xs → Consumes b c [] → Consumes a c xs
taken-nothing a b c xs p q = let P : List ℕ → Type 0 = Consumes a c in subst P (append-nil xs) (Consumes-trans a b c xs [] p q)

-- more was taken, of which nothing is said
pub took_any : (a b c : Option (List ℕ)) (P Q : List ℕ → Type 0) → Took a b P → Took b c Q → Took a c (λ _. ⊤)
took_any a b c P Q t u = record { bytes = t.bytes ++ u.bytes; taken = Consumes-trans a b c t.bytes u.bytes t.taken u.taken; holds = tt }

pub took_any_after : (a b c d : Option (List ℕ)) (P Q : List ℕ → Type 0) (xs : List ℕ) → Took a b P → Consumes b c xs → Took c d Q → Took a d (λ _. ⊤)
took_any_after a b c d P Q xs t x u = record {
  bytes = (t.bytes ++ xs) ++ u.bytes;
  taken = Consumes-trans a c d (t.bytes ++ xs) u.bytes (Consumes-trans a b c t.bytes xs t.taken x) u.taken;
  holds = tt;
}

-- how many bytes were taken
pub at_most : (a b : Option (List ℕ)) (n : ℕ) (xs : List ℕ) → Consumes a b xs → length xs ≤ n → TookAtMost a b n
at_most a b n xs t short = record { bytes = xs; taken = t; holds = short }

pub at_most_none : (a : Option (List ℕ)) (n : ℕ) → TookAtMost a a n
at_most_none a n = record { bytes = []; taken = Consumes-nil a; holds = omega arith }

pub at_most_more : (a b c : Option (List ℕ)) (m n k : ℕ) → TookAtMost a b m → TookAtMost b c n → m + n ≤ k → TookAtMost a c k
at_most_more a b c m n k t u within =
    let s : length t.bytes ≤ m = t.holds in
    let r : length u.bytes ≤ n = u.holds in
    record {
      bytes = t.bytes ++ u.bytes;
      taken = Consumes-trans a b c t.bytes u.bytes t.taken u.taken;
      holds = omega (arith, s, r, within, length-append t.bytes u.bytes);
    }

pub at_most_within : (a b : Option (List ℕ)) (m n : ℕ) → TookAtMost a b m → m ≤ n → TookAtMost a b n
at_most_within a b m n t within =
    let s : length t.bytes ≤ m = t.holds in
    record { bytes = t.bytes; taken = t.taken; holds = omega (arith, s, within) }
