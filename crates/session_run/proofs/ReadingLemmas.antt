-- What is read piece after piece.
use Rattle.std.proofs.Common.{◌≡◌, ℕ, ◌+◌, ◌<◌, ◌≤◌, min, List, [], ◌++◌, length, length-append, refl, sym, ◌∙◌, ap, subst, arith, append_assoc, Option}
use Rattle.std.specs.Io.KnownBytes.{Consumes}
use Rattle.std.proofs.lemmas.List.{append-nil}
use Rattle.edge_kit.proofs.TellingLemmas.{Consumes-nil, Consumes-trans}
use Rattle.program_end.specs.Limits.{input_limit}
use Rattle.session_run.specs.Lines.{IsShortLine}
use Rattle.session_run.specs.Reading.{Pending, ReadsAhead, ReadsMore, ReadsPiece}

-- nothing more was read
pub ahead_none : (held : List ℕ) → ReadsAhead held []
ahead_none held = record { front = []; last = []; parts = refl; piece = omega arith; needed = λ some. absurd (omega (arith, some)) }

pub reads_none : (left : Option (List ℕ)) (p : Pending) → p.total ≤ input_limit → ReadsMore left left p p
reads_none left p within = record { more = []; taken = Consumes-nil left; bytes = sym (append-nil p.bytes); total = omega arith; ahead = ahead_none p.bytes }

-- a piece more was read where one line was held that is within the limit and not yet ended
pub reads_on : {l1 l2 l3 : Option (List ℕ)} {p q r : Pending} → ReadsMore l1 l2 p q → ReadsPiece l2 l3 q r → IsShortLine q.bytes → ReadsMore l1 l3 p r
reads_on {l1} {l2} {l3} {p} {q} {r} a b short = record {
  more = a.more ++ b.more;
  taken = Consumes-trans l1 l2 l3 a.more b.more a.taken b.taken;
  bytes = b.bytes ∙ ap (λ l. l ++ b.more) a.bytes ∙ append_assoc p.bytes a.more b.more;
  total = omega (arith, a.total, b.total, length-append a.more b.more);
  ahead = record { front = a.more; last = b.more; parts = refl; piece = b.piece; needed = λ some. let S : List ℕ → Type 0 = λ l. IsShortLine l in subst S a.bytes short };
}
