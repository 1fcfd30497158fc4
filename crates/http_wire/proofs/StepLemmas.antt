-- The steps of a chunked body, from the calls that they make.
use Rattle.std.proofs.Common.{◌≡◌, ℕ, ◌+◌, ◌<◌, ◌≤◌, List, ◌++◌, length, length-append, Option, refl, sym, ap, subst, ◌∙◌, arith, append_assoc}
use Rattle.std.specs.Io.KnownBytes.{Consumes}
use Rattle.edge_kit.proofs.TellingLemmas.{Consumes-trans}
use Rattle.httparse.specs.Ascii.{crlf_bytes}
use Rattle.http_wire.specs.Fronts.{Within, StopsWithin}
use Rattle.http_wire.specs.Heads.{IsChunkText, IsTrailerText, IsCrlfText, head_limit}
use Rattle.http_wire.specs.Framings.{body_limit}
use Rattle.http_wire.specs.Chunks.{SaysSize, IsNoChunk, no_line, cut_short, no_end, no_trailer}
use Rattle.http_wire.specs.Sizes.{Gains, StopsShort}
use Rattle.http_wire.specs.Steps.{Took, AddsChunk, EndsChunks, PassesBy}

-- a line that says this size was taken
abbrev pub TookSize : Option (List ℕ) → Option (List ℕ) → ℕ → Type 0
TookSize a b size = Took a b (λ line. SaysSize line size)

pub line_stuck : (n : ℕ) (a b : Option (List ℕ)) → Took a b (λ taken. StopsWithin IsChunkText head_limit taken b) → Took a b (λ taken. IsNoChunk n taken b)
line_stuck n a b t = record { bytes = t.bytes; taken = t.taken; holds = no_line t.holds }

pub trailer_read : (a b c : Option (List ℕ)) (body trailer : List ℕ) → TookSize a b 0 → Consumes b c trailer → Within IsTrailerText head_limit trailer → Took a c (EndsChunks body body)
trailer_read a b c body trailer line taken fields = record {
  bytes = line.bytes ++ trailer;
  taken = Consumes-trans a b c line.bytes trailer line.taken taken;
  holds = record { last = line.bytes; size = line.holds; trailer = trailer; fields = fields; text = refl; body = refl };
}

pub trailer_stuck : (n : ℕ) (a b c : Option (List ℕ)) (tail : List ℕ) → TookSize a b 0 → Consumes b c tail → StopsWithin IsTrailerText head_limit tail c → Took a c (λ t. IsNoChunk n t c)
trailer_stuck n a b c tail line taken stuck = record {
  bytes = line.bytes ++ tail;
  taken = Consumes-trans a b c line.bytes tail line.taken taken;
  holds = no_trailer line.bytes tail line.holds stuck refl;
}

pub limit_passed : (a b : Option (List ℕ)) (size : ℕ) (body : List ℕ) → TookSize a b size → body_limit < length body + size → Took a b (PassesBy body)
limit_passed a b size body line over = record { bytes = line.bytes; taken = line.taken; holds = record { size = size; says = line.holds; over = over } }

pub stops_short : (n : ℕ) (a b c : Option (List ℕ)) (size : ℕ) → TookSize a b size → n + size ≤ body_limit → StopsShort b c size → Took a c (λ t. IsNoChunk n t c)
stops_short n a b c size line within s = record {
  bytes = line.bytes ++ s.bytes;
  taken = Consumes-trans a b c line.bytes s.bytes line.taken s.taken;
  holds = cut_short line.bytes s.bytes size line.holds within s.short s.end refl;
}

sized_line : (line bytes : List ℕ) (size : ℕ) → SaysSize line size → length bytes ≡ size → SaysSize line (length bytes)
sized_line line bytes size s e = let P : ℕ → Type 0 = SaysSize line in subst P (sym e) s

pub chunk_read : (a b c d : Option (List ℕ)) (size : ℕ) (before now end : List ℕ) → TookSize a b size → 0 < size → length before + size ≤ body_limit → Gains b c size before now → Consumes c d end → end ≡ crlf_bytes → Took a d (AddsChunk before now)
chunk_read a b c d size before now end line some within gains taken e =
    let both = Consumes-trans a b c line.bytes gains.bytes line.taken gains.taken in
    let count : length gains.bytes ≡ size = gains.count in
    record {
      bytes = (line.bytes ++ gains.bytes) ++ end;
      taken = Consumes-trans a c d (line.bytes ++ gains.bytes) end both taken;
      holds = record {
        chunk = record { line = line.bytes; bytes = gains.bytes };
        is = record { size = sized_line line.bytes gains.bytes size line.holds gains.count; some = omega arith };
        text = append_assoc line.bytes gains.bytes end ∙ ap (λ t. line.bytes ++ (gains.bytes ++ t)) e;
        body = gains.body;
        within = omega (arith, ap length gains.body, length-append {A = ℕ});
      };
    }

pub crlf_stuck : (a b c d : Option (List ℕ)) (size : ℕ) (before now tail : List ℕ) → TookSize a b size → 0 < size → length before + size ≤ body_limit → Gains b c size before now → Consumes c d tail → StopsWithin IsCrlfText 2 tail d → Took a d (λ t. IsNoChunk (length before) t d)
crlf_stuck a b c d size before now tail line some within gains taken stuck =
    let both = Consumes-trans a b c line.bytes gains.bytes line.taken gains.taken in
    let count : length gains.bytes ≡ size = gains.count in
    record {
      bytes = (line.bytes ++ gains.bytes) ++ tail;
      taken = Consumes-trans a c d (line.bytes ++ gains.bytes) tail both taken;
      holds = no_end line.bytes gains.bytes tail (sized_line line.bytes gains.bytes size line.holds gains.count) (omega arith) (omega arith) stuck (append_assoc line.bytes gains.bytes tail);
    }
