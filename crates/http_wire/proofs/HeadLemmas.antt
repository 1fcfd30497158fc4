-- What the parser's answers say of the forms.
use Rattle.std.proofs.Common.{◌≡◌, ℕ, ◌≤◌, List, [], ◌∷◌, ◌++◌, length, take, drop, map, refl, sym, ap, subst, ◌∙◌, arith, length-take}
use Rattle.std.proofs.lemmas.List.{append-nil}
use Rattle.httparse.specs.declared.spans.HeaderSpan.{HeaderSpan}
use Rattle.httparse.specs.declared.spans.RequestSpans.{RequestSpans}
use Rattle.httparse.specs.declared.spans.ResponseSpans.{ResponseSpans}
use Rattle.httparse.specs.Grammar.{print_request, print_response, print_section, print_chunk_line, HasNoRequest, HasNoResponse, HasNoSection, HasNoChunkLine, NeverHasChunkLine, ChunkLine, ReadsChunkLine}
use Rattle.httparse.specs.Spans.{IsRequestOf, IsResponseOf, IsSectionOf, IsChunkLineAt, RequestOverflows, ResponseOverflows, SectionOverflows}
use Rattle.httparse.proofs.ChunkLemmas.{Chunk_deterministic, chunk_pieces}
use Rattle.http_wire.specs.Fronts.{HasFront, HasNoFront, NeverHasFront, Within}
use Rattle.http_wire.specs.Chunks.{SaysSize}
use Rattle.http_wire.specs.Heads.{IsRequestText, IsResponseText, IsChunkText, IsTrailerText, head_limit}

same_length : {A B C : Type 0} (f : A → C) (g : B → C) (xs : List A) (ys : List B) → map f xs ≡ map g ys → length ys ≡ length xs
same_length f g [] [] e = refl
same_length f g [] (y ∷ ys) e = absurd (let k : [] ≡ g y ∷ map g ys = e in cc)
same_length f g (x ∷ xs) [] e = absurd (let k : f x ∷ map f xs ≡ [] = e in cc)
same_length f g (x ∷ xs) (y ∷ ys) e =
    let k : f x ∷ map f xs ≡ g y ∷ map g ys = e in
    let tail : map f xs ≡ map g ys = cc in
    let below = same_length f g xs ys tail in
    omega arith

few : {A B C : Type 0} (f : A → C) (g : B → C) (n : ℕ) (xs : List A) (ys : List B) → map f (take n xs) ≡ map g ys → length xs ≡ 64 → length ys ≤ 64
few {A} f g n xs ys e full = omega (arith, same_length f g (take n xs) ys e, length-take n xs)

-- ---- requests

pub request_whole : (buf : List ℕ) (headers : List HeaderSpan) (r : RequestSpans) → length headers ≡ 64 → IsRequestOf buf headers r → HasFront IsRequestText buf
request_whole buf headers r full of = record {
  text = print_request of.0;
  rest = drop r.len buf;
  form = (of.0, record { reads = (of.1.reads.0, sym (append-nil (print_request of.0))); few = few _ _ r.headers headers of.0.fields of.1.fields full });
  split = of.1.reads.1;
}

pub request_partial : (buf : List ℕ) → HasNoRequest buf → HasNoFront IsRequestText buf
request_partial buf h = record {
  none = λ text rest f e. h f.0 rest (f.1.reads.0, e ∙ ap (λ t. t ++ rest) (f.1.reads.1 ∙ append-nil (print_request f.0)));
}

pub request_never : (room : ℕ) (buf : List ℕ) → room ≡ 64 → RequestOverflows room buf → NeverHasFront IsRequestText buf
request_never room buf full o = record {
  none = λ more text rest f e.
      let over = o more f.0 rest (f.1.reads.0, e ∙ ap (λ t. t ++ rest) (f.1.reads.1 ∙ append-nil (print_request f.0))) in
      let small = f.1.few in
      absurd (omega (arith, over, small));
}

-- ---- responses

pub response_whole : (buf : List ℕ) (headers : List HeaderSpan) (r : ResponseSpans) → length headers ≡ 64 → IsResponseOf buf headers r → HasFront IsResponseText buf
response_whole buf headers r full of = record {
  text = print_response of.0;
  rest = drop r.len buf;
  form = (of.0, record { reads = (of.1.reads.0, sym (append-nil (print_response of.0))); few = few _ _ r.headers headers of.0.fields of.1.fields full });
  split = of.1.reads.1;
}

pub response_partial : (buf : List ℕ) → HasNoResponse buf → HasNoFront IsResponseText buf
response_partial buf h = record {
  none = λ text rest f e. h f.0 rest (f.1.reads.0, e ∙ ap (λ t. t ++ rest) (f.1.reads.1 ∙ append-nil (print_response f.0)));
}

pub response_never : (room : ℕ) (buf : List ℕ) → room ≡ 64 → ResponseOverflows room buf → NeverHasFront IsResponseText buf
response_never room buf full o = record {
  none = λ more text rest f e.
      let over = o more f.0 rest (f.1.reads.0, e ∙ ap (λ t. t ++ rest) (f.1.reads.1 ∙ append-nil (print_response f.0))) in
      let small = f.1.few in
      absurd (omega (arith, over, small));
}

-- ---- the fields after the last chunk

pub trailer_whole : (buf : List ℕ) (headers : List HeaderSpan) (r : ℕ × ℕ) → length headers ≡ 64 → IsSectionOf buf 0 headers r → HasFront IsTrailerText buf
trailer_whole buf headers r full of = record {
  text = print_section of.0 of.1;
  rest = drop r.0 buf;
  form = (of.0, of.1, record { reads = (of.2.reads.0, sym (append-nil (print_section of.0 of.1))); few = few _ _ r.1 headers of.0 of.2.fields_are full });
  split = of.2.reads.1;
}

pub trailer_partial : (buf : List ℕ) → HasNoSection buf → HasNoFront IsTrailerText buf
trailer_partial buf h = record {
  none = λ text rest f e. h f.0 f.1 rest (f.2.reads.0, e ∙ ap (λ t. t ++ rest) (f.2.reads.1 ∙ append-nil (print_section f.0 f.1)));
}

pub trailer_never : (room : ℕ) (buf : List ℕ) → room ≡ 64 → SectionOverflows room buf → NeverHasFront IsTrailerText buf
trailer_never room buf full o = record {
  none = λ more text rest f e.
      let over = o more f.0 f.1 rest (f.2.reads.0, e ∙ ap (λ t. t ++ rest) (f.2.reads.1 ∙ append-nil (print_section f.0 f.1))) in
      let small = f.2.few in
      absurd (omega (arith, over, small));
}

-- ---- the line of a chunk

pub chunk_whole : (buf : List ℕ) (len size : ℕ) → (l : ChunkLine) × IsChunkLineAt buf len size l → HasFront IsChunkText buf
chunk_whole buf len size of = record {
  text = print_chunk_line of.0;
  rest = drop len buf;
  form = (of.0, (of.1.reads.0, sym (append-nil (print_chunk_line of.0))));
  split = of.1.reads.1;
}

pub chunk_partial : (buf : List ℕ) → HasNoChunkLine buf → HasNoFront IsChunkText buf
chunk_partial buf h = record {
  none = λ text rest f e. h f.0 rest (f.1.0, e ∙ ap (λ t. t ++ rest) (f.1.1 ∙ append-nil (print_chunk_line f.0)));
}

pub chunk_never : (buf : List ℕ) → NeverHasChunkLine buf → NeverHasFront IsChunkText buf
chunk_never buf h = record {
  none = λ more text rest f e. h more f.0 rest (f.1.0, e ∙ ap (λ t. t ++ rest) (f.1.1 ∙ append-nil (print_chunk_line f.0)));
}

-- the size that the parser answers for a line is the one that it says
pub size_says : (line : List ℕ) (len size : ℕ) → Within IsChunkText head_limit line → (l : ChunkLine) × IsChunkLineAt line len size l → SaysSize line size
size_says line len size within of =
    let l = within.form.0 in
    let same = Chunk_deterministic.unique (of.0.digits, (of.0.pad, of.0.extension)) (l.digits, (l.pad, l.extension)) line (drop len line) []
    (chunk_pieces line of.0 (drop len line) of.1.reads) (chunk_pieces line l [] within.form.1) in
    let R : List ℕ → Type 0 = ReadsChunkLine line of.0 in
    record { tree = of.0; reads = subst R same.1 of.1.reads; size_is = of.1.size_is; short = within.short }
