-- Heads and lines end in LF.
use Rattle.std.proofs.Common.{◌≡◌, ℕ, List, [], ◌∷◌, ◌++◌, refl, sym, ap, ◌∙◌, append_assoc}
use Rattle.std.proofs.lemmas.List.{append-nil}
use Rattle.httparse.specs.Grammar.{LineEnd, crlf, lf, print_end, Field, print_section, RequestHead, print_request, ResponseHead, print_response, ChunkLine, print_chunk_line}
use Rattle.http_wire.specs.Fronts.{EndsInLf}
use Rattle.http_wire.specs.Heads.{IsRequestText, IsResponseText, IsChunkText, IsTrailerText, IsCrlfText}

ends_append : (a b : List ℕ) → EndsInLf b → EndsInLf (a ++ b)
ends_append a b e = record { front = a ++ e.front; split = ap (λ t. a ++ t) e.split ∙ sym (append_assoc a e.front (10 ∷ [])) }

end_ends : (e : LineEnd) → EndsInLf (print_end e)
end_ends crlf = record { front = 13 ∷ []; split = refl }
end_ends lf = record { front = []; split = refl }

section_ends : (fields : List Field) (last : LineEnd) → EndsInLf (print_section fields last)
section_ends fields last = ends_append _ (print_end last) (end_ends last)

same_ends : (text printed : List ℕ) → text ≡ printed ++ [] → EndsInLf printed → EndsInLf text
same_ends text printed e p = record { front = p.front; split = e ∙ append-nil printed ∙ p.split }

request_print_ends : (h : RequestHead) → EndsInLf (print_request h)
unfolding print_request
request_print_ends h = ends_append _ (print_section h.fields h.last) (section_ends h.fields h.last)

pub request_ends : (text : List ℕ) → IsRequestText text → EndsInLf text
request_ends text f = same_ends text (print_request f.0) f.1.reads.1 (request_print_ends f.0)

response_print_ends : (h : ResponseHead) → EndsInLf (print_response h)
unfolding print_response
response_print_ends h = ends_append _ (print_section h.fields h.last) (section_ends h.fields h.last)

pub response_ends : (text : List ℕ) → IsResponseText text → EndsInLf text
response_ends text f = same_ends text (print_response f.0) f.1.reads.1 (response_print_ends f.0)

chunk_print_ends : (l : ChunkLine) → EndsInLf (print_chunk_line l)
unfolding print_chunk_line
chunk_print_ends l = ends_append _ (print_end crlf) (end_ends crlf)

pub chunk_ends : (text : List ℕ) → IsChunkText text → EndsInLf text
chunk_ends text f = same_ends text (print_chunk_line f.0) f.1.1 (chunk_print_ends f.0)

pub trailer_ends : (text : List ℕ) → IsTrailerText text → EndsInLf text
trailer_ends text f = same_ends text (print_section f.0 f.1) f.2.reads.1 (section_ends f.0 f.1)

pub crlf_ends : (text : List ℕ) → IsCrlfText text → EndsInLf text
crlf_ends text e = record { front = 13 ∷ []; split = e }
