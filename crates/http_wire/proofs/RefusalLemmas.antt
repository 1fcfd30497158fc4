-- Where a request stands none is refused.
use Rattle.std.proofs.Common.{◌≡◌, ◌⊎◌, inl, inr, ℕ, ◌+◌, ◌<◌, ◌≤◌, Bool, true, false, List, [], ◌∷◌, ◌++◌, length, length-append, map, All, Some, None, refl, sym, ap, subst, ◌∙◌, arith, append_assoc}
use Rattle.std.proofs.lemmas.List.Elements.{All-head, All-tail}
use Rattle.httparse.specs.Ascii.{crlf_bytes}
use Rattle.httparse.specs.Grammar.{RequestHead, ReadsRequest}
use Rattle.httparse.specs.Spans.{name_and_value}
use Rattle.httparse.proofs.GrammarLemmas.{request_unique, ReadsRequest-append}
use Rattle.http_wire.specs.declared.framing.Framing.{Framing}
use Rattle.http_wire.specs.declared.framing.Framing.TheVariants.{Unsaid, Sized, Chunked, Bad}
use Rattle.http_wire.specs.declared.message.Request.{Request}
use Rattle.http_wire.specs.declared.message.WireFault.{WireFault}
use Rattle.http_wire.specs.declared.message.WireFault.TheVariants as fault
use Rattle.http_wire.specs.Fronts.{Within}
use Rattle.http_wire.specs.Heads.{IsRequestText, IsChunkText, IsTrailerText, IsCrlfText, head_limit}
use Rattle.http_wire.specs.Framings.{Pair, framing_of, body_limit}
use Rattle.http_wire.specs.Parts.{parts_of}
use Rattle.http_wire.specs.Chunks.{SaysSize, Chunk, IsChunk, print_chunks, chunk_bytes, IsNoChunk, no_line, cut_short, no_end, no_trailer}
use Rattle.http_wire.specs.Bodies.{IsBody, IsNoBody, IsLongBody}
use Rattle.http_wire.specs.Messages.{SpellsRequest, BeginsRequest, IsNoRequest}
use Rattle.http_wire.proofs.FrontLemmas.{stops_whole}
use Rattle.http_wire.proofs.UniqueLemmas.{same_front, line_unique, cons_split, last_no_chunk, chunked_stream}

-- a line that says a size is one of the forms
line_form : (line : List ℕ) (size : ℕ) → SaysSize line size → Within IsChunkText head_limit line
line_form line size s = record { form = (s.tree, s.reads); short = s.short }

-- no chunk stands where one was read
chunk_stands : (n : ℕ) (c : Chunk) (rest w b : List ℕ) → IsChunk c → IsNoChunk n w (Some b) → c.line ++ ((c.bytes ++ crlf_bytes) ++ rest) ≡ w ++ b → ⊥
chunk_stands n c rest w b is (no_line stuck) e = (stops_whole IsChunkText head_limit w b stuck).none c.line ((c.bytes ++ crlf_bytes) ++ rest) (line_form c.line (length c.bytes) is.size) (sym e)
chunk_stands n c rest w b is (cut_short line bytes size says within short end split) e =
    let lines = line_unique c.line ((c.bytes ++ crlf_bytes) ++ rest) line (bytes ++ b) (length c.bytes) size is.size says (e ∙ ap (λ u. u ++ b) split ∙ append_assoc line bytes b) in
    let counts : length ((c.bytes ++ crlf_bytes) ++ rest) ≡ length (bytes ++ b) = ap length lines.2 in
    absurd (omega (arith, counts, lines.1, short, ap length end, length-append (c.bytes ++ crlf_bytes) rest, length-append c.bytes crlf_bytes, length-append bytes b))
chunk_stands n c rest w b is (no_end line bytes tail says some within stuck split) e =
    let lines = line_unique c.line ((c.bytes ++ crlf_bytes) ++ rest) line (bytes ++ (tail ++ b)) (length c.bytes) (length bytes) is.size says
    (e ∙ ap (λ u. u ++ b) split ∙ append_assoc line (bytes ++ tail) b ∙ ap (λ u. line ++ u) (append_assoc bytes tail b)) in
    let parts = same_front c.bytes (crlf_bytes ++ rest) bytes (tail ++ b) (sym (append_assoc c.bytes crlf_bytes rest) ∙ lines.2) lines.1 in
    (stops_whole IsCrlfText 2 tail b stuck).none crlf_bytes rest (record { form = refl; short = omega arith }) (sym parts.1)
chunk_stands n c rest w b is (no_trailer line tail says stuck split) e =
    let lines = line_unique c.line ((c.bytes ++ crlf_bytes) ++ rest) line (tail ++ b) (length c.bytes) 0 is.size says (e ∙ ap (λ u. u ++ b) split ∙ append_assoc line tail b) in
    let some : 0 < length c.bytes = is.some in
    absurd (omega (arith, lines.1, some))

-- nor where the last was
last_stands : (n : ℕ) (l t a w b : List ℕ) → SaysSize l 0 → Within IsTrailerText head_limit t → IsNoChunk n w (Some b) → l ++ (t ++ a) ≡ w ++ b → ⊥
last_stands n l t a w b s f (no_line stuck) e = (stops_whole IsChunkText head_limit w b stuck).none l (t ++ a) (line_form l 0 s) (sym e)
last_stands n l t a w b s f (cut_short line bytes size says within short end split) e =
    let lines = line_unique l (t ++ a) line (bytes ++ b) 0 size s says (e ∙ ap (λ u. u ++ b) split ∙ append_assoc line bytes b) in
    absurd (omega (arith, lines.1, short))
last_stands n l t a w b s f (no_end line bytes tail says some within stuck split) e =
    let lines = line_unique l (t ++ a) line (bytes ++ (tail ++ b)) 0 (length bytes) s says
    (e ∙ ap (λ u. u ++ b) split ∙ append_assoc line (bytes ++ tail) b ∙ ap (λ u. line ++ u) (append_assoc bytes tail b)) in
    absurd (omega (arith, lines.1, some))
last_stands n l t a w b s f (no_trailer line tail says stuck split) e =
    let lines = line_unique l (t ++ a) line (tail ++ b) 0 0 s says (e ∙ ap (λ u. u ++ b) split ∙ append_assoc line tail b) in
    (stops_whole IsTrailerText head_limit tail b stuck).none t a f (sym lines.2)

-- the rest after two chunks that stand at one place
rest_same : (c d : Chunk) (x y : List ℕ) → IsChunk c → IsChunk d → c.line ++ ((c.bytes ++ crlf_bytes) ++ x) ≡ d.line ++ ((d.bytes ++ crlf_bytes) ++ y) → (length c.bytes ≡ length d.bytes) × (x ≡ y)
rest_same c d x y p q e =
    let lines = line_unique c.line ((c.bytes ++ crlf_bytes) ++ x) d.line ((d.bytes ++ crlf_bytes) ++ y) (length c.bytes) (length d.bytes) p.size q.size e in
    let count : length c.bytes ≡ length d.bytes = lines.1 in (
      count,
      (same_front (c.bytes ++ crlf_bytes) x (d.bytes ++ crlf_bytes) y lines.2
          (length-append c.bytes crlf_bytes ∙ ap (λ n. n + length crlf_bytes) count ∙ sym (length-append d.bytes crlf_bytes))).1,
    )

chunks_stand : (n : ℕ) (cs ds : List Chunk) (l t a w b : List ℕ) → All IsChunk cs → All IsChunk ds → SaysSize l 0 → Within IsTrailerText head_limit t → IsNoChunk n w (Some b)
    → print_chunks cs ++ (l ++ (t ++ a)) ≡ print_chunks ds ++ (w ++ b) → ⊥
chunks_stand n [] [] l t a w b p q s f bad e = last_stands n l t a w b s f bad e
chunks_stand n (c ∷ cs) [] l t a w b p q s f bad e =
    chunk_stands n c (print_chunks cs ++ (l ++ (t ++ a))) w b (All-head IsChunk c cs p) bad (sym (cons_split c cs (l ++ (t ++ a))) ∙ e)
chunks_stand n [] (d ∷ ds) l t a w b p q s f bad e = last_no_chunk l (t ++ a) d ds (w ++ b) s (All-head IsChunk d ds q) e
chunks_stand n (c ∷ cs) (d ∷ ds) l t a w b p q s f bad e =
    let rest = (rest_same c d (print_chunks cs ++ (l ++ (t ++ a))) (print_chunks ds ++ (w ++ b)) (All-head IsChunk c cs p) (All-head IsChunk d ds q) (sym (cons_split c cs (l ++ (t ++ a))) ∙ e ∙ cons_split d ds (w ++ b))).1 in
    chunks_stand n cs ds l t a w b (All-tail IsChunk c cs p) (All-tail IsChunk d ds q) s f bad rest

-- chunks within the limit pass it nowhere
chunks_within : (cs ds : List Chunk) (l m a b : List ℕ) (n size : ℕ) → All IsChunk cs → All IsChunk ds → SaysSize l 0 → SaysSize m size
    → n + length (chunk_bytes cs) ≤ body_limit → body_limit < (n + length (chunk_bytes ds)) + size
    → print_chunks cs ++ (l ++ a) ≡ print_chunks ds ++ (m ++ b) → ⊥
chunks_within [] [] l m a b n size p q s w within over e =
    let lines = line_unique l a m b 0 size s w e in
    absurd (omega (arith, lines.1, within, over))
chunks_within (c ∷ cs) [] l m a b n size p q s w within over e =
    let lines = line_unique c.line ((c.bytes ++ crlf_bytes) ++ (print_chunks cs ++ (l ++ a))) m b (length c.bytes) size (All-head IsChunk c cs p).size w (sym (cons_split c cs (l ++ a)) ∙ e) in
    absurd (omega (arith, lines.1, within, over, length-append c.bytes (chunk_bytes cs)))
chunks_within [] (d ∷ ds) l m a b n size p q s w within over e = last_no_chunk l a d ds (m ++ b) s (All-head IsChunk d ds q) e
chunks_within (c ∷ cs) (d ∷ ds) l m a b n size p q s w within over e =
    let rest = rest_same c d (print_chunks cs ++ (l ++ a)) (print_chunks ds ++ (m ++ b)) (All-head IsChunk c cs p) (All-head IsChunk d ds q) (sym (cons_split c cs (l ++ a)) ∙ e ∙ cons_split d ds (m ++ b)) in
    chunks_within cs ds l m a b (n + length c.bytes) size (All-tail IsChunk c cs p) (All-tail IsChunk d ds q) s w
    (omega (arith, within, length-append c.bytes (chunk_bytes cs)))
    (omega (arith, over, rest.0, length-append d.bytes (chunk_bytes ds)))
    rest.1

-- bodies
pub body_stands : (to_end : Bool) (f : Framing) (x a y b v : List ℕ) → IsBody to_end f x (Some a) v → IsNoBody f y (Some b) → x ++ a ≡ y ++ b → ⊥
body_stands to_end (Sized n) x a y b v s bad e =
    absurd (omega (arith, ap length e, length-append x a, length-append y b, ap length s.0, s.1, bad.1, ap length bad.2))
body_stands to_end Chunked x a y b v s bad e =
    chunks_stand (length bad.body) s.chunks bad.chunks s.last s.trailer a bad.tail b s.are.each bad.are.each s.size s.fields bad.wrong
    (sym (chunked_stream x v a s) ∙ e ∙ ap (λ u. u ++ b) (bad.split ∙ ap (λ u. u ++ bad.tail) bad.are.text_is) ∙ append_assoc (print_chunks bad.chunks) bad.tail b)
body_stands to_end Unsaid x a y b v s bad e = bad
body_stands to_end Bad x a y b v s bad e = s

pub body_within : (to_end : Bool) (f : Framing) (x a y b v : List ℕ) → IsBody to_end f x (Some a) v → IsLongBody to_end f y → x ++ a ≡ y ++ b → ⊥
body_within to_end (Sized n) x a y b v s long e = absurd (omega (arith, s.2, long.0))
body_within to_end Chunked x a y b v s long e =
    chunks_within s.chunks long.chunks s.last long.line (s.trailer ++ a) b 0 long.size s.are.each long.are.each s.size long.says
    (omega (arith, s.are.within, ap length s.are.body_is)) (omega (arith, long.over, ap length long.are.body_is))
    (sym (chunked_stream x v a s) ∙ e ∙ ap (λ u. u ++ b) (long.split ∙ ap (λ u. u ++ long.line) long.are.text_is) ∙ append_assoc (print_chunks long.chunks) long.line b)
body_within true Unsaid x a y b v s long e =
    absurd (omega (arith, ap length e, length-append x a, length-append y b, ap length s.0, s.1, ap length s.2, long.0))
body_within false Unsaid x a y b v s long e = long
body_within to_end Bad x a y b v s long e = s

-- requests that begin alike have the same fields, and the same after their heads
alike : (P : List Pair → List ℕ → Type 0) (x a y b : List ℕ) (r : Request) → (p : SpellsRequest x (Some a) r) (q : BeginsRequest P y) → x ++ a ≡ y ++ b
    → P (parts_of r.fields.items) q.tail × (p.tail ++ a ≡ q.tail ++ b)
alike P x a y b r p q e =
    let stream : p.head ++ (p.tail ++ a) ≡ q.head ++ (q.tail ++ b) = sym (append_assoc p.head p.tail a) ∙ ap (λ t. t ++ a) (sym p.split) ∙ e ∙ ap (λ t. t ++ b) q.split ∙ append_assoc q.head q.tail b in
    let R : List ℕ → Type 0 = λ u. ReadsRequest u q.tree (q.tail ++ b) in
    let same = request_unique (p.head ++ (p.tail ++ a)) p.tree q.tree (p.tail ++ a) (q.tail ++ b)
    (ReadsRequest-append p.head p.tree [] (p.tail ++ a) p.spells.reads)
    (subst R (sym stream) (ReadsRequest-append q.head q.tree [] (q.tail ++ b) q.spells.reads)) in
    let fields : parts_of r.fields.items ≡ map name_and_value q.tree.fields = p.has.fields ∙ ap (λ (h : RequestHead). map name_and_value h.fields) same.0 in
    let Q : List Pair → Type 0 = λ f. P f q.tail in
    (subst Q (sym fields) q.about, same.1)

pub stands : (x a y b : List ℕ) (r : Request) (f : WireFault) → SpellsRequest x (Some a) r → IsNoRequest y (Some b) f → x ++ a ≡ y ++ b → (f ≡ fault.Link) ⊎ (f ≡ fault.OutOfMemory)
stands x a y b r fault.BadHead p bad e =
    absurd ((stops_whole IsRequestText head_limit y b bad).none p.head (p.tail ++ a) (record { form = (p.tree, p.spells); short = p.short }) (sym e ∙ ap (λ u. u ++ a) p.split ∙ append_assoc p.head p.tail a))
stands x a y b r fault.BadBody p bad e =
    let same = alike _ x a y b r p bad e in
    absurd (body_stands false (framing_of (parts_of r.fields.items)) p.tail a bad.tail b r.body.items p.body same.0.1 same.1)
stands x a y b r (fault.TooLong n) p bad e =
    let same = alike _ x a y b r p bad e in
    absurd (body_within false (framing_of (parts_of r.fields.items)) p.tail a bad.tail b r.body.items p.body same.0.2 same.1)
stands x a y b r (fault.Encoded v) p bad e =
    let same = alike _ x a y b r p bad e in
    let clash : None ≡ Some v.items = sym p.plain ∙ same.0.0 in
    absurd (cc)
stands x a y b r fault.Link p bad e = inl refl
stands x a y b r fault.OutOfMemory p bad e = inr refl
