-- One reading: what a stream begins with is one message.
use Rattle.std.proofs.Common.{◌≡◌, ℕ, ◌+◌, ◌<◌, Bool, true, false, List, [], ◌∷◌, ◌++◌, length, length-append, map, All, Some, refl, sym, ap, subst, ◌∙◌, arith, append_assoc}
use Rattle.std.proofs.lemmas.List.{append-nil}
use Rattle.std.proofs.lemmas.List.Elements.{All-head, All-tail}
use Rattle.httparse.specs.Ascii.{crlf_bytes}
use Rattle.httparse.specs.Grammar.{RequestHead, ReadsRequest, print_request, ChunkLine, ReadsChunkLine, chunk_size, print_chunk_line, LineEnd, Field, ReadsSection, print_section}
use Rattle.httparse.proofs.ChunkLemmas.{Chunk_deterministic, chunk_pieces, chunk_line}
use Rattle.httparse.proofs.GrammarLemmas.{request_unique, ReadsRequest-append, section_unique, ReadsSection-append}
use Rattle.http_wire.specs.Heads.{SpellsRequestHead, IsTrailerText}
use Rattle.http_wire.specs.Chunks.{SaysSize, Chunk, print_chunk, IsChunk, print_chunks, chunk_bytes, SpellsChunked}
use Rattle.http_wire.specs.declared.framing.Framing.{Framing}
use Rattle.http_wire.specs.declared.framing.Framing.TheVariants.{Unsaid, Sized, Chunked, Bad}
use Rattle.http_wire.specs.declared.message.Request.{Request}
use Rattle.http_wire.specs.Framings.{Pair, framing_of}
use Rattle.http_wire.specs.Parts.{parts_of}
use Rattle.http_wire.specs.Bodies.{IsBody}
use Rattle.http_wire.specs.Messages.{SpellsRequest, IsSameRequest}
use Rattle.httparse.specs.Spans.{name_and_value}

-- two fronts of one list that are as long are one
pub same_front : (x a y b : List ℕ) → x ++ a ≡ y ++ b → length x ≡ length y → (x ≡ y) × (a ≡ b)
same_front [] a [] b e n = (refl, e)
same_front [] a (y ∷ ys) b e n = absurd (omega arith)
same_front (x ∷ xs) a [] b e n = absurd (omega arith)
same_front (x ∷ xs) a (y ∷ ys) b e n =
    let k : x ∷ (xs ++ a) ≡ y ∷ (ys ++ b) = e in
    let tail : xs ++ a ≡ ys ++ b = cc in
    let head : x ≡ y = cc in
    let below = same_front xs a ys b tail (omega arith) in
    let same : xs ≡ ys = below.0 in
    (cc, below.1)

-- lines of chunks
reads_line : (line rest : List ℕ) (l : ChunkLine) → ReadsChunkLine line l [] → ReadsChunkLine (line ++ rest) l rest
reads_line line rest l r = (r.0, ap (λ t. t ++ rest) (r.1 ∙ append-nil (print_chunk_line l)))

pub line_unique : (l a m b : List ℕ) (p q : ℕ) → SaysSize l p → SaysSize m q → l ++ a ≡ m ++ b → (l ≡ m) × (p ≡ q) × (a ≡ b)
line_unique l a m b p q s t e =
    let R : List ℕ → Type 0 = λ u. ReadsChunkLine u t.tree b in
    let same = Chunk_deterministic.unique (s.tree.digits, (s.tree.pad, s.tree.extension)) (t.tree.digits, (t.tree.pad, t.tree.extension)) (l ++ a) a b
    (chunk_pieces (l ++ a) s.tree a (reads_line l a s.tree s.reads))
    (chunk_pieces (l ++ a) t.tree b (subst R (sym e) (reads_line m b t.tree t.reads))) in
    let tree : s.tree ≡ t.tree = ap chunk_line same.0 in (
      s.reads.1 ∙ append-nil (print_chunk_line s.tree) ∙ ap print_chunk_line tree ∙ sym (t.reads.1 ∙ append-nil (print_chunk_line t.tree)),
      s.size_is ∙ ap chunk_size tree ∙ sym t.size_is,
      same.1,
    )

-- trailers
reads_trailer : (text rest : List ℕ) (fields : List Field) (last : LineEnd) → ReadsSection text fields last [] → ReadsSection (text ++ rest) fields last rest
reads_trailer text rest fields last r = ReadsSection-append text fields last [] rest r

pub trailer_unique : (x a y b : List ℕ) → IsTrailerText x → IsTrailerText y → x ++ a ≡ y ++ b → (x ≡ y) × (a ≡ b)
trailer_unique x a y b s t e =
    let R : List ℕ → Type 0 = λ u. ReadsSection u t.0 t.1 b in
    let same = section_unique (x ++ a) s.0 t.0 s.1 t.1 a b (reads_trailer x a s.0 s.1 s.2.reads) (subst R (sym e) (reads_trailer y b t.0 t.1 t.2.reads)) in (
      s.2.reads.1 ∙ append-nil (print_section s.0 s.1) ∙ ap (λ (f : List Field). print_section f s.1) same.0 ∙ ap (λ (d : LineEnd). print_section t.0 d) same.1 ∙ sym (t.2.reads.1 ∙ append-nil (print_section t.0 t.1)),
      same.2,
    )

pub cons_split : (d : Chunk) (ds : List Chunk) (rest : List ℕ) → print_chunks (d ∷ ds) ++ rest ≡ d.line ++ ((d.bytes ++ crlf_bytes) ++ (print_chunks ds ++ rest))
cons_split d ds rest = append_assoc (print_chunk d) (print_chunks ds) rest ∙ append_assoc d.line (d.bytes ++ crlf_bytes) (print_chunks ds ++ rest)

-- a chunk isn't the last
pub last_no_chunk : (l x : List ℕ) (d : Chunk) (ds : List Chunk) (rest : List ℕ) → SaysSize l 0 → IsChunk d → l ++ x ≡ print_chunks (d ∷ ds) ++ rest → ⊥
last_no_chunk l x d ds rest s is e =
    let size = (line_unique l x d.line ((d.bytes ++ crlf_bytes) ++ (print_chunks ds ++ rest)) 0 (length d.bytes) s is.size (e ∙ cons_split d ds rest)).1 in
    let some : 0 < length d.bytes = is.some in
    absurd (omega (arith, size, some))

-- chunks and what ends them, in one way
pub chunks_unique : (cs ds : List Chunk) (l m t u a b : List ℕ) → All IsChunk cs → All IsChunk ds → SaysSize l 0 → SaysSize m 0 → IsTrailerText t → IsTrailerText u
    → print_chunks cs ++ (l ++ (t ++ a)) ≡ print_chunks ds ++ (m ++ (u ++ b)) → (cs ≡ ds) × (l ≡ m) × (t ≡ u) × (a ≡ b)
chunks_unique [] [] l m t u a b p q s w y z e =
    let lines = line_unique l (t ++ a) m (u ++ b) 0 0 s w e in
    let trailers = trailer_unique t a u b y z lines.2 in
    (refl, lines.0, trailers.0, trailers.1)
chunks_unique [] (d ∷ ds) l m t u a b p q s w y z e = absurd (last_no_chunk l (t ++ a) d ds (m ++ (u ++ b)) s (All-head IsChunk d ds q) e)
chunks_unique (c ∷ cs) [] l m t u a b p q s w y z e = absurd (last_no_chunk m (u ++ b) c cs (l ++ (t ++ a)) w (All-head IsChunk c cs p) (sym e))
chunks_unique (c ∷ cs) (d ∷ ds) l m t u a b p q s w y z e =
    let first = All-head IsChunk c cs p in
    let other = All-head IsChunk d ds q in
    let lines = line_unique c.line ((c.bytes ++ crlf_bytes) ++ (print_chunks cs ++ (l ++ (t ++ a)))) d.line ((d.bytes ++ crlf_bytes) ++ (print_chunks ds ++ (m ++ (u ++ b))))
    (length c.bytes) (length d.bytes) first.size other.size (sym (cons_split c cs (l ++ (t ++ a))) ∙ e ∙ cons_split d ds (m ++ (u ++ b))) in
    let count : length c.bytes ≡ length d.bytes = lines.1 in
    let fronts = same_front (c.bytes ++ crlf_bytes) (print_chunks cs ++ (l ++ (t ++ a))) (d.bytes ++ crlf_bytes) (print_chunks ds ++ (m ++ (u ++ b))) lines.2
    (length-append c.bytes crlf_bytes ∙ ap (λ n. n + length crlf_bytes) count ∙ sym (length-append d.bytes crlf_bytes)) in
    let bytes = same_front c.bytes crlf_bytes d.bytes crlf_bytes fronts.0 count in
    let rest = chunks_unique cs ds l m t u a b (All-tail IsChunk c cs p) (All-tail IsChunk d ds q) s w y z fronts.1 in
    (λ i. record { line = lines.0 i; bytes = bytes.0 i } ∷ rest.0 i, rest.1, rest.2, rest.3)

chunked_text : (text body : List ℕ) (s : SpellsChunked text body) → text ≡ print_chunks s.chunks ++ (s.last ++ s.trailer)
chunked_text text body s = s.split ∙ ap (λ f. f ++ (s.last ++ s.trailer)) s.are.text_is

pub chunked_stream : (text body rest : List ℕ) (s : SpellsChunked text body) → text ++ rest ≡ print_chunks s.chunks ++ (s.last ++ (s.trailer ++ rest))
chunked_stream text body rest s =
    ap (λ t. t ++ rest) (chunked_text text body s)
    ∙ append_assoc (print_chunks s.chunks) (s.last ++ s.trailer) rest
    ∙ ap (λ t. print_chunks s.chunks ++ t) (append_assoc s.last s.trailer rest)

pub chunked_unique : (x a y b v w : List ℕ) → SpellsChunked x v → SpellsChunked y w → x ++ a ≡ y ++ b → (x ≡ y) × (v ≡ w)
chunked_unique x a y b v w s t e =
    let same = chunks_unique s.chunks t.chunks s.last t.last s.trailer t.trailer a b s.are.each t.are.each s.size t.size s.fields.form t.fields.form
    (sym (chunked_stream x v a s) ∙ e ∙ chunked_stream y w b t) in (
      chunked_text x v s
          ∙ ap (λ (c : List Chunk). print_chunks c ++ (s.last ++ s.trailer)) same.0
          ∙ ap (λ l. print_chunks t.chunks ++ (l ++ s.trailer)) same.1
          ∙ ap (λ r. print_chunks t.chunks ++ (t.last ++ r)) same.2
          ∙ sym (chunked_text y w t),
      s.are.body_is ∙ ap chunk_bytes same.0 ∙ sym t.are.body_is,
    )

-- bodies
pub body_unique : (to_end : Bool) (f : Framing) (x a y b v w : List ℕ) → IsBody to_end f x (Some a) v → IsBody to_end f y (Some b) w → x ++ a ≡ y ++ b → (x ≡ y) × (v ≡ w)
body_unique to_end (Sized n) x a y b v w s t e =
    let same = (same_front x a y b e (ap length s.0 ∙ s.1 ∙ sym t.1 ∙ sym (ap length t.0))).0 in
    (same, sym s.0 ∙ same ∙ t.0)
body_unique to_end Chunked x a y b v w s t e = chunked_unique x a y b v w s t e
body_unique true Unsaid x a y b v w s t e =
    let same : x ≡ y = sym (append-nil x) ∙ ap (λ r. x ++ r) (sym s.2) ∙ e ∙ ap (λ r. y ++ r) t.2 ∙ append-nil y in
    (same, sym s.0 ∙ same ∙ t.0)
body_unique false Unsaid x a y b v w s t e = (s.0 ∙ sym t.0, s.1 ∙ sym t.1)
body_unique to_end Bad x a y b v w s t e = absurd s

-- requests
head_text : (text : List ℕ) (h : RequestHead) → SpellsRequestHead text h → text ≡ print_request h
head_text text h s = s.reads.1 ∙ append-nil (print_request h)

pub message_unique : (x a y b : List ℕ) (r s : Request) → SpellsRequest x (Some a) r → SpellsRequest y (Some b) s → x ++ a ≡ y ++ b → (x ≡ y) × IsSameRequest r s
message_unique x a y b r s p q e =
    let stream : p.head ++ (p.tail ++ a) ≡ q.head ++ (q.tail ++ b) = sym (append_assoc p.head p.tail a) ∙ ap (λ t. t ++ a) (sym p.split) ∙ e ∙ ap (λ t. t ++ b) q.split ∙ append_assoc q.head q.tail b in
    let R : List ℕ → Type 0 = λ u. ReadsRequest u q.tree (q.tail ++ b) in
    let same = request_unique (p.head ++ (p.tail ++ a)) p.tree q.tree (p.tail ++ a) (q.tail ++ b)
    (ReadsRequest-append p.head p.tree [] (p.tail ++ a) p.spells.reads)
    (subst R (sym stream) (ReadsRequest-append q.head q.tree [] (q.tail ++ b) q.spells.reads)) in
    let heads : p.head ≡ q.head = head_text p.head p.tree p.spells ∙ ap print_request same.0 ∙ sym (head_text q.head q.tree q.spells) in
    let fields : parts_of r.fields.items ≡ parts_of s.fields.items = p.has.fields ∙ ap (λ (h : RequestHead). map name_and_value h.fields) same.0 ∙ sym q.has.fields in
    let B : List Pair → Type 0 = λ f. IsBody false (framing_of f) q.tail (Some b) s.body.items in
    let bodies = body_unique false (framing_of (parts_of r.fields.items)) p.tail a q.tail b r.body.items s.body.items p.body (subst B (sym fields) q.body) same.1 in (
      p.split ∙ ap (λ u. u ++ p.tail) heads ∙ ap (λ u. q.head ++ u) bodies.0 ∙ sym q.split,
      record {
        method = p.has.method ∙ ap (λ (h : RequestHead). h.method) same.0 ∙ sym q.has.method;
        target = p.has.target ∙ ap (λ (h : RequestHead). h.target) same.0 ∙ sym q.has.target;
        fields = fields;
        body = bodies.1;
      },
    )
