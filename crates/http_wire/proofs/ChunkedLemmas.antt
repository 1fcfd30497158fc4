-- Chunks one after another.
use Rattle.std.proofs.Common.{◌≡◌, ℕ, ◌+◌, ◌*◌, ◌-◌, ◌<◌, ◌≤◌, List, [], ◌∷◌, ◌++◌, length, length-append, Option, Err, true, refl, sym, ap, subst, ◌∙◌, arith}
use Rattle.std.proofs.lemmas.List.{append-nil}
use Rattle.std.proofs.lemmas.List.Elements.{All-push, All-nil}
use Rattle.std.proofs.lemmas.Grind.{flat_map-append}
use Rattle.std.specs.Io.KnownBytes.{Consumes}
use Rattle.edge_kit.proofs.TellingLemmas.{Consumes-trans, Consumes-nil}
use Rattle.http_wire.specs.Heads.{head_limit}
use Rattle.http_wire.specs.Framings.{body_limit}
use Rattle.http_wire.specs.Bounds.{chunked_limit}
use Rattle.http_wire.proofs.TakeLemmas.{at_most, at_most_more}
use Rattle.http_wire.specs.Chunks.{Chunk, print_chunk, IsChunk, IsNoChunk, AreChunks, print_chunks, chunk_bytes, SpellsChunked, BreaksChunked, PassesLimit}
use Rattle.http_wire.specs.Steps.{Took, TookAtMost, AddsChunk, EndsChunks, PassesBy, ChunkStep, BodyStep}
use Rattle.http_wire.specs.declared.framing.Framing.TheVariants.{Chunked}
use Rattle.http_wire.specs.declared.message.WireFault.{WireFault}
use Rattle.http_wire.specs.declared.message.WireFault.TheVariants as fault

-- the chunks that were read, and their body
pub record TookChunks (left_before left_now : Option (List ℕ)) (body : List ℕ) : Type 0 where
  pub chunks : List Chunk
  pub front : List ℕ
  pub taken : Consumes left_before left_now front
  pub are : AreChunks chunks front body
  pub short : length front ≤ (head_limit + 3) * length body

pub no_chunks : (a : Option (List ℕ)) (body : List ℕ) → body ≡ [] → TookChunks a a body
no_chunks a body e = record {
  chunks = [];
  front = [];
  taken = Consumes-nil a;
  are = record { each = All-nil IsChunk; text_is = refl; body_is = e; within = omega (arith, ap length e) };
  short = omega arith;
}

-- so long are they
chunk_short : (body now front taken : List ℕ) → AddsChunk body now taken → length front ≤ (head_limit + 3) * length body → length (front ++ taken) ≤ (head_limit + 3) * length now
chunk_short body now front taken adds short =
    let chunk = adds.chunk in
    let some : 0 < length chunk.bytes = adds.is.some in
    let line : length chunk.line ≤ head_limit = adds.is.size.short in
    omega (arith, short, some, line, ap length adds.text, ap length adds.body, length-append {A = ℕ})

pub chunks_more : (a b c : Option (List ℕ)) (body now : List ℕ) → TookChunks a b body → Took b c (AddsChunk body now) → TookChunks a c now
chunks_more a b c body now t step = record {
  chunks = t.chunks ++ step.holds.chunk ∷ [];
  front = t.front ++ step.bytes;
  taken = Consumes-trans a b c t.front step.bytes t.taken step.taken;
  are = record {
    each = All-push IsChunk t.chunks step.holds.chunk t.are.each step.holds.is;
    text_is =
        ap (λ u. u ++ step.bytes) t.are.text_is
        ∙ ap (λ u. print_chunks t.chunks ++ u) (step.holds.text ∙ sym (append-nil (print_chunk step.holds.chunk)))
        ∙ sym (flat_map-append print_chunk t.chunks (step.holds.chunk ∷ []));
    body_is =
        step.holds.body
        ∙ ap (λ u. u ++ step.holds.chunk.bytes) t.are.body_is
        ∙ ap (λ u. chunk_bytes t.chunks ++ u) (sym (append-nil step.holds.chunk.bytes))
        ∙ sym (flat_map-append (λ k. k.bytes) t.chunks (step.holds.chunk ∷ []));
    within = step.holds.within;
  };
  short = chunk_short body now t.front step.bytes step.holds t.short;
}

pub chunks_end : (a b c : Option (List ℕ)) (body now : List ℕ) → TookChunks a b body → Took b c (EndsChunks body now) → Took a c (λ taken. SpellsChunked taken now)
chunks_end a b c body now t step =
    let P : List ℕ → Type 0 = λ u. AreChunks t.chunks t.front u in
    record {
      bytes = t.front ++ step.bytes;
      taken = Consumes-trans a b c t.front step.bytes t.taken step.taken;
      holds = record {
        chunks = t.chunks;
        front = t.front;
        are = subst P (sym step.holds.body) t.are;
        last = step.holds.last;
        size = step.holds.size;
        trailer = step.holds.trailer;
        fields = step.holds.fields;
        split = ap (λ u. t.front ++ u) step.holds.text;
      };
    }

pub chunks_break : (a b c : Option (List ℕ)) (body : List ℕ) → TookChunks a b body → Took b c (λ taken. IsNoChunk (length body) taken c) → Took a c (λ taken. BreaksChunked taken c)
chunks_break a b c body t step = record {
  bytes = t.front ++ step.bytes;
  taken = Consumes-trans a b c t.front step.bytes t.taken step.taken;
  holds = record { chunks = t.chunks; front = t.front; body = body; are = t.are; tail = step.bytes; wrong = step.holds; split = refl };
}

pub chunks_pass : (a b c : Option (List ℕ)) (body : List ℕ) → TookChunks a b body → Took b c (PassesBy body) → Took a c PassesLimit
chunks_pass a b c body t step = record {
  bytes = t.front ++ step.bytes;
  taken = Consumes-trans a b c t.front step.bytes t.taken step.taken;
  holds = record { chunks = t.chunks; front = t.front; body = body; are = t.are; line = step.bytes; size = step.holds.size; says = step.holds.says; over = step.holds.over; split = refl };
}

-- a chunk makes the body longer
pub chunk_grows : (b c : Option (List ℕ)) (body now : List ℕ) → Took b c (AddsChunk body now) → length body + 1 ≤ length now
chunk_grows b c body now step =
    let some : 0 < length step.holds.chunk.bytes = step.holds.is.some in
    omega (arith, ap length step.holds.body, length-append body step.holds.chunk.bytes)

-- what a fault of a chunk makes of the body
pub chunked_faulty : (a b c : Option (List ℕ)) (body now : List ℕ) (f : WireFault) → TookChunks a b body → Took b c (ChunkStep c body now (Err f)) → Took a c (BodyStep true Chunked c (Err f) now)
chunked_faulty a b c body now fault.BadHead t step = absurd step.holds
chunked_faulty a b c body now fault.BadBody t step = chunks_break a b c body t step
chunked_faulty a b c body now (fault.TooLong n) t step =
    let pass = chunks_pass a b c body t (record { bytes = step.bytes; taken = step.taken; holds = step.holds.1 }) in
    record { bytes = pass.bytes; taken = pass.taken; holds = (step.holds.0, pass.holds) }
chunked_faulty a b c body now (fault.Encoded v) t step = absurd step.holds
chunked_faulty a b c body now fault.Link t step = record { bytes = t.front ++ step.bytes; taken = Consumes-trans a b c t.front step.bytes t.taken step.taken; holds = tt }
chunked_faulty a b c body now fault.OutOfMemory t step = record { bytes = t.front ++ step.bytes; taken = Consumes-trans a b c t.front step.bytes t.taken step.taken; holds = tt }

pub chunks_bound : (a b c : Option (List ℕ)) (body : List ℕ) → TookChunks a b body → TookAtMost b c (2 * head_limit + (body_limit - length body)) → TookAtMost a c chunked_limit
chunks_bound a b c body t step =
    let short : length t.front ≤ (head_limit + 3) * length body = t.short in
    let within : length body ≤ body_limit = t.are.within in
    at_most_more a b c (length t.front) (2 * head_limit + (body_limit - length body)) chunked_limit
    (at_most a b (length t.front) t.front t.taken (omega arith)) step (omega (arith, short, within))
