-- What the calls that read a body took.
use Rattle.std.specs.Prelude.{◌≡◌, ℕ, ◌+◌, ◌<◌, ◌≤◌, Bool, true, false, List, ◌++◌, length, Option, Result, Ok, Err, ⊤}
use Rattle.std.specs.Io.KnownBytes.{Consumes}
use Rattle.http_wire.specs.declared.framing.Framing.{Framing}
use Rattle.http_wire.specs.declared.message.WireFault.{WireFault}
use Rattle.http_wire.specs.declared.message.WireFault.TheVariants as fault
use Rattle.http_wire.specs.Fronts.{Within}
use Rattle.http_wire.specs.Heads.{IsTrailerText, head_limit}
use Rattle.http_wire.specs.Framings.{body_limit}
use Rattle.http_wire.specs.Chunks.{SaysSize, Chunk, print_chunk, IsChunk, IsNoChunk}
use Rattle.http_wire.specs.Bodies.{IsBody, IsNoBody, IsLongBody}

-- some bytes were taken, of which this holds
pub record Took (left_before left_now : Option (List ℕ)) (P : List ℕ → Type 0) : Type 0 where
  pub bytes : List ℕ
  pub taken : Consumes left_before left_now bytes
  pub holds : P bytes

-- at most so many were
abbrev pub TookAtMost : Option (List ℕ) → Option (List ℕ) → ℕ → Type 0
TookAtMost left_before left_now limit = Took left_before left_now (λ bytes. length bytes ≤ limit)

-- a chunk, whose bytes stand at the end of the body
pub record AddsChunk (before now taken : List ℕ) : Type 0 where
  pub chunk : Chunk
  pub is : IsChunk chunk
  pub text : taken ≡ print_chunk chunk
  pub body : now ≡ before ++ chunk.bytes
  pub within : length now ≤ body_limit

-- the last chunk, and the fields after it
pub record EndsChunks (before now taken : List ℕ) : Type 0 where
  pub last : List ℕ
  pub size : SaysSize last 0
  pub trailer : List ℕ
  pub fields : Within IsTrailerText head_limit trailer
  pub text : taken ≡ last ++ trailer
  pub body : now ≡ before

-- the line of a chunk with which the body passes the limit
pub record PassesBy (before taken : List ℕ) : Type 0 where
  pub size : ℕ
  pub says : SaysSize taken size
  pub over : body_limit < length before + size

-- what one step in a chunked body found
abbrev pub ChunkStep : Option (List ℕ) → List ℕ → List ℕ → Result Bool WireFault → List ℕ → Type 0
ChunkStep left before now (Ok true) taken = AddsChunk before now taken
ChunkStep left before now (Ok false) taken = EndsChunks before now taken
ChunkStep left before now (Err fault.BadHead) taken = ⊥
ChunkStep left before now (Err fault.BadBody) taken = IsNoChunk (length before) taken left
ChunkStep left before now (Err (fault.TooLong n)) taken = (n ≡ body_limit) × PassesBy before taken
ChunkStep left before now (Err (fault.Encoded v)) taken = ⊥
ChunkStep left before now (Err fault.Link) taken = ⊤
ChunkStep left before now (Err fault.OutOfMemory) taken = ⊤

-- what the calls that read a whole body found
abbrev pub BodyStep : Bool → Framing → Option (List ℕ) → Result (Unit {0}) WireFault → List ℕ → List ℕ → Type 0
BodyStep to_end framing left (Ok u) body taken = IsBody to_end framing taken left body
BodyStep to_end framing left (Err fault.BadHead) body taken = ⊥
BodyStep to_end framing left (Err fault.BadBody) body taken = IsNoBody framing taken left
BodyStep to_end framing left (Err (fault.TooLong n)) body taken = (n ≡ body_limit) × IsLongBody to_end framing taken
BodyStep to_end framing left (Err (fault.Encoded v)) body taken = ⊥
BodyStep to_end framing left (Err fault.Link) body taken = ⊤
BodyStep to_end framing left (Err fault.OutOfMemory) body taken = ⊤
