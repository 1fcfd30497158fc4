-- A body in chunks.
use Rattle.std.specs.Prelude.{◌≡◌, ℕ, ◌+◌, ◌<◌, ◌≤◌, List, [], ◌++◌, length, All, Option}
use Rattle.std.specs.List.{flat_map}
use Rattle.std.specs.Io.KnownBytes.{IsAtEnd}
use Rattle.httparse.specs.Ascii.{crlf_bytes}
use Rattle.httparse.specs.Grammar.{ChunkLine, ReadsChunkLine, chunk_size}
use Rattle.http_wire.specs.Fronts.{Within, StopsWithin}
use Rattle.http_wire.specs.Heads.{IsChunkText, IsTrailerText, IsCrlfText, head_limit}
use Rattle.http_wire.specs.Framings.{body_limit}

-- a line of at most 65,536 bytes that says this size
pub record SaysSize (line : List ℕ) (size : ℕ) : Type 0 where
  pub tree : ChunkLine
  pub reads : ReadsChunkLine line tree []
  pub size_is : size ≡ chunk_size tree
  pub short : length line ≤ head_limit

-- the line of a chunk, and its bytes
pub record Chunk : Type 0 where
  pub line : List ℕ
  pub bytes : List ℕ

abbrev pub print_chunk : Chunk → List ℕ
print_chunk c = c.line ++ (c.bytes ++ crlf_bytes)

-- the line says how many bytes follow, and that isn't 0
pub record IsChunk (c : Chunk) : Type 0 where
  pub size : SaysSize c.line (length c.bytes)
  pub some : 0 < length c.bytes

-- the bytes of chunks, and how they are spelled
abbrev pub chunk_bytes : List Chunk → List ℕ
chunk_bytes chunks = flat_map (λ c. c.bytes) chunks

abbrev pub print_chunks : List Chunk → List ℕ
print_chunks chunks = flat_map print_chunk chunks

-- these are chunks, of so many bytes at most
pub record AreChunks (chunks : List Chunk) (text body : List ℕ) : Type 0 where
  pub each : All IsChunk chunks
  pub text_is : text ≡ print_chunks chunks
  pub body_is : body ≡ chunk_bytes chunks
  pub within : length body ≤ body_limit

-- the text is chunks with this body, a last one of size 0, and fields within the limits of a head
pub record SpellsChunked (text body : List ℕ) : Type 0 where
  pub chunks : List Chunk
  pub front : List ℕ
  pub are : AreChunks chunks front body
  pub last : List ℕ
  pub size : SaysSize last 0
  pub trailer : List ℕ
  pub fields : Within IsTrailerText head_limit trailer
  pub split : text ≡ front ++ (last ++ trailer)

-- what can stand where a chunk should, after so many bytes of the body, and isn't one. A line with which the body passes the
-- limit is no such thing: it is refused for that, whatever follows it.
pub data IsNoChunk (before : ℕ) (text : List ℕ) (left : Option (List ℕ)) : Type 0 where
  -- no line of a chunk
  no_line : StopsWithin IsChunkText head_limit text left → IsNoChunk before text left
  -- the end within the bytes of a chunk
  cut_short : (line bytes : List ℕ) (size : ℕ) → SaysSize line size → before + size ≤ body_limit → length bytes < size → IsAtEnd left → text ≡ line ++ bytes → IsNoChunk before text left
  -- no CR LF after them
  no_end : (line bytes tail : List ℕ) → SaysSize line (length bytes) → 0 < length bytes → before + length bytes ≤ body_limit → StopsWithin IsCrlfText 2 tail left → text ≡ line ++ (bytes ++ tail) → IsNoChunk before text left
  -- no fields after the last chunk
  no_trailer : (line tail : List ℕ) → SaysSize line 0 → StopsWithin IsTrailerText head_limit tail left → text ≡ line ++ tail → IsNoChunk before text left

-- chunks, and then what is none
pub record BreaksChunked (text : List ℕ) (left : Option (List ℕ)) : Type 0 where
  pub chunks : List Chunk
  pub front : List ℕ
  pub body : List ℕ
  pub are : AreChunks chunks front body
  pub tail : List ℕ
  pub wrong : IsNoChunk (length body) tail left
  pub split : text ≡ front ++ tail

-- chunks, and then the line of one with which the body passes the limit
pub record PassesLimit (text : List ℕ) : Type 0 where
  pub chunks : List Chunk
  pub front : List ℕ
  pub body : List ℕ
  pub are : AreChunks chunks front body
  pub line : List ℕ
  pub size : ℕ
  pub says : SaysSize line size
  pub over : body_limit < length body + size
  pub split : text ≡ front ++ line
