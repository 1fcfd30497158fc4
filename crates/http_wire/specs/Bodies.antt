-- The body that a framing reads from bytes, where so many more are left.
use Rattle.std.specs.Prelude.{◌≡◌, ℕ, ◌+◌, ◌<◌, ◌≤◌, Bool, true, false, List, [], length, Option}
use Rattle.std.specs.Io.KnownBytes.{IsAtEnd}
use Rattle.http_wire.specs.declared.framing.Framing.{Framing}
use Rattle.http_wire.specs.declared.framing.Framing.TheVariants.{Unsaid, Sized, Chunked, Bad}
use Rattle.http_wire.specs.Framings.{body_limit}
use Rattle.http_wire.specs.Bounds.{piece_limit}
use Rattle.http_wire.specs.Chunks.{SpellsChunked, BreaksChunked, PassesLimit}

-- The bytes that were taken spell the body. Where no field speaks of it, it goes to the end, or there is none.
abbrev pub IsBody : Bool → Framing → List ℕ → Option (List ℕ) → List ℕ → Type 0
IsBody to_end (Sized n) taken left body = (taken ≡ body) × (length body ≡ n) × (n ≤ body_limit)
IsBody to_end Chunked taken left body = SpellsChunked taken body
IsBody true Unsaid taken left body = (taken ≡ body) × (length body ≤ body_limit) × IsAtEnd left
IsBody false Unsaid taken left body = (taken ≡ []) × (body ≡ [])
IsBody to_end Bad taken left body = ⊥

-- they and what is left spell none
abbrev pub IsNoBody : Framing → List ℕ → Option (List ℕ) → Type 0
IsNoBody (Sized n) taken left = (n ≤ body_limit) × (length taken < n) × IsAtEnd left
IsNoBody Chunked taken left = BreaksChunked taken left
IsNoBody Unsaid taken left = ⊥
IsNoBody Bad taken left = taken ≡ []

-- they begin one that passes the limit, and end with what shows it
abbrev pub IsLongBody : Bool → Framing → List ℕ → Type 0
IsLongBody to_end (Sized n) taken = (body_limit < n) × (taken ≡ [])
IsLongBody to_end Chunked taken = PassesLimit taken
IsLongBody true Unsaid taken = (body_limit < length taken) × (length taken ≤ body_limit + piece_limit)
IsLongBody false Unsaid taken = ⊥
IsLongBody to_end Bad taken = ⊥
