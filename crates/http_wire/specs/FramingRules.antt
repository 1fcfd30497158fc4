-- How the fields of a head frame its body, in the words of RFC 9112, section 6. What can be read in two ways is ambiguous.
use Rattle.std.specs.Prelude.{◌≡◌, ◌≢◌, ℕ, ◌<◌, ◌≤◌, Bool, true, false, List, [], ◌∷◌, length, All, Contains, Some, None, if◌then◌else◌, codes}
use Rattle.std.specs.Str.{str_eq_ignore_ascii_case}
use Rattle.edge_kit.specs.Texts.{quoted_number}
use Rattle.http_wire.specs.declared.framing.Framing.{Framing}
use Rattle.http_wire.specs.declared.framing.Framing.TheVariants.{Unsaid, Sized, Chunked, Bad}
use Rattle.http_wire.specs.Framings.{Pair, is_named}

-- the values of the fields of a name, in order
abbrev pub values_of : List ℕ → List Pair → List (List ℕ)
values_of name [] = []
values_of name (p ∷ fields) = if is_named p name then p.1 ∷ values_of name fields else values_of name fields

-- the coding is chunked, in letters of any case
abbrev pub is_chunked : List ℕ → Bool
is_chunked value = str_eq_ignore_ascii_case value (codes "chunked")

-- Why the lengths and the transfer codings of a head have no one reading that is taken.
pub data IsAmbiguous (lengths codings : List (List ℕ)) : Type 0 where
  -- a length beside a transfer coding
  beside : 0 < length lengths → 0 < length codings → IsAmbiguous lengths codings
  -- a length that is not 1 to 20 decimal digits of a value below 2^64
  unreadable : (v : List ℕ) → Contains lengths v → quoted_number v ≡ None → IsAmbiguous lengths codings
  -- two lengths that differ
  differing : (v w : List ℕ) (m n : ℕ) → Contains lengths v → Contains lengths w → quoted_number v ≡ Some m → quoted_number w ≡ Some n → m ≢ n → IsAmbiguous lengths codings
  -- another transfer coding than chunked
  other_coding : (v : List ℕ) → Contains codings v → is_chunked v ≡ false → IsAmbiguous lengths codings
  -- more than one transfer coding
  more_codings : 2 ≤ length codings → IsAmbiguous lengths codings

-- how lengths and transfer codings frame a body
abbrev pub FramesBy : List (List ℕ) → List (List ℕ) → Framing → Type 0
FramesBy lengths codings Unsaid = (lengths ≡ []) × (codings ≡ [])
FramesBy lengths codings (Sized n) = (codings ≡ []) × (0 < length lengths) × All (λ v. quoted_number v ≡ Some n) lengths
FramesBy lengths codings Chunked = (lengths ≡ []) × (v : List ℕ) × (codings ≡ v ∷ []) × (is_chunked v ≡ true)
FramesBy lengths codings Bad = IsAmbiguous lengths codings

-- how fields do
abbrev pub IsFramedBy : List Pair → Framing → Type 0
IsFramedBy fields framing = FramesBy (values_of (codes "content-length") fields) (values_of (codes "transfer-encoding") fields) framing
