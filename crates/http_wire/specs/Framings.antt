-- What the fields of a head say of the body that follows it.
use Rattle.std.specs.Prelude.{ℕ, ◌==◌, Bool, true, false, ◌&&◌, not, List, Option, Some, None, if◌then◌else◌, codes, find, fold}
use Rattle.std.specs.Str.{str_eq_ignore_ascii_case}
use Rattle.std.specs.Option.{option_map}
use Rattle.edge_kit.specs.Texts.{quoted_number}
use Rattle.http_wire.specs.declared.framing.Framing.{Framing}
use Rattle.http_wire.specs.declared.framing.Framing.TheVariants.{Unsaid, Sized, Chunked, Bad}

-- a name and a value
abbrev pub Pair : Type 0
Pair = List ℕ × List ℕ

-- how many bytes a body may have
abbrev pub body_limit : ℕ
body_limit = 16777216

-- the texts are the same but for the case of letters
abbrev pub is_named : Pair → List ℕ → Bool
is_named p name = str_eq_ignore_ascii_case p.0 name

-- a Content-Encoding other than identity
abbrev pub is_encoding : Pair → Bool
is_encoding p = is_named p (codes "content-encoding") && not (str_eq_ignore_ascii_case p.1 (codes "identity"))

-- the first of them
abbrev pub encoding_of : List Pair → Option (List ℕ)
encoding_of fields = option_map (λ p. p.1) (find is_encoding fields)

-- the framing after a Content-Length of this value: one that has no reading, that differs from one before, or that stands beside a transfer coding is none
abbrev pub sized_by : Option ℕ → Framing → Framing
sized_by None framing = Bad
sized_by (Some n) Unsaid = Sized n
sized_by (Some n) (Sized m) = if m == n then Sized m else Bad
sized_by (Some n) Chunked = Bad
sized_by (Some n) Bad = Bad

-- the framing after a Transfer-Encoding, which is chunked or not: the one that is read is chunked, alone
abbrev pub coded_by : Bool → Framing → Framing
coded_by true Unsaid = Chunked
coded_by true (Sized m) = Bad
coded_by true Chunked = Bad
coded_by true Bad = Bad
coded_by false framing = Bad

-- one more field
abbrev pub framed_by : Framing → Pair → Framing
framed_by framing p =
    if is_named p (codes "content-length") then sized_by (quoted_number p.1) framing
    else (if is_named p (codes "transfer-encoding") then coded_by (str_eq_ignore_ascii_case p.1 (codes "chunked")) framing
    else framing)

-- how the fields frame the body
abbrev pub framing_of : List Pair → Framing
framing_of fields = fold framed_by Unsaid fields
