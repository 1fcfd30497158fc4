-- A request whose sender waits for an interim response of status 100 before it sends the body (RFC 9110, section 10.1.1).
use Rattle.std.specs.Prelude.{ℕ, ◌&&◌, Bool, true, false, List, is_none, codes, nat_le, nat_lt}
use Rattle.std.specs.List.{list_any}
use Rattle.std.specs.Str.{str_eq_ignore_ascii_case}
use Rattle.http_wire.specs.declared.framing.Framing.{Framing}
use Rattle.http_wire.specs.declared.framing.Framing.TheVariants.{Unsaid, Sized, Chunked, Bad}
use Rattle.http_wire.specs.declared.message.Request.{Request}
use Rattle.http_wire.specs.Framings.{Pair, is_named, body_limit, encoding_of, framing_of}
use Rattle.http_wire.specs.Parts.{parts, parts_of}

-- a field `Expect` of the value `100-continue`, both in letters of any case
abbrev pub is_expecting : Pair → Bool
is_expecting p = is_named p (codes "expect") && str_eq_ignore_ascii_case p.1 (codes "100-continue")

-- bytes follow that are read: some, and not more than are read
abbrev pub is_to_come : Framing → Bool
is_to_come Unsaid = false
is_to_come (Sized n) = nat_lt 0 n && nat_le n body_limit
is_to_come Chunked = true
is_to_come Bad = false

-- a body follows that is read: in no other coding, and framed so
abbrev pub has_body : List Pair → Bool
has_body fields = is_none (encoding_of fields) && is_to_come (framing_of fields)

-- a field asks for the response, and a body follows that is read
abbrev pub expects_continue : Request → Bool
expects_continue r = list_any (λ f. is_expecting (parts f)) r.fields.items && has_body (parts_of r.fields.items)

-- the response
abbrev pub continue_text : List ℕ
continue_text = codes "HTTP/1.1 100 Continue\r\n\r\n"
