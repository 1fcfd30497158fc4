-- How requests and responses are written.
use Rattle.std.specs.Prelude.{ℕ, ◌==◌, List, [], ◌++◌, length, if◌then◌else◌, codes, decimal, unwrap_or}
use Rattle.std.specs.List.{flat_map}
use Rattle.http.specs.StatusCode.{reason_phrase}
use Rattle.http_wire.specs.declared.message.Request.{Request}
use Rattle.http_wire.specs.declared.message.Response.{Response}
use Rattle.http_wire.specs.Framings.{Pair}
use Rattle.http_wire.specs.Parts.{parts_of}

-- a field line
abbrev pub print_pair : Pair → List ℕ
print_pair p = p.0 ++ codes ": " ++ p.1 ++ codes "\r\n"

-- field lines
abbrev pub print_pairs : List Pair → List ℕ
print_pairs fields = flat_map print_pair fields

-- what a body that isn't empty adds to a request's head
abbrev pub sized_fields : ℕ → List ℕ
sized_fields n = codes "Content-Type: application/json\r\nContent-Length: " ++ decimal n ++ codes "\r\n"

abbrev pub body_fields : ℕ → List ℕ
body_fields n = if n == 0 then [] else sized_fields n

-- the first line of a request
abbrev pub request_line : List ℕ → List ℕ → List ℕ
request_line method target = method ++ codes " " ++ target ++ codes " HTTP/1.1\r\n"

-- the fixed fields of a request with a body of so many bytes, and the empty line
abbrev pub request_fields : ℕ → List ℕ
request_fields n = codes "Accept: application/json\r\nConnection: close\r\n" ++ body_fields n ++ codes "\r\n"

-- a request before its body, whose own fields come before the fixed ones
abbrev pub spelled_request_head : Request → List ℕ
spelled_request_head r =
    r.method ++ codes " " ++ r.target.items ++ codes " HTTP/1.1\r\n"
    ++ print_pairs (parts_of r.fields.items)
    ++ codes "Accept: application/json\r\nConnection: close\r\n"
    ++ body_fields (length r.body.items)
    ++ codes "\r\n"

abbrev pub spelled_request : Request → List ℕ
spelled_request r = spelled_request_head r ++ r.body.items

-- the end of the first line of a response
abbrev pub phrase_end : ℕ → List ℕ
phrase_end n = codes " " ++ unwrap_or (reason_phrase n) [] ++ codes "\r\n"

-- the first line of a response
abbrev pub status_line : ℕ → List ℕ
status_line n = codes "HTTP/1.1 " ++ decimal n ++ codes " " ++ unwrap_or (reason_phrase n) [] ++ codes "\r\n"

-- the fixed fields of a response to a body of so many bytes, and the empty line
abbrev pub response_fields : ℕ → List ℕ
response_fields n = codes "Content-Type: application/json\r\nContent-Length: " ++ decimal n ++ codes "\r\nConnection: close\r\n\r\n"

-- a response before its body, whose own fields come before the fixed ones
abbrev pub spelled_response_head : Response → List ℕ
spelled_response_head r =
    status_line r.status ++ print_pairs (parts_of r.fields.items) ++ response_fields (length r.body.items)

abbrev pub spelled_response : Response → List ℕ
spelled_response r = spelled_response_head r ++ r.body.items
