-- A response that is written reads back.
use Rattle.std.proofs.Common.{◌≡◌, ℕ, ◌<◌, ◌≤◌, ◌^◌, Bool, true, false, cond, List, [], ◌∷◌, ◌++◌, length, length-append, map, All, Option, Some, None, refl, sym, ap, subst, ◌∙◌, arith, append_assoc, codes}
use Rattle.std.specs.Prelude.{◌==◌, fold, decimal, unwrap_or}
use Rattle.std.specs.List.{flat_map, list_all}
use Rattle.std.specs.Option.{option_map}
use Rattle.std.proofs.lemmas.List.{append-nil, length-map}
use Rattle.std.proofs.lemmas.List.Elements.{All-nil, All-cons, All-append}
use Rattle.std.proofs.lemmas.List.Sums.{AllPass-from_list_all}
use Rattle.std.proofs.lemmas.Grind.{flat_map-append}
use Rattle.std.proofs.lemmas.Fmt.{length-decimal-le}
use Rattle.edge_kit.proofs.TextLemmas.{quoted_number-decimal, decimal_value, decimal_long}
use Rattle.http.specs.StatusCode.{reason_phrase}
use Rattle.httparse.specs.Ascii.{crlf_bytes}
use Rattle.httparse.specs.Grammar.{crlf, print_field, ResponseHead, is_token_byte, is_value_byte, print_response}
use Rattle.http_wire.specs.declared.framing.Framing.{Framing}
use Rattle.http_wire.specs.declared.framing.Framing.TheVariants.{Unsaid, Sized}
use Rattle.http_wire.specs.declared.message.Response.{Response}
use Rattle.http_wire.specs.Framings.{Pair, encoding_of, sized_by, framed_by, framing_of}
use Rattle.http_wire.specs.Parts.{parts_of}
use Rattle.http_wire.specs.Bodies.{IsBody}
use Rattle.http_wire.specs.Messages.{SpellsResponse, is_interim, IsInterim}
use Rattle.http_wire.specs.Spellings.{print_pair, print_pairs, status_line, response_fields, spelled_response_head, spelled_response}
use Rattle.http_wire.specs.ReadBack.{fixed_response_pairs, IsPair, IsSilent, IsPlainResponse, HasFixedResponseFields}
use Rattle.http_wire.proofs.ReadBackLemmas.{line_of, lines_print, lines_value, lines_fields, literal_pair, length_pair, none_encodes, silent_frames, decimal_digits}

-- ---- the phrases

Fine : Option (List ℕ) → Type 0
Fine phrase = list_all is_value_byte (unwrap_or phrase []) ≡ true

pick : (b : Bool) (x y : Option (List ℕ)) → list_all is_value_byte (unwrap_or x []) ≡ true → Fine y → Fine (cond b x y)
unfolding Fine
pick true x y p q = p
pick false x y p q = q

no_phrase : Fine None
unfolding Fine
no_phrase = refl

phrase_fine : (n : ℕ) → Fine (reason_phrase n)
phrase_fine n =
    pick (n == 100) (Some (codes "Continue")) _ refl (
    pick (n == 101) (Some (codes "Switching Protocols")) _ refl (
    pick (n == 102) (Some (codes "Processing")) _ refl (
    pick (n == 103) (Some (codes "Early Hints")) _ refl (
    pick (n == 200) (Some (codes "OK")) _ refl (
    pick (n == 201) (Some (codes "Created")) _ refl (
    pick (n == 202) (Some (codes "Accepted")) _ refl (
    pick (n == 203) (Some (codes "Non Authoritative Information")) _ refl (
    pick (n == 204) (Some (codes "No Content")) _ refl (
    pick (n == 205) (Some (codes "Reset Content")) _ refl (
    pick (n == 206) (Some (codes "Partial Content")) _ refl (
    pick (n == 207) (Some (codes "Multi-Status")) _ refl (
    pick (n == 208) (Some (codes "Already Reported")) _ refl (
    pick (n == 226) (Some (codes "IM Used")) _ refl (
    pick (n == 300) (Some (codes "Multiple Choices")) _ refl (
    pick (n == 301) (Some (codes "Moved Permanently")) _ refl (
    pick (n == 302) (Some (codes "Found")) _ refl (
    pick (n == 303) (Some (codes "See Other")) _ refl (
    pick (n == 304) (Some (codes "Not Modified")) _ refl (
    pick (n == 305) (Some (codes "Use Proxy")) _ refl (
    pick (n == 307) (Some (codes "Temporary Redirect")) _ refl (
    pick (n == 308) (Some (codes "Permanent Redirect")) _ refl (
    pick (n == 400) (Some (codes "Bad Request")) _ refl (
    pick (n == 401) (Some (codes "Unauthorized")) _ refl (
    pick (n == 402) (Some (codes "Payment Required")) _ refl (
    pick (n == 403) (Some (codes "Forbidden")) _ refl (
    pick (n == 404) (Some (codes "Not Found")) _ refl (
    pick (n == 405) (Some (codes "Method Not Allowed")) _ refl (
    pick (n == 406) (Some (codes "Not Acceptable")) _ refl (
    pick (n == 407) (Some (codes "Proxy Authentication Required")) _ refl (
    pick (n == 408) (Some (codes "Request Timeout")) _ refl (
    pick (n == 409) (Some (codes "Conflict")) _ refl (
    pick (n == 410) (Some (codes "Gone")) _ refl (
    pick (n == 411) (Some (codes "Length Required")) _ refl (
    pick (n == 412) (Some (codes "Precondition Failed")) _ refl (
    pick (n == 413) (Some (codes "Payload Too Large")) _ refl (
    pick (n == 414) (Some (codes "URI Too Long")) _ refl (
    pick (n == 415) (Some (codes "Unsupported Media Type")) _ refl (
    pick (n == 416) (Some (codes "Range Not Satisfiable")) _ refl (
    pick (n == 417) (Some (codes "Expectation Failed")) _ refl (
    pick (n == 418) (Some (codes "I'm a teapot")) _ refl (
    pick (n == 421) (Some (codes "Misdirected Request")) _ refl (
    pick (n == 422) (Some (codes "Unprocessable Entity")) _ refl (
    pick (n == 423) (Some (codes "Locked")) _ refl (
    pick (n == 424) (Some (codes "Failed Dependency")) _ refl (
    pick (n == 425) (Some (codes "Too Early")) _ refl (
    pick (n == 426) (Some (codes "Upgrade Required")) _ refl (
    pick (n == 428) (Some (codes "Precondition Required")) _ refl (
    pick (n == 429) (Some (codes "Too Many Requests")) _ refl (
    pick (n == 431) (Some (codes "Request Header Fields Too Large")) _ refl (
    pick (n == 451) (Some (codes "Unavailable For Legal Reasons")) _ refl (
    pick (n == 500) (Some (codes "Internal Server Error")) _ refl (
    pick (n == 501) (Some (codes "Not Implemented")) _ refl (
    pick (n == 502) (Some (codes "Bad Gateway")) _ refl (
    pick (n == 503) (Some (codes "Service Unavailable")) _ refl (
    pick (n == 504) (Some (codes "Gateway Timeout")) _ refl (
    pick (n == 505) (Some (codes "HTTP Version Not Supported")) _ refl (
    pick (n == 506) (Some (codes "Variant Also Negotiates")) _ refl (
    pick (n == 507) (Some (codes "Insufficient Storage")) _ refl (
    pick (n == 508) (Some (codes "Loop Detected")) _ refl (
    pick (n == 510) (Some (codes "Not Extended")) _ refl (
    pick (n == 511) (Some (codes "Network Authentication Required")) _ refl (no_phrase))))))))))))))))))))))))))))))))))))))))))))))))))))))))))))))

-- ---- the fixed fields

are_fixed : (n : ℕ) → n < 2 ^ 64 → All IsPair (fixed_response_pairs n)
unfolding is_token_byte
are_fixed n small =
    All-cons IsPair (codes "Content-Type", codes "application/json") ((codes "Content-Length", decimal n) ∷ (codes "Connection", codes "close") ∷ []) (literal_pair (codes "Content-Type", codes "application/json") (omega arith) refl refl refl refl)
    (All-cons IsPair (codes "Content-Length", decimal n) ((codes "Connection", codes "close") ∷ []) (length_pair n small)
    (All-cons IsPair (codes "Connection", codes "close") [] (literal_pair (codes "Connection", codes "close") (omega arith) refl refl refl refl) (All-nil IsPair)))

fixed_print : (n : ℕ) → response_fields n ≡ print_pairs (fixed_response_pairs n) ++ crlf_bytes
fixed_print n =
    ap (λ u. codes "Content-Type: application/json\r\nContent-Length: " ++ u)
    (sym (ap (λ u. u ++ codes "\r\n") (append_assoc (decimal n) (codes "\r\n") (codes "Connection: close\r\n")) ∙ append_assoc (decimal n) (codes "\r\nConnection: close\r\n") (codes "\r\n")))

fixed_frames : (n : ℕ) → n < 2 ^ 64 → fold framed_by Unsaid (fixed_response_pairs n) ≡ Sized n
fixed_frames n small = ap (λ (q : Option ℕ). sized_by q Unsaid) (quoted_number-decimal n small)

plain_pairs : (ps : List Pair) (n : ℕ) → All IsSilent ps → encoding_of (ps ++ fixed_response_pairs n) ≡ None
plain_pairs ps n are = ap (λ (o : Option Pair). option_map (λ p. p.1) o) (none_encodes ps (fixed_response_pairs n) are)

-- ---- the whole head

all_pairs : Response → List Pair
all_pairs r = parts_of r.fields.items ++ fixed_response_pairs (length r.body.items)

phrase_of : Response → List ℕ
phrase_of r = unwrap_or (reason_phrase r.status) []

tree_of : Response → ResponseHead
tree_of r = record { blank = []; minor = 1; digits = decimal r.status; reason = Some (phrase_of r); line_end = crlf; fields = map line_of (all_pairs r); last = crlf }

lines_of : (r : Response) → flat_map print_field (map line_of (all_pairs r)) ≡ print_pairs (parts_of r.fields.items) ++ print_pairs (fixed_response_pairs (length r.body.items))
unfolding all_pairs
lines_of r =
    lines_print (parts_of r.fields.items ++ fixed_response_pairs (length r.body.items)) ∙ flat_map-append print_pair (parts_of r.fields.items) (fixed_response_pairs (length r.body.items))

first_line : (r : Response) → status_line r.status ≡ codes "HTTP/1.1 " ++ decimal r.status ++ 32 ∷ phrase_of r ++ crlf_bytes
unfolding phrase_of
first_line r = ap (λ u. u ++ codes "\r\n") (append_assoc (codes "HTTP/1.1 " ++ decimal r.status) (codes " ") (unwrap_or (reason_phrase r.status) []))

head_is : (r : Response) → spelled_response_head r ≡ print_response (tree_of r) ++ []
unfolding print_response tree_of
head_is r =
    let n = length r.body.items in
    let p = print_pairs (parts_of r.fields.items) in
    let f = print_pairs (fixed_response_pairs n) in
    let y = codes "HTTP/1.1 " ++ decimal r.status ++ 32 ∷ phrase_of r ++ crlf_bytes in
    ap (λ u. u ++ p ++ response_fields n) (first_line r)
    ∙ ap (λ u. y ++ p ++ u) (fixed_print n)
    ∙ append_assoc y p (f ++ crlf_bytes)
    ∙ ap (λ u. y ++ u) (sym (append_assoc p f crlf_bytes))
    ∙ ap (λ u. y ++ (u ++ crlf_bytes)) (sym (lines_of r))
    ∙ sym (append-nil (print_response (tree_of r)))

pub reads_back : (r s : Response) (a : List ℕ) → IsPlainResponse r → HasFixedResponseFields r s → SpellsResponse (spelled_response r) (Some a) s
unfolding tree_of all_pairs phrase_of Fine
reads_back r s a plain is =
    let n = length r.body.items in
    let ps = parts_of r.fields.items in
    let small : n < 2 ^ 64 = omega (arith, plain.body) in
    let code : r.status < 2 ^ 64 = omega (arith, plain.status.1) in
    let three : length (decimal r.status) ≤ 3 = length-decimal-le 3 r.status (omega arith) (omega (arith, plain.status.1)) code in
    let long : 3 ≤ length (decimal r.status) = decimal_long r.status plain.status.0 code in
    let pairs : All IsPair (ps ++ fixed_response_pairs n) = All-append IsPair ps (fixed_response_pairs n) plain.pairs (are_fixed n small) in
    let B : List Pair → Type 0 = λ fs. IsBody true (framing_of fs) r.body.items (Some a) r.body.items in
    let F : Framing → Type 0 = λ f. IsBody true f r.body.items (Some a) r.body.items in
    let S : List ℕ → Type 0 = λ body. IsBody true (framing_of (parts_of s.fields.items)) r.body.items (Some a) body in
    record {
      count = 0;
      few = omega arith;
      front = [];
      interim = record { each = []; are = All-nil IsInterim; count_is = refl; text_is = refl };
      head = spelled_response_head r;
      tail = r.body.items;
      split = refl;
      tree = tree_of r;
      spells = record {
        reads = (record { minor = omega arith; digits = (omega arith, decimal_digits r.status code); reason = AllPass-from_list_all is_value_byte (phrase_of r) (phrase_fine r.status); fields = lines_fields (ps ++ fixed_response_pairs n) pairs }, head_is r);
        few = omega (arith, length-map (ps ++ fixed_response_pairs n) line_of, length-append ps (fixed_response_pairs n), plain.few);
      };
      short = plain.short;
      final = ap is_interim (decimal_value r.status code) ∙ plain.final;
      has = record { status = is.status ∙ sym (decimal_value r.status code); fields = is.fields ∙ sym (lines_value (ps ++ fixed_response_pairs n) pairs) };
      plain = ap encoding_of is.fields ∙ plain_pairs ps n plain.silent;
      body = subst S (sym is.body) (subst B (sym is.fields) (subst F (sym (silent_frames ps (fixed_response_pairs n) Unsaid plain.silent ∙ fixed_frames n small)) (refl, refl, plain.body)));
    }
