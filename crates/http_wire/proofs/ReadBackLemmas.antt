-- A request that is written reads back.
use Rattle.std.proofs.Common.{◌≡◌, ℕ, ◌<◌, ◌≤◌, ◌^◌, Bool, true, false, cond, List, [], ◌∷◌, ◌++◌, length, length-append, get_or, map, reverse, find, All, Option, Some, None, nat_eq, refl, sym, ap, subst, ◌∙◌, arith, append_assoc, codes}
use Rattle.std.specs.Prelude.{fold, decimal, IsTrue}
use Rattle.std.specs.List.{flat_map, list_all}
use Rattle.std.specs.Char.{is_ascii_digit}
use Rattle.std.specs.Option.{option_map}
use Rattle.std.proofs.lemmas.List.{append-nil, nil_from_length, length-map}
use Rattle.std.proofs.lemmas.List.Elements.{All-nil, All-cons, All-head, All-tail, All-append}
use Rattle.std.proofs.lemmas.List.Sums.{AllPass-from_list_all}
use Rattle.std.proofs.lemmas.Grind.{flat_map-append}
use Rattle.std.proofs.lemmas.Bool.{eqb-true}
use Rattle.std.proofs.lemmas.Bool.Decides.{nat_tests}
use Rattle.edge_kit.proofs.TextLemmas.{quoted_number-decimal, digits-decimal}
use Rattle.httparse.specs.Ascii.{crlf_bytes}
use Rattle.httparse.specs.Grammar.{Field, crlf, print_field, RequestHead, IsField, AllPass, is_token_byte, is_value_byte, is_ows, skip_ows, print_request}
use Rattle.httparse.specs.Spans.{name_and_value}
use Rattle.httparse.proofs.TrimLemmas.{trim_ows_space, AllPass-reverse}
use Rattle.http_wire.specs.declared.framing.Framing.{Framing}
use Rattle.http_wire.specs.declared.framing.Framing.TheVariants.{Unsaid, Sized}
use Rattle.http_wire.specs.declared.message.Request.{Request}
use Rattle.http_wire.specs.Framings.{Pair, is_named, is_encoding, encoding_of, sized_by, framed_by, framing_of, body_limit}
use Rattle.http_wire.specs.Parts.{parts_of}
use Rattle.http_wire.specs.Bodies.{IsBody}
use Rattle.http_wire.specs.Messages.{SpellsRequest}
use Rattle.http_wire.specs.Spellings.{print_pair, print_pairs, sized_fields, body_fields, spelled_request_head, spelled_request}
use Rattle.http_wire.specs.ReadBack.{body_pairs, fixed_pairs, IsPair, IsSilent, IsPlainRequest, HasFixedFields}

-- ---- field lines

pub line_of : Pair → Field
line_of p = record { name = p.0; raw = 32 ∷ p.1; end = crlf }

line_print : (p : Pair) → print_field (line_of p) ≡ print_pair p
unfolding line_of
line_print p = sym (ap (λ u. u ++ codes "\r\n") (append_assoc p.0 (codes ": ") p.1))

pub lines_print : (ps : List Pair) → flat_map print_field (map line_of ps) ≡ print_pairs ps
lines_print [] = refl
lines_print (p ∷ ps) = ap (λ u. u ++ flat_map print_field (map line_of ps)) (line_print p) ∙ ap (λ u. print_pair p ++ u) (lines_print ps)

line_value : (p : Pair) → IsPair p → name_and_value (line_of p) ≡ p
unfolding line_of
line_value p is = ap (λ (v : List ℕ). (p.0, v)) (trim_ows_space p.1 is.front is.back)

pub lines_value : (ps : List Pair) → All IsPair ps → map name_and_value (map line_of ps) ≡ ps
lines_value [] are = refl
lines_value (p ∷ ps) are =
    ap (λ (q : Pair). q ∷ map name_and_value (map line_of ps)) (line_value p (All-head IsPair p ps are)) ∙ ap (λ (qs : List Pair). p ∷ qs) (lines_value ps (All-tail IsPair p ps are))

line_field : (p : Pair) → IsPair p → IsField (line_of p)
unfolding line_of
line_field p is = record { name = is.name; raw = All-cons (λ b. IsTrue (is_value_byte b)) 32 p.1 refl is.value }

pub lines_fields : (ps : List Pair) → All IsPair ps → All IsField (map line_of ps)
lines_fields [] are = All-nil IsField
lines_fields (p ∷ ps) are = All-cons IsField (line_of p) (map line_of ps) (line_field p (All-head IsPair p ps are)) (lines_fields ps (All-tail IsPair p ps are))

-- ---- the fixed fields

digit_solid : (d : ℕ) → is_ascii_digit d ≡ true → is_ows d ≡ false
digit_solid d digit = grind (arith, nat_tests)

digit_value_byte : (d : ℕ) → is_ascii_digit d ≡ true → is_value_byte d ≡ true
digit_value_byte d digit = grind (arith, nat_tests)

skip_digits : (ds : List ℕ) → AllPass is_ascii_digit ds → skip_ows ds ≡ ds
skip_digits [] all = refl
skip_digits (d ∷ ds) all = let solid : is_ows d ≡ false = digit_solid d (All-head (λ b. IsTrue (is_ascii_digit b)) d ds all) in rw solid refl

pub decimal_digits : (n : ℕ) → n < 2 ^ 64 → AllPass is_ascii_digit (decimal n)
decimal_digits n small = AllPass-from_list_all is_ascii_digit (decimal n) (digits-decimal n small)

pub literal_pair : (p : Pair) → 0 < length p.0 → list_all is_token_byte p.0 ≡ true → list_all is_value_byte p.1 ≡ true → skip_ows p.1 ≡ p.1 → skip_ows (reverse p.1) ≡ reverse p.1 → IsPair p
literal_pair p some name value front back = record { name = (some, AllPass-from_list_all is_token_byte p.0 name); value = AllPass-from_list_all is_value_byte p.1 value; front = front; back = back }

pub length_pair : (n : ℕ) → n < 2 ^ 64 → IsPair (codes "Content-Length", decimal n)
unfolding is_token_byte
length_pair n small =
    let digits = decimal_digits n small in
    record {
      name = (omega arith, AllPass-from_list_all is_token_byte (codes "Content-Length") refl);
      value = λ k d lt. digit_value_byte (get_or (decimal n) k d) (digits k d lt);
      front = skip_digits (decimal n) digits;
      back = skip_digits (reverse (decimal n)) (AllPass-reverse is_ascii_digit (decimal n) digits);
    }

rest_pairs : (n : ℕ) (b : Bool) → n < 2 ^ 64 → All IsPair (cond b [] (body_pairs n))
unfolding is_token_byte
rest_pairs n true small = All-nil IsPair
rest_pairs n false small =
    All-cons IsPair (codes "Content-Type", codes "application/json") ((codes "Content-Length", decimal n) ∷ []) (literal_pair (codes "Content-Type", codes "application/json") (omega arith) refl refl refl refl)
    (All-cons IsPair (codes "Content-Length", decimal n) [] (length_pair n small) (All-nil IsPair))

are_fixed : (n : ℕ) → n < 2 ^ 64 → All IsPair (fixed_pairs n)
unfolding is_token_byte
are_fixed n small =
    All-cons IsPair (codes "Accept", codes "application/json") ((codes "Connection", codes "close") ∷ cond (nat_eq n 0) [] (body_pairs n)) (literal_pair (codes "Accept", codes "application/json") (omega arith) refl refl refl refl)
    (All-cons IsPair (codes "Connection", codes "close") (cond (nat_eq n 0) [] (body_pairs n)) (literal_pair (codes "Connection", codes "close") (omega arith) refl refl refl refl) (rest_pairs n (nat_eq n 0) small))

rest_print : (n : ℕ) (b : Bool) → print_pairs ((codes "Accept", codes "application/json") ∷ (codes "Connection", codes "close") ∷ cond b [] (body_pairs n)) ≡ codes "Accept: application/json\r\nConnection: close\r\n" ++ cond b [] (sized_fields n)
rest_print n true = refl
rest_print n false = ap (λ u. codes "Accept: application/json\r\nConnection: close\r\nContent-Type: application/json\r\nContent-Length: " ++ u) (append-nil (decimal n ++ codes "\r\n"))

fixed_print : (n : ℕ) → print_pairs (fixed_pairs n) ≡ codes "Accept: application/json\r\nConnection: close\r\n" ++ body_fields n
fixed_print n = rest_print n (nat_eq n 0)

rest_few : (n : ℕ) (b : Bool) → length (cond b [] (body_pairs n)) ≤ 2
rest_few n true = omega arith
rest_few n false = omega arith

-- ---- what they say of the body

no_encoding : (p : Pair) → IsSilent p → is_encoding p ≡ false
no_encoding p silent = let e : is_named p (codes "content-encoding") ≡ false = silent.encoding in rw e refl

pub none_encodes : (ps qs : List Pair) → All IsSilent ps → find is_encoding (ps ++ qs) ≡ find is_encoding qs
none_encodes [] qs are = refl
none_encodes (p ∷ ps) qs are = let e : is_encoding p ≡ false = no_encoding p (All-head IsSilent p ps are) in ap (λ b. cond b (Some p) (find is_encoding (ps ++ qs))) e ∙ none_encodes ps qs (All-tail IsSilent p ps are)

rest_encodes : (n : ℕ) (b : Bool) → find is_encoding ((codes "Accept", codes "application/json") ∷ (codes "Connection", codes "close") ∷ cond b [] (body_pairs n)) ≡ None
rest_encodes n true = refl
rest_encodes n false = refl

plain_pairs : (ps : List Pair) (n : ℕ) → All IsSilent ps → encoding_of (ps ++ fixed_pairs n) ≡ None
plain_pairs ps n are = ap (λ (o : Option Pair). option_map (λ p. p.1) o) (none_encodes ps (fixed_pairs n) are ∙ rest_encodes n (nat_eq n 0))

silent_frame : (f : Framing) (p : Pair) → IsSilent p → framed_by f p ≡ f
silent_frame f p silent =
    let l : is_named p (codes "content-length") ≡ false = silent.length in let t : is_named p (codes "transfer-encoding") ≡ false = silent.transfer in rw (l, t) refl

pub silent_frames : (ps qs : List Pair) (f : Framing) → All IsSilent ps → fold framed_by f (ps ++ qs) ≡ fold framed_by f qs
silent_frames [] qs f are = refl
silent_frames (p ∷ ps) qs f are = ap (λ (g : Framing). fold framed_by g (ps ++ qs)) (silent_frame f p (All-head IsSilent p ps are)) ∙ silent_frames ps qs f (All-tail IsSilent p ps are)

rest_frames : (n : ℕ) (b : Bool) → n < 2 ^ 64 → fold framed_by Unsaid ((codes "Accept", codes "application/json") ∷ (codes "Connection", codes "close") ∷ cond b [] (body_pairs n)) ≡ cond b Unsaid (Sized n)
rest_frames n true small = refl
rest_frames n false small = ap (λ (q : Option ℕ). sized_by q Unsaid) (quoted_number-decimal n small)

framed_pairs : (ps : List Pair) (n : ℕ) → n < 2 ^ 64 → All IsSilent ps → framing_of (ps ++ fixed_pairs n) ≡ cond (nat_eq n 0) Unsaid (Sized n)
framed_pairs ps n small are = silent_frames ps (fixed_pairs n) Unsaid are ∙ rest_frames n (nat_eq n 0) small

framed_body : (body a : List ℕ) (b : Bool) → nat_eq (length body) 0 ≡ b → length body ≤ body_limit → IsBody false (cond b Unsaid (Sized (length body))) body (Some a) body
framed_body body a true e within = let none = nil_from_length body (eqb-true (length body) 0 e) in (none, none)
framed_body body a false e within = (refl, refl, within)

-- ---- the whole head

all_pairs : Request → List Pair
all_pairs r = parts_of r.fields.items ++ fixed_pairs (length r.body.items)

tree_of : Request → RequestHead
tree_of r = record { blank = []; method = r.method; target = r.target.items; minor = 1; line_end = crlf; fields = map line_of (all_pairs r); last = crlf }

lines_of : (r : Request) → flat_map print_field (map line_of (all_pairs r)) ≡ print_pairs (parts_of r.fields.items) ++ (codes "Accept: application/json\r\nConnection: close\r\n" ++ body_fields (length r.body.items))
unfolding all_pairs
lines_of r =
    lines_print (parts_of r.fields.items ++ fixed_pairs (length r.body.items))
    ∙ flat_map-append print_pair (parts_of r.fields.items) (fixed_pairs (length r.body.items))
    ∙ ap (λ u. print_pairs (parts_of r.fields.items) ++ u) (fixed_print (length r.body.items))

first_line : (m t : List ℕ) → m ++ codes " " ++ t ++ codes " HTTP/1.1\r\n" ≡ m ++ 32 ∷ t ++ codes " HTTP/1.1" ++ crlf_bytes
first_line m t = ap (λ u. u ++ codes " HTTP/1.1\r\n") (append_assoc m (codes " ") t) ∙ sym (append_assoc (m ++ 32 ∷ t) (codes " HTTP/1.1") crlf_bytes)

regroup : (y p a b c : List ℕ) → y ++ p ++ a ++ b ++ c ≡ y ++ ((p ++ (a ++ b)) ++ c)
regroup y p a b c = ap (λ u. u ++ c) (append_assoc (y ++ p) a b ∙ append_assoc y p (a ++ b)) ∙ append_assoc y (p ++ (a ++ b)) c

head_is : (r : Request) → spelled_request_head r ≡ print_request (tree_of r) ++ []
unfolding print_request tree_of
head_is r =
    let m = r.method in
    let t = r.target.items in
    let p = print_pairs (parts_of r.fields.items) in
    let a = codes "Accept: application/json\r\nConnection: close\r\n" in
    let b = body_fields (length r.body.items) in
    let y = m ++ 32 ∷ t ++ codes " HTTP/1.1" ++ crlf_bytes in
    ap (λ u. u ++ p ++ a ++ b ++ crlf_bytes) (first_line m t)
    ∙ regroup y p a b crlf_bytes
    ∙ ap (λ u. y ++ (u ++ crlf_bytes)) (sym (lines_of r))
    ∙ sym (append-nil (print_request (tree_of r)))

pub reads_back : (r s : Request) (a : List ℕ) → IsPlainRequest r → HasFixedFields r s → SpellsRequest (spelled_request r) (Some a) s
unfolding tree_of all_pairs
reads_back r s a plain is =
    let n = length r.body.items in
    let ps = parts_of r.fields.items in
    let small : n < 2 ^ 64 = omega (arith, plain.body) in
    let pairs : All IsPair (ps ++ fixed_pairs n) = All-append IsPair ps (fixed_pairs n) plain.pairs (are_fixed n small) in
    let B : List Pair → Type 0 = λ fs. IsBody false (framing_of fs) r.body.items (Some a) r.body.items in
    let F : Framing → Type 0 = λ f. IsBody false f r.body.items (Some a) r.body.items in
    let S : List ℕ → Type 0 = λ body. IsBody false (framing_of (parts_of s.fields.items)) r.body.items (Some a) body in
    record {
      head = spelled_request_head r;
      tail = r.body.items;
      split = refl;
      tree = tree_of r;
      spells = record {
        reads = (record { method = plain.method; target = plain.target; target_text = plain.target_text; minor = omega arith; fields = lines_fields (ps ++ fixed_pairs n) pairs }, head_is r);
        few = omega (arith, length-map (ps ++ fixed_pairs n) line_of, length-append ps (fixed_pairs n), plain.few, rest_few n (nat_eq n 0));
      };
      short = plain.short;
      has = record { method = is.method; target = is.target; fields = is.fields ∙ sym (lines_value (ps ++ fixed_pairs n) pairs) };
      plain = ap encoding_of is.fields ∙ plain_pairs ps n plain.silent;
      body = subst S (sym is.body) (subst B (sym is.fields) (subst F (sym (framed_pairs ps n small plain.silent)) (framed_body r.body.items a (nat_eq n 0) refl plain.body)));
    }
