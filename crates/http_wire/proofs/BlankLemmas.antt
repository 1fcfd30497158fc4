-- Empty lines begin no head.
use Rattle.std.proofs.Common.{◌≡◌, ℕ, true, false, List, [], ◌∷◌, ◌++◌, refl, sym, ap, ◌∙◌, append_assoc}
use Rattle.std.proofs.lemmas.List.{append-nil}
use Rattle.std.proofs.lemmas.Bool.{and_parts}
use Rattle.std.specs.List.{list_all}
use Rattle.httparse.specs.Ascii.{space}
use Rattle.httparse.specs.Grammar.{print_blank, print_version, RequestHead, print_request, ResponseHead, print_response}
use Rattle.http_wire.specs.Fronts.{HasNoFront, HasText, is_line_byte}
use Rattle.http_wire.specs.Heads.{IsRequestText, IsResponseText}

-- only CR and LF
abbrev pub IsBlank : List ℕ → Type 0
IsBlank text = list_all is_line_byte text ≡ true

pub blank-more : (text : List ℕ) (b : ℕ) → IsBlank text → is_line_byte b ≡ true → IsBlank (text ++ b ∷ [])
blank-more [] b all line = rw line refl
blank-more (x ∷ xs) b all line =
    let parts = and_parts (is_line_byte x) (list_all is_line_byte xs) all in rw (parts.0) (blank-more xs b parts.1 line)

blank_byte : (front : List ℕ) (b : ℕ) (rest : List ℕ) → IsBlank (front ++ b ∷ rest) → is_line_byte b ≡ true
blank_byte [] b rest all = (and_parts (is_line_byte b) (list_all is_line_byte rest) all).0
blank_byte (x ∷ xs) b rest all = blank_byte xs b rest (and_parts (is_line_byte x) (list_all is_line_byte (xs ++ b ∷ rest)) all).1

-- no front of empty lines has text
pub blank_no_front : (P : List ℕ → Type 0) (text : List ℕ) → ((t : List ℕ) → P t → HasText t) → IsBlank text → HasNoFront P text
blank_no_front P text solid all = record {
  none = λ t rest p e.
      let h = solid t p in
      let split : text ≡ h.front ++ h.byte ∷ (h.rest ++ rest) = e ∙ ap (λ u. u ++ rest) h.split ∙ append_assoc h.front (h.byte ∷ h.rest) rest in
      let line = blank_byte h.front h.byte (h.rest ++ rest) (ap (list_all is_line_byte) (sym split) ∙ all) in
      let bad : false ≡ true = sym h.other ∙ line in absurd (cc);
}

text-append : (a b : List ℕ) → HasText a → HasText (a ++ b)
text-append a b h = record { front = h.front; byte = h.byte; rest = h.rest ++ b; split = ap (λ u. u ++ b) h.split ∙ append_assoc h.front (h.byte ∷ h.rest) b; other = h.other }

text-space : (a b : List ℕ) → HasText (a ++ space ∷ b)
text-space a b = record { front = a; byte = space; rest = b; split = refl; other = refl }

request_print : (h : RequestHead) → HasText (print_request h)
unfolding print_request
request_print h = text-append _ _ (text-append _ _ (text-append _ _ (text-space (print_blank h.blank ++ h.method) h.target)))

response_print : (h : ResponseHead) → HasText (print_response h)
unfolding print_response
response_print h = text-append _ _ (text-append _ _ (text-append _ _ (text-space (print_blank h.blank ++ print_version h.minor) h.digits)))

same_text : (text printed : List ℕ) → text ≡ printed ++ [] → HasText printed → HasText text
same_text text printed e h = record { front = h.front; byte = h.byte; rest = h.rest; split = e ∙ append-nil printed ∙ h.split; other = h.other }

pub request_text : (text : List ℕ) → IsRequestText text → HasText text
request_text text f = same_text text (print_request f.0) f.1.reads.1 (request_print f.0)

pub response_text : (text : List ℕ) → IsResponseText text → HasText text
response_text text f = same_text text (print_response f.0) f.1.reads.1 (response_print f.0)
