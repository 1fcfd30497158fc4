-- The framing of fields is the one that the rules give.
use Rattle.std.proofs.Common.{◌≡◌, ℕ, ◌<◌, Bool, true, false, cond, List, [], ◌∷◌, ◌++◌, length, length-append, All, Option, Some, None, nat_eq, refl, sym, ap, subst, ◌∙◌, arith, append_assoc, codes}
use Rattle.std.proofs.lemmas.List.{append-nil}
use Rattle.std.proofs.lemmas.List.Elements.{All-nil, All-push, All-head, Contains-push, Contains-append_left}
use Rattle.std.proofs.lemmas.Bool.{eqb-true, eqb-false}
use Rattle.std.proofs.lemmas.Slice.Eq.{bytes_eq-Decides}
use Rattle.std.specs.Prelude.{fold}
use Rattle.std.specs.Str.{str_to_ascii_lowercase}
use Rattle.edge_kit.specs.Texts.{quoted_number}
use Rattle.http_wire.specs.declared.framing.Framing.{Framing}
use Rattle.http_wire.specs.declared.framing.Framing.TheVariants.{Unsaid, Sized, Chunked, Bad}
use Rattle.http_wire.specs.Framings.{Pair, is_named, sized_by, coded_by, framed_by, framing_of}
use Rattle.http_wire.specs.FramingRules.{values_of, is_chunked, IsAmbiguous, beside, unreadable, differing, other_coding, more_codings, FramesBy, IsFramedBy}

two_lengths : (n : ℕ) → n ≡ 14 → n ≡ 17 → ⊥
two_lengths n a b = absurd (omega arith)

-- a field has one of the names at most
one_name : (p : Pair) (b : Bool) → is_named p (codes "content-length") ≡ true → is_named p (codes "transfer-encoding") ≡ b → b ≡ false
one_name p false e t = refl
one_name p true e t =
    let a = (bytes_eq-Decides (str_to_ascii_lowercase p.0) (str_to_ascii_lowercase (codes "content-length"))).0 e in
    let b = (bytes_eq-Decides (str_to_ascii_lowercase p.0) (str_to_ascii_lowercase (codes "transfer-encoding"))).0 t in
    absurd (two_lengths (length (str_to_ascii_lowercase p.0)) (ap length a) (ap length b))

long_push : {X : Type 0} (xs : List X) (x : X) → 0 < length (xs ++ x ∷ [])
long_push xs x = omega (arith, length-append xs (x ∷ []))

longer_lengths : (lengths codings : List (List ℕ)) (v : List ℕ) → IsAmbiguous lengths codings → IsAmbiguous (lengths ++ v ∷ []) codings
longer_lengths lengths codings v (beside l c) = beside (long_push lengths v) c
longer_lengths lengths codings v (unreadable u m e) = unreadable u (Contains-append_left lengths (v ∷ []) u m) e
longer_lengths lengths codings v (differing u w m n cu cw eu ew d) = differing u w m n (Contains-append_left lengths (v ∷ []) u cu) (Contains-append_left lengths (v ∷ []) w cw) eu ew d
longer_lengths lengths codings v (other_coding u m e) = other_coding u m e
longer_lengths lengths codings v (more_codings l) = more_codings l

longer_codings : (lengths codings : List (List ℕ)) (v : List ℕ) → IsAmbiguous lengths codings → IsAmbiguous lengths (codings ++ v ∷ [])
longer_codings lengths codings v (beside l c) = beside l (long_push codings v)
longer_codings lengths codings v (unreadable u m e) = unreadable u m e
longer_codings lengths codings v (differing u w m n cu cw eu ew d) = differing u w m n cu cw eu ew d
longer_codings lengths codings v (other_coding u m e) = other_coding u (Contains-append_left codings (v ∷ []) u m) e
longer_codings lengths codings v (more_codings l) = more_codings (omega (arith, length-append codings (v ∷ [])))

-- a length beside others
same_or_not : (lengths codings : List (List ℕ)) (v : List ℕ) (m n : ℕ) (b : Bool) → nat_eq m n ≡ b → quoted_number v ≡ Some n → FramesBy lengths codings (Sized m)
    → FramesBy (lengths ++ v ∷ []) codings (cond b (Sized m) Bad)
same_or_not lengths codings v m n true t e h =
    (h.0, long_push lengths v, All-push (λ u. quoted_number u ≡ Some m) lengths v h.2 (e ∙ ap (λ (k : ℕ). Some k) (sym (eqb-true m n t))))
same_or_not [] codings v m n false t e h = absurd (let none : 0 < 0 = h.1 in omega arith)
same_or_not (w ∷ ws) codings v m n false t e h =
    differing w v m n (Contains-append_left (w ∷ ws) (v ∷ []) w (0, omega arith, refl)) (Contains-push (w ∷ ws) v) (All-head (λ u. quoted_number u ≡ Some m) w ws h.2) e (eqb-false m n t)

sized_more : (lengths codings : List (List ℕ)) (f : Framing) (v : List ℕ) (q : Option ℕ) → quoted_number v ≡ q → FramesBy lengths codings f → FramesBy (lengths ++ v ∷ []) codings (sized_by q f)
sized_more lengths codings f v None e h = unreadable v (Contains-push lengths v) e
sized_more lengths codings Unsaid v (Some n) e h =
    let P : List ℕ → Type 0 = λ u. quoted_number u ≡ Some n in
    let A : List (List ℕ) → Type 0 = λ l. All P l in
    (h.1, long_push lengths v, All-push P lengths v (subst A (sym h.0) (All-nil P)) e)
sized_more lengths codings (Sized m) v (Some n) e h = same_or_not lengths codings v m n (nat_eq m n) refl e h
sized_more lengths codings Chunked v (Some n) e h = beside (long_push lengths v) (omega (arith, ap length h.2))
sized_more lengths codings Bad v (Some n) e h = longer_lengths lengths codings v h

coded_more : (lengths codings : List (List ℕ)) (f : Framing) (v : List ℕ) (b : Bool) → is_chunked v ≡ b → FramesBy lengths codings f → FramesBy lengths (codings ++ v ∷ []) (coded_by b f)
coded_more lengths codings f v false e h = other_coding v (Contains-push codings v) e
coded_more lengths codings Unsaid v true e h = (h.0, v, ap (λ c. c ++ v ∷ []) h.1, e)
coded_more lengths codings (Sized m) v true e h = beside h.1 (long_push codings v)
coded_more lengths codings Chunked v true e h = more_codings (omega (arith, ap length h.2, length-append codings (v ∷ [])))
coded_more lengths codings Bad v true e h = longer_codings lengths codings v h

-- one field more, where the rest goes on as the rules say
abbrev Rest : List Pair → Type 0
Rest fields =
    (lengths codings : List (List ℕ)) (f : Framing) → FramesBy lengths codings f
    → FramesBy (lengths ++ values_of (codes "content-length") fields) (codings ++ values_of (codes "transfer-encoding") fields) (fold framed_by f fields)

one_more : (p : Pair) (fields : List Pair) → Rest fields → (lengths codings : List (List ℕ)) (f : Framing) → FramesBy lengths codings f
    → (a b : Bool) → is_named p (codes "content-length") ≡ a → is_named p (codes "transfer-encoding") ≡ b
    → FramesBy (lengths ++ cond a (p.1 ∷ values_of (codes "content-length") fields) (values_of (codes "content-length") fields))
    (codings ++ cond b (p.1 ∷ values_of (codes "transfer-encoding") fields) (values_of (codes "transfer-encoding") fields))
    (fold framed_by (cond a (sized_by (quoted_number p.1) f) (cond b (coded_by (is_chunked p.1) f) f)) fields)
one_more p fields rest lengths codings f h true true e t = absurd (let bad : true ≡ false = one_name p true e t in cc)
one_more p fields rest lengths codings f h true false e t =
    let g = sized_by (quoted_number p.1) f in
    let F : List (List ℕ) → Type 0 = λ l. FramesBy l (codings ++ values_of (codes "transfer-encoding") fields) (fold framed_by g fields) in
    subst F (append_assoc lengths (p.1 ∷ []) (values_of (codes "content-length") fields)) (rest (lengths ++ p.1 ∷ []) codings g (sized_more lengths codings f p.1 (quoted_number p.1) refl h))
one_more p fields rest lengths codings f h false true e t =
    let g = coded_by (is_chunked p.1) f in
    let F : List (List ℕ) → Type 0 = λ c. FramesBy (lengths ++ values_of (codes "content-length") fields) c (fold framed_by g fields) in
    subst F (append_assoc codings (p.1 ∷ []) (values_of (codes "transfer-encoding") fields)) (rest lengths (codings ++ p.1 ∷ []) g (coded_more lengths codings f p.1 (is_chunked p.1) refl h))
one_more p fields rest lengths codings f h false false e t = rest lengths codings f h

rules_from : (fields : List Pair) → Rest fields
rules_from [] lengths codings f h =
    let L : List (List ℕ) → Type 0 = λ l. FramesBy l codings f in
    let C : List (List ℕ) → Type 0 = λ c. FramesBy (lengths ++ []) c f in
    subst C (sym (append-nil codings)) (subst L (sym (append-nil lengths)) h)
rules_from (p ∷ fields) lengths codings f h = one_more p fields (rules_from fields) lengths codings f h (is_named p (codes "content-length")) (is_named p (codes "transfer-encoding")) refl refl

pub framed_by_rules : (fields : List Pair) → IsFramedBy fields (framing_of fields)
framed_by_rules fields = rules_from fields [] [] Unsaid (refl, refl)
