-- One reading of responses, and none that is refused where one stands.
use Rattle.std.proofs.Common.{◌≡◌, ◌⊎◌, inl, inr, ℕ, ◌≤◌, true, false, List, [], ◌∷◌, ◌++◌, length, map, All, Option, Some, None, refl, sym, ap, subst, ◌∙◌, arith, append_assoc}
use Rattle.std.proofs.lemmas.List.{append-nil}
use Rattle.std.proofs.lemmas.List.Elements.{All-head, All-tail}
use Rattle.std.specs.List.{flat_map}
use Rattle.httparse.specs.Grammar.{ResponseHead, ReadsResponse, print_response, status_code}
use Rattle.httparse.specs.Spans.{name_and_value}
use Rattle.httparse.proofs.GrammarLemmas.{response_unique, ReadsResponse-append}
use Rattle.http_wire.specs.declared.message.Response.{Response}
use Rattle.http_wire.specs.declared.message.WireFault.{WireFault}
use Rattle.http_wire.specs.declared.message.WireFault.TheVariants as fault
use Rattle.http_wire.specs.Fronts.{StopsWithin}
use Rattle.http_wire.specs.Heads.{SpellsResponseHead, IsResponseText, head_limit}
use Rattle.http_wire.specs.Framings.{Pair, framing_of}
use Rattle.http_wire.specs.Parts.{parts_of}
use Rattle.http_wire.specs.Bodies.{IsBody}
use Rattle.http_wire.specs.Messages.{is_interim, IsInterim, SpellsResponse, BeginsResponse, HasNoResponseHead, IsNoResponse, IsSameResponse}
use Rattle.http_wire.proofs.FrontLemmas.{stops_whole}
use Rattle.http_wire.proofs.UniqueLemmas.{body_unique}
use Rattle.http_wire.proofs.RefusalLemmas.{body_stands, body_within}

-- the texts, one after another
abbrev pub joined : List (List ℕ) → List ℕ
joined texts = flat_map (λ t. t) texts

-- a head of another status than those that are passed over
pub record IsFinal (text : List ℕ) (tree : ResponseHead) : Type 0 where
  pub spells : SpellsResponseHead text tree
  pub short : length text ≤ head_limit
  pub final : is_interim (status_code tree) ≡ false

head_text : (text : List ℕ) (h : ResponseHead) → SpellsResponseHead text h → text ≡ print_response h
head_text text h s = s.reads.1 ∙ append-nil (print_response h)

head_same : (h x k y : List ℕ) (t u : ResponseHead) → SpellsResponseHead h t → SpellsResponseHead k u → h ++ x ≡ k ++ y → (t ≡ u) × (h ≡ k) × (x ≡ y)
head_same h x k y t u p q e =
    let R : List ℕ → Type 0 = λ v. ReadsResponse v u y in
    let same = response_unique (h ++ x) t u x y (ReadsResponse-append h t [] x p.reads) (subst R (sym e) (ReadsResponse-append k u [] y q.reads)) in
    (same.0, head_text h t p ∙ ap print_response same.0 ∙ sym (head_text k u q), same.1)

-- a final head is no interim one
not_interim : (h x k y : List ℕ) (t : ResponseHead) → IsFinal h t → IsInterim k → h ++ x ≡ k ++ y → ⊥
not_interim h x k y t f i e =
    let same = (head_same h x k y t i.tree f.spells i.spells e).0 in
    let clash : false ≡ true = sym f.final ∙ ap (λ (r : ResponseHead). is_interim (status_code r)) same ∙ i.status in
    absurd (cc)

joined_split : (t : List ℕ) (ts : List (List ℕ)) (x : List ℕ) → joined (t ∷ ts) ++ x ≡ t ++ (joined ts ++ x)
joined_split t ts x = append_assoc t (joined ts) x

heads_unique : (ts us : List (List ℕ)) (h k x y : List ℕ) (t u : ResponseHead) → All IsInterim ts → All IsInterim us → IsFinal h t → IsFinal k u
    → joined ts ++ (h ++ x) ≡ joined us ++ (k ++ y) → (ts ≡ us) × (t ≡ u) × (h ≡ k) × (x ≡ y)
heads_unique [] [] h k x y t u p q f g e =
    let same = head_same h x k y t u f.spells g.spells e in
    (refl, same.0, same.1, same.2)
heads_unique [] (v ∷ us) h k x y t u p q f g e = absurd (not_interim h x v (joined us ++ (k ++ y)) t f (All-head IsInterim v us q) (e ∙ joined_split v us (k ++ y)))
heads_unique (w ∷ ts) [] h k x y t u p q f g e = absurd (not_interim k y w (joined ts ++ (h ++ x)) u g (All-head IsInterim w ts p) (sym e ∙ joined_split w ts (h ++ x)))
heads_unique (w ∷ ts) (v ∷ us) h k x y t u p q f g e =
    let one = All-head IsInterim w ts p in
    let two = All-head IsInterim v us q in
    let same = head_same w (joined ts ++ (h ++ x)) v (joined us ++ (k ++ y)) one.tree two.tree one.spells two.spells (sym (joined_split w ts (h ++ x)) ∙ e ∙ joined_split v us (k ++ y)) in
    let rest = heads_unique ts us h k x y t u (All-tail IsInterim w ts p) (All-tail IsInterim v us q) f g same.2 in
    (λ i. same.1 i ∷ rest.0 i, rest.1, rest.2, rest.3)

final_of : (x : List ℕ) (left : Option (List ℕ)) (r : Response) → (p : SpellsResponse x left r) → IsFinal p.head p.tree
final_of x left r p = record { spells = p.spells; short = p.short; final = p.final }

final_begun : (P : List Pair → List ℕ → Type 0) (x : List ℕ) → (p : BeginsResponse P x) → IsFinal p.head p.tree
final_begun P x p = record { spells = p.spells; short = p.short; final = p.final }

split_stream : (x front head tail a : List ℕ) → x ≡ front ++ (head ++ tail) → x ++ a ≡ front ++ (head ++ (tail ++ a))
split_stream x front head tail a e = ap (λ u. u ++ a) e ∙ append_assoc front (head ++ tail) a ∙ ap (λ u. front ++ u) (append_assoc head tail a)

pub one_response : (x a y b : List ℕ) (r s : Response) → SpellsResponse x (Some a) r → SpellsResponse y (Some b) s → x ++ a ≡ y ++ b → (x ≡ y) × IsSameResponse r s
one_response x a y b r s p q e =
    let left : joined p.interim.each ++ (p.head ++ (p.tail ++ a)) ≡ x ++ a = sym (ap (λ f. f ++ (p.head ++ (p.tail ++ a))) p.interim.text_is) ∙ sym (split_stream x p.front p.head p.tail a p.split) in
    let right : y ++ b ≡ joined q.interim.each ++ (q.head ++ (q.tail ++ b)) = split_stream y q.front q.head q.tail b q.split ∙ ap (λ f. f ++ (q.head ++ (q.tail ++ b))) q.interim.text_is in
    let same = heads_unique p.interim.each q.interim.each p.head q.head (p.tail ++ a) (q.tail ++ b) p.tree q.tree p.interim.are q.interim.are (final_of x (Some a) r p) (final_of y (Some b) s q) (left ∙ e ∙ right) in
    let fields : parts_of r.fields.items ≡ parts_of s.fields.items = p.has.fields ∙ ap (λ (h : ResponseHead). map name_and_value h.fields) same.1 ∙ sym q.has.fields in
    let B : List Pair → Type 0 = λ f. IsBody true (framing_of f) q.tail (Some b) s.body.items in
    let bodies = body_unique true (framing_of (parts_of r.fields.items)) p.tail a q.tail b r.body.items s.body.items p.body (subst B (sym fields) q.body) same.3 in
    let fronts : p.front ≡ q.front = p.interim.text_is ∙ ap joined same.0 ∙ sym q.interim.text_is in (
      p.split ∙ ap (λ u. u ++ (p.head ++ p.tail)) fronts ∙ ap (λ u. q.front ++ (u ++ p.tail)) same.2 ∙ ap (λ u. q.front ++ (q.head ++ u)) bodies.0 ∙ sym q.split,
      record { status = p.has.status ∙ ap status_code same.1 ∙ sym q.has.status; fields = fields; body = bodies.1 },
    )

-- where heads were read no head is stuck
heads_stand : (ts us : List (List ℕ)) (h x w b : List ℕ) (t : ResponseHead) → All IsInterim ts → All IsInterim us → IsFinal h t → StopsWithin IsResponseText head_limit w (Some b)
    → joined ts ++ (h ++ x) ≡ joined us ++ (w ++ b) → ⊥
heads_stand [] [] h x w b t p q f stuck e = (stops_whole IsResponseText head_limit w b stuck).none h x (record { form = (t, f.spells); short = f.short }) (sym e)
heads_stand (k ∷ ts) [] h x w b t p q f stuck e =
    let one = All-head IsInterim k ts p in
    (stops_whole IsResponseText head_limit w b stuck).none k (joined ts ++ (h ++ x)) (record { form = (one.tree, one.spells); short = one.short }) (sym e ∙ joined_split k ts (h ++ x))
heads_stand [] (v ∷ us) h x w b t p q f stuck e = not_interim h x v (joined us ++ (w ++ b)) t f (All-head IsInterim v us q) (e ∙ joined_split v us (w ++ b))
heads_stand (k ∷ ts) (v ∷ us) h x w b t p q f stuck e =
    let one = All-head IsInterim k ts p in
    let two = All-head IsInterim v us q in
    let same = head_same k (joined ts ++ (h ++ x)) v (joined us ++ (w ++ b)) one.tree two.tree one.spells two.spells (sym (joined_split k ts (h ++ x)) ∙ e ∙ joined_split v us (w ++ b)) in
    heads_stand ts us h x w b t (All-tail IsInterim k ts p) (All-tail IsInterim v us q) f stuck same.2

-- nor are there more interim ones
heads_count : (ts us : List (List ℕ)) (h x w : List ℕ) (t : ResponseHead) → All IsInterim ts → All IsInterim us → IsFinal h t → joined ts ++ (h ++ x) ≡ joined us ++ w → length us ≤ length ts
heads_count ts [] h x w t p q f e = omega arith
heads_count [] (v ∷ us) h x w t p q f e = absurd (not_interim h x v (joined us ++ w) t f (All-head IsInterim v us q) (e ∙ joined_split v us w))
heads_count (k ∷ ts) (v ∷ us) h x w t p q f e =
    let one = All-head IsInterim k ts p in
    let two = All-head IsInterim v us q in
    let same = head_same k (joined ts ++ (h ++ x)) v (joined us ++ w) one.tree two.tree one.spells two.spells (sym (joined_split k ts (h ++ x)) ∙ e ∙ joined_split v us w) in
    let below = heads_count ts us h x w t (All-tail IsInterim k ts p) (All-tail IsInterim v us q) f same.2 in
    omega (arith, below)

no_head_why : (ts us : List (List ℕ)) (h x w b : List ℕ) (t : ResponseHead) (n : ℕ) → All IsInterim ts → All IsInterim us → IsFinal h t → length ts ≤ 8 → length us ≡ n
    → ((n ≤ 8) × StopsWithin IsResponseText head_limit w (Some b)) ⊎ ((n ≡ 9) × (w ≡ [])) → joined ts ++ (h ++ x) ≡ joined us ++ (w ++ b) → ⊥
no_head_why ts us h x w b t n p q f few count (inl s) e = heads_stand ts us h x w b t p q f s.1 e
no_head_why ts us h x w b t n p q f few count (inr s) e =
    let more = heads_count ts us h x (w ++ b) t p q f e in
    absurd (omega (arith, more, few, count, s.0))

no_head_stands : (x a y b : List ℕ) (r : Response) → SpellsResponse x (Some a) r → HasNoResponseHead y (Some b) → x ++ a ≡ y ++ b → ⊥
no_head_stands x a y b r p q e =
    let left : joined p.interim.each ++ (p.head ++ (p.tail ++ a)) ≡ x ++ a = sym (ap (λ f. f ++ (p.head ++ (p.tail ++ a))) p.interim.text_is) ∙ sym (split_stream x p.front p.head p.tail a p.split) in
    let right : y ++ b ≡ joined q.interim.each ++ (q.tail ++ b) = ap (λ u. u ++ b) q.split ∙ append_assoc q.front q.tail b ∙ ap (λ f. f ++ (q.tail ++ b)) q.interim.text_is in
    no_head_why p.interim.each q.interim.each p.head (p.tail ++ a) q.tail b p.tree q.count p.interim.are q.interim.are (final_of x (Some a) r p)
    (omega (arith, p.interim.count_is, p.few)) q.interim.count_is q.why (left ∙ e ∙ right)

alike : (P : List Pair → List ℕ → Type 0) (x a y b : List ℕ) (r : Response) → (p : SpellsResponse x (Some a) r) (q : BeginsResponse P y) → x ++ a ≡ y ++ b
    → P (parts_of r.fields.items) q.tail × (p.tail ++ a ≡ q.tail ++ b)
alike P x a y b r p q e =
    let left : joined p.interim.each ++ (p.head ++ (p.tail ++ a)) ≡ x ++ a = sym (ap (λ f. f ++ (p.head ++ (p.tail ++ a))) p.interim.text_is) ∙ sym (split_stream x p.front p.head p.tail a p.split) in
    let right : y ++ b ≡ joined q.interim.each ++ (q.head ++ (q.tail ++ b)) = split_stream y q.front q.head q.tail b q.split ∙ ap (λ f. f ++ (q.head ++ (q.tail ++ b))) q.interim.text_is in
    let same = heads_unique p.interim.each q.interim.each p.head q.head (p.tail ++ a) (q.tail ++ b) p.tree q.tree p.interim.are q.interim.are (final_of x (Some a) r p) (final_begun P y q) (left ∙ e ∙ right) in
    let fields : parts_of r.fields.items ≡ map name_and_value q.tree.fields = p.has.fields ∙ ap (λ (h : ResponseHead). map name_and_value h.fields) same.1 in
    let Q : List Pair → Type 0 = λ f. P f q.tail in
    (subst Q (sym fields) q.about, same.3)

pub stands : (x a y b : List ℕ) (r : Response) (f : WireFault) → SpellsResponse x (Some a) r → IsNoResponse y (Some b) f → x ++ a ≡ y ++ b → (f ≡ fault.Link) ⊎ (f ≡ fault.OutOfMemory)
stands x a y b r fault.BadHead p bad e = absurd (no_head_stands x a y b r p bad e)
stands x a y b r fault.BadBody p bad e =
    let same = alike _ x a y b r p bad e in
    absurd (body_stands true (framing_of (parts_of r.fields.items)) p.tail a bad.tail b r.body.items p.body same.0.1 same.1)
stands x a y b r (fault.TooLong n) p bad e =
    let same = alike _ x a y b r p bad e in
    absurd (body_within true (framing_of (parts_of r.fields.items)) p.tail a bad.tail b r.body.items p.body same.0.2 same.1)
stands x a y b r (fault.Encoded v) p bad e =
    let same = alike _ x a y b r p bad e in
    let clash : None ≡ Some v.items = sym p.plain ∙ same.0.0 in
    absurd (cc)
stands x a y b r fault.Link p bad e = inl refl
stands x a y b r fault.OutOfMemory p bad e = inr refl
