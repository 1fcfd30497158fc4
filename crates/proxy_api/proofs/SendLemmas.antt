-- The reply to a signature, sent piece by piece.
use Rattle.std.proofs.Common.{◌≡◌, ℕ, ◌+◌, ◌<◌, ◌≤◌, Bool, true, false, List, ◌++◌, take, drop, length, Option, Some, None, Result, Ok, Err, refl, sym, ap, ◌∙◌, subst, arith}
use Rattle.std.specs.Io.KnownBytes.{Appends, Keeps}
use Rattle.std.proofs.lemmas.List.{take-append-drop}
use Rattle.std.proofs.Math.Seq.{take-add}
use Rattle.edge_kit.specs.Causes.{HasCause, Rose}
use Rattle.edge_kit.specs.Links.{Stays}
use Rattle.edge_kit.specs.declared.traits.Failed.{Failed}
use Rattle.edge_kit.proofs.TellingLemmas.{Appends-trans}
use Rattle.desk_machine.specs.declared.call.DeskCall.{DeskCall}
use Rattle.desk_machine.specs.declared.call.DeskReply.{DeskReply}
use Rattle.desk_machine.specs.declared.open_grant.OpenGrant.{OpenGrant}
use Rattle.client_calls.specs.Seats.{Seat, SignerSeen, at_seat}
use Rattle.keymanager_routes.specs.Replies.{reply_text}
use Rattle.keymanager_routes.specs.declared.reply.Reply.{Reply}
use Rattle.keymanager_api.specs.Serving.{AppendsSome, Sends, SentAs, memory_reply, served_by}
use Rattle.keymanager_api.specs.declared.serve.Served.{Served}
use Rattle.keymanager_api.specs.declared.serve.Served.TheVariants as served
use Rattle.keymanager_api.proofs.ServeLemmas.{appends_stays, counted_as, nothing_sent, rose_after, rose_before, sends_later, whole_some}
use Rattle.sign_proxy.specs.declared.signing.SignEnd.{SignEnd}
use Rattle.sign_proxy.specs.declared.signing.SignEnd.TheVariants as ending
use Rattle.proxy_api.specs.Forms.{plain_text, signed_text}
use Rattle.proxy_api.specs.declared.form.Form.{Form}
use Rattle.proxy_api.specs.Signing.{RepliesTo, SendsRest, SendsSigned, SendsText, SendsUnder, SettlesSigned}

pub keeps_then : (a b c : Option (List ℕ)) → Keeps a b → Stays b c → Stays a c
keeps_then None b c k s = tt
keeps_then (Some x) None c k s = absurd k
keeps_then (Some x) (Some y) None k s = absurd s
keeps_then (Some x) (Some y) (Some z) k s = s ∙ k

-- ---- the rest

-- all of it was sent, and then the connection ended so
pub rest_whole : (h i j : Option (List ℕ)) (f g k : ℕ) (status : ℕ) (rest : List ℕ) (ended : Result (Unit {0}) Failed) → Appends h i rest → f ≤ g → Stays i j → HasCause g k ended → SendsRest h j f k status rest (served_by (Ok status) ended)
rest_whole h i j f g k status rest (Ok v) p l st e = (refl, appends_stays h i j rest p st)
rest_whole h i j f g k status rest (Err x) p l st e = (whole_some h j rest (appends_stays h i j rest p st), rose_after f g k l e.failed)

-- a front of it was sent, and the connection dropped
pub rest_front : (h i j : Option (List ℕ)) (f g k : ℕ) (status : ℕ) (rest : List ℕ) → AppendsSome h i rest → Rose f g → Stays i j → g ≤ k → SendsRest h j f k status rest served.Dropped
rest_front h i j f g k status rest p rose st l = ((p.0, appends_stays h i j (take p.0 rest) p.1 st), rose_before f g k rose l)

-- ---- the whole

-- after its first bytes the rest was sent
pub text_begun : (h i j : Option (List ℕ)) (f g k : ℕ) (status : ℕ) (text rest : List ℕ) (count : ℕ) (s : Served)
    → 0 < count → rest ≡ drop count text → Appends h i (take count text) → f ≤ g → SendsRest i j g k status rest s → SendsText h j f k status text true s
text_begun h i j f g k status text rest count (served.Replied n) some is p l r =
    (r.0, subst (λ (t : List ℕ). Appends h j t) (ap (λ (d : List ℕ). take count text ++ d) is ∙ take-append-drop count text) (Appends-trans h i j (take count text) rest p r.1))
text_begun h i j f g k status text rest count served.Dropped some is p l r =
    let n : ℕ = r.0.0 in
    ((count + n, (omega (arith, some)), subst (λ (t : List ℕ). Appends h j t) (ap (λ (d : List ℕ). take count text ++ take n d) is ∙ sym (take-add count n text)) (Appends-trans h i j (take count text) (take n rest) p r.0.1)), rose_after f g k l r.1)

-- ---- the reply

text_said : (h j : Option (List ℕ)) (f k : ℕ) (said text : List ℕ) (begun : Bool) (s : Served) → text ≡ said → SendsText h j f k 200 text begun s → SendsSigned h j f k said begun s
text_said h j f k said text true (served.Replied n) is r = (r.0, subst (λ (t : List ℕ). Appends h j t) is r.1)
text_said h j f k said text true served.Dropped is r = ((r.0.0, r.0.1, subst (λ (t : List ℕ). Appends h j (take r.0.0 t)) is r.0.2), r.1)
text_said h j f k said text false s is r = subst (λ (x : Served). SentAs h j f k memory_reply x) (sym r.0) (nothing_sent h j (reply_text memory_reply) r.1, r.2)

pub under_said : {K : Type 0} (leads : K → List (DeskCall × DeskReply) → K → Type 0) (h j : Option (List ℕ)) (f k : ℕ) (said text : List ℕ) (grant : OpenGrant) (a b : K) (s : Served)
    → text ≡ said → SendsUnder leads h j f k 200 text grant a b s → (x : SignerSeen) → SettlesSigned leads h j f k said grant (at_seat a x) (at_seat b x) s
under_said leads h j f k said text grant a b s is u x = record { begun = u.begun; sends = text_said h j f k said text u.begun s is u.sends; settles = u.settles; signer = refl }

-- some of a reply, and of a text, is some bytes
pub reply_some : (r : Reply) → 0 < length (reply_text r)
reply_some r = omega arith

pub plain_some : (body : List ℕ) → 0 < length (plain_text body)
plain_some body = omega arith

-- where memory ran out the reply that says so was sent in its place
pub memory_said : (h j : Option (List ℕ)) (f k : ℕ) (s : Served) → Sends h j f k None s → SentAs h j f k memory_reply s
memory_said h j f k s p = subst (λ (r : Reply). SentAs h j f k r s) p.may p.sent

-- ---- counted from before

signed_later : (h j : Option (List ℕ)) (f g k : ℕ) (said : List ℕ) (begun : Bool) (s : Served) → f ≤ g → SendsSigned h j g k said begun s → SendsSigned h j f k said begun s
signed_later h j f g k said true (served.Replied n) l r = r
signed_later h j f g k said true served.Dropped l r = (r.0, rose_after f g k l r.1)
signed_later h j f g k said false s l r = counted_as h j f g k memory_reply s l r

-- and so of what was left of a text
pub rest_later : (h j : Option (List ℕ)) (f g k : ℕ) (status : ℕ) (rest : List ℕ) (s : Served) → f ≤ g → SendsRest h j g k status rest s → SendsRest h j f k status rest s
rest_later h j f g k status rest (served.Replied n) l r = r
rest_later h j f g k status rest served.Dropped l r = (r.0, rose_after f g k l r.1)

pub replies_later : {K : Type 0} (form : Form) (leads : K → List (DeskCall × DeskReply) → K → Type 0) (h j : Option (List ℕ)) (f g k : ℕ) (e : SignEnd) (a b : Seat K) (s : Served) → f ≤ g → RepliesTo form leads h j g k e a b s → RepliesTo form leads h j f k e a b s
replies_later form leads h j f g k (ending.Refused given) a b s l r = (r.0, sends_later h j f g k (Some given) s l r.1)
replies_later form leads h j f g k ending.OutOfMemory a b s l r = (r.0, sends_later h j f g k None s l r.1)
replies_later form leads h j f g k (ending.Signed given grant) a b s l r = record { begun = r.begun; sends = signed_later h j f g k (signed_text form given) r.begun s l r.sends; settles = r.settles; signer = r.signer }
