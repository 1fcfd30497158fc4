-- A request from its head and its body.
use Rattle.std.proofs.Common.{◌≡◌, ℕ, Bool, true, false, cond, List, [], ◌∷◌, ◌++◌, map, find, Option, Some, None, Result, Ok, Err, Vec, Global, refl, sym, ap, subst, ◌∙◌}
use Rattle.std.specs.Option.{option_map}
use Rattle.std.specs.Io.KnownBytes.{Consumes}
use Rattle.edge_kit.proofs.TellingLemmas.{Consumes-trans}
use Rattle.httparse.specs.Grammar.{RequestHead}
use Rattle.http_wire.specs.declared.field.Field.{Field}
use Rattle.http_wire.specs.declared.message.Request.{Request}
use Rattle.http_wire.specs.declared.message.WireFault.{WireFault}
use Rattle.http_wire.specs.declared.message.WireFault.TheVariants as fault
use Rattle.http_wire.specs.Fronts.{Within}
use Rattle.http_wire.specs.Heads.{SpellsRequestHead, IsRequestText, head_limit}
use Rattle.http_wire.specs.Framings.{Pair, is_encoding, encoding_of, framing_of, body_limit}
use Rattle.http_wire.specs.Parts.{parts, parts_of}
use Rattle.http_wire.specs.Bodies.{IsBody, IsNoBody, IsLongBody}
use Rattle.http_wire.specs.Steps.{Took}
use Rattle.http_wire.specs.Plain.{IsRequestHead, RequestHeadStep, PlainStep, HasHeadOf, RequestBodyStep}
use Rattle.http_wire.specs.Messages.{HasRequestHead, SpellsRequest, BeginsRequest, IsNoRequest, RequestStep}

find_cond : {A B : Type 0} (f : A → B) (b : Bool) (x : A) (u : Option B) (v : Option A) → u ≡ option_map f v → cond b (Some (f x)) u ≡ option_map f (cond b (Some x) v)
find_cond f true x u v e = refl
find_cond f false x u v e = e

pub find_map : {A B : Type 0} (f : A → B) (p : B → Bool) (xs : List A) → find p (map f xs) ≡ option_map f (find (λ x. p (f x)) xs)
find_map f p [] = refl
find_map f p (x ∷ xs) = find_cond f (p (f x)) x (find p (map f xs)) (find (λ x. p (f x)) xs) (find_map f p xs)

pub plain_fields : (fields : List Field) → find (λ f. is_encoding (parts f)) fields ≡ None → encoding_of (parts_of fields) ≡ None
plain_fields fields e = ap (λ (o : Option Pair). option_map (λ p. p.1) o) (find_map parts is_encoding fields) ∙ ap (λ (o : Option Field). option_map (λ p. p.1) (option_map parts o)) e

pub coded_fields : (fields : List Field) (f : Field) → find (λ f. is_encoding (parts f)) fields ≡ Some f → encoding_of (parts_of fields) ≡ Some f.value.items
coded_fields fields f e = ap (λ (o : Option Pair). option_map (λ p. p.1) o) (find_map parts is_encoding fields) ∙ ap (λ (o : Option Field). option_map (λ p. p.1) (option_map parts o)) e

abbrev pub with_body : Request → Vec ℕ Global → Request
with_body r body = record r { body = body }

-- the body that was read after a head
pub body_read : (b c : Option (List ℕ)) (head : Request) (body : Vec ℕ Global) → Took b c (PlainStep false (parts_of head.fields.items) c (Ok tt) body.items) → Took b c (RequestBodyStep head c (Ok (with_body head body)))
body_read b c head body took = record { bytes = took.bytes; taken = took.taken; holds = (record { method = refl; target = refl; fields = refl }, took.holds) }

-- in a fault nothing is said of the body
same_fault : (fields : List Pair) (left : Option (List ℕ)) (f : WireFault) (body other taken : List ℕ) → PlainStep false fields left (Err f) body taken → PlainStep false fields left (Err f) other taken
same_fault fields left fault.BadHead body other taken p = p
same_fault fields left fault.BadBody body other taken p = p
same_fault fields left (fault.TooLong n) body other taken p = p
same_fault fields left (fault.Encoded v) body other taken p = p
same_fault fields left fault.Link body other taken p = p
same_fault fields left fault.OutOfMemory body other taken p = p

pub body_faulty : (b c : Option (List ℕ)) (head : Request) (body : List ℕ) (f : WireFault) → Took b c (PlainStep false (parts_of head.fields.items) c (Err f) body) → Took b c (RequestBodyStep head c (Err f))
body_faulty b c head body f took = record { bytes = took.bytes; taken = took.taken; holds = same_fault (parts_of head.fields.items) c f body [] took.bytes took.holds }

-- a head, and the body after it
request_spelled : (left : Option (List ℕ)) (head r : Request) (front rest : List ℕ) → IsRequestHead front head → RequestBodyStep head left (Ok r) rest → SpellsRequest (front ++ rest) left r
request_spelled left head r front rest first step =
    let same : HasHeadOf head r = step.0 in
    record {
      head = front;
      tail = rest;
      split = refl;
      tree = first.tree;
      spells = first.spells;
      short = first.short;
      has = record { method = same.method ∙ first.has.method; target = same.target ∙ first.has.target; fields = same.fields ∙ first.has.fields };
      plain = ap encoding_of same.fields ∙ step.1.0;
      body = (let B : List Pair → Type 0 = λ fields. IsBody false (framing_of fields) rest left r.body.items in subst B (sym same.fields) step.1.1);
    }

-- a head, and what holds of its fields and of what was taken after it
request_begun : (P : List Pair → List ℕ → Type 0) (head : Request) (front rest : List ℕ) → IsRequestHead front head → P (parts_of head.fields.items) rest → BeginsRequest P (front ++ rest)
request_begun P head front rest first holds =
    let Q : List Pair → Type 0 = λ fields. P fields rest in
    record {
      head = front;
      tail = rest;
      split = refl;
      tree = first.tree;
      spells = first.spells;
      short = first.short;
      about = subst Q first.has.fields holds;
    }

-- what a fault of the body makes of the request
request_faulty : (left : Option (List ℕ)) (head : Request) (f : WireFault) (front rest : List ℕ) → IsRequestHead front head → RequestBodyStep head left (Err f) rest → IsNoRequest (front ++ rest) left f
request_faulty left head fault.BadHead front rest first step = absurd step
request_faulty left head fault.BadBody front rest first step = request_begun (λ fields tail. (encoding_of fields ≡ None) × IsNoBody (framing_of fields) tail left) head front rest first step
request_faulty left head (fault.TooLong n) front rest first step = request_begun (λ fields tail. (n ≡ body_limit) × (encoding_of fields ≡ None) × IsLongBody false (framing_of fields) tail) head front rest first step
request_faulty left head (fault.Encoded v) front rest first step = request_begun (λ fields tail. (encoding_of fields ≡ Some v.items) × (tail ≡ [])) head front rest first step
request_faulty left head fault.Link front rest first step = tt
request_faulty left head fault.OutOfMemory front rest first step = tt

-- what a head, and what was found after it, make of the request
pub request_parts : (left : Option (List ℕ)) (head : Request) (read : Result Request WireFault) (front rest : List ℕ) → IsRequestHead front head → RequestBodyStep head left read rest → RequestStep left read (front ++ rest)
request_parts left head (Ok r) front rest first step = request_spelled left head r front rest first step
request_parts left head (Err f) front rest first step = request_faulty left head f front rest first step

-- what a fault of the head makes of it
pub request_headless : (left : Option (List ℕ)) (f : WireFault) (bytes : List ℕ) → RequestHeadStep left (Err f) bytes → RequestStep left (Err f) bytes
request_headless left fault.BadHead bytes step = step
request_headless left fault.BadBody bytes step = absurd step
request_headless left (fault.TooLong n) bytes step = absurd step
request_headless left (fault.Encoded v) bytes step = absurd step
request_headless left fault.Link bytes step = step
request_headless left fault.OutOfMemory bytes step = step

pub took_parts : (a b c : Option (List ℕ)) (head : Request) (read : Result Request WireFault) → Took a b (RequestHeadStep b (Ok head)) → Took b c (RequestBodyStep head c read) → Took a c (RequestStep c read)
took_parts a b c head read first took = record {
  bytes = first.bytes ++ took.bytes;
  taken = Consumes-trans a b c first.bytes took.bytes first.taken took.taken;
  holds = request_parts c head read first.bytes took.bytes first.holds took.holds;
}

pub took_headless : (a b : Option (List ℕ)) (f : WireFault) → Took a b (RequestHeadStep b (Err f)) → Took a b (RequestStep b (Err f))
took_headless a b f took = record { bytes = took.bytes; taken = took.taken; holds = request_headless b f took.bytes took.holds }

-- the head of a form that was read
pub head_read : (a b : Option (List ℕ)) (text : List ℕ) (r : Request) → Consumes a b text → Within IsRequestText head_limit text → (h : RequestHead) × SpellsRequestHead text h × HasRequestHead h r → Took a b (λ t. IsRequestHead t r)
head_read a b text r taken within h = record { bytes = text; taken = taken; holds = record { tree = h.0; spells = h.1; short = within.short; has = h.2 } }
