-- The steps of a call, joined.
use Rattle.std.proofs.Common.{◌≡◌, ◌⊎◌, inl, inr, ◌≤◌, ℕ, List, [], ◌∷◌, ◌++◌, length, take, codes, Option, Some, None, Result, Ok, Err, refl, sym, ap, subst, ◌∙◌, arith}
use Rattle.std.proofs.lemmas.List.{append-nil, take_all}
use Rattle.std.specs.Io.KnownBytes.{Appends}
use Rattle.edge_kit.specs.Causes.{Rose}
use Rattle.edge_kit.specs.Links.{Stays, Begins, Opens}
use Rattle.service_url.specs.Services.{Service, authority_of}
use Rattle.http_wire.specs.declared.message.Request.{Request}
use Rattle.http_wire.specs.declared.message.Response.{Response}
use Rattle.http_wire.specs.declared.message.WireFault.{WireFault}
use Rattle.http_wire.specs.declared.message.WireFault.TheVariants as fault
use Rattle.http_wire.specs.Messages.{ResponseStep}
use Rattle.http_wire.specs.Parts.{parts_of}
use Rattle.http_wire.specs.Spellings.{spelled_request}
use Rattle.http_wire.specs.Steps.{Took}
use Rattle.http_call.specs.Calls.{called_text, SendsFront, Sends, IsAnsweredBy, IsPast, Leaves, IsCall}

-- ---- the request

pub spelled_call : (service : Service) (method path body : List ℕ) (r : Request) → r.method ≡ method → r.target.items ≡ service.path ++ path → parts_of r.fields.items ≡ (codes "Host", authority_of service) ∷ [] → r.body.items ≡ body → spelled_request r ≡ called_text service method path body
unfolding called_text
spelled_call service method path body r m t f b = rw (m, t, f, b) (simp append-nil)

-- ---- what was sent

pub appends_within : (a b c d : Option (List ℕ)) (xs : List ℕ) → Stays a b → Appends b c xs → Stays c d → Appends a d xs
appends_within None b c d xs p q r = tt
appends_within (Some a) None c d xs p q r = absurd p
appends_within (Some a) (Some b) None d xs p q r = absurd q
appends_within (Some a) (Some b) (Some c) None xs p q r = absurd r
appends_within (Some a) (Some b) (Some c) (Some d) xs p q r = r ∙ q ∙ ap (λ u. u ++ xs) p

pub appends_nothing : (a b : Option (List ℕ)) → Stays a b → Appends a b []
appends_nothing None b p = tt
appends_nothing (Some a) None p = absurd p
appends_nothing (Some a) (Some b) p = p ∙ sym (append-nil a)

pub front_none : (text : List ℕ) (a b : Option (List ℕ)) → Appends a b [] → SendsFront text a b
front_none text a b p = record { count = 0; sent = p }

pub front_all : (text : List ℕ) (a b : Option (List ℕ)) → Appends a b text → SendsFront text a b
front_all text a b p = let P : List ℕ → Type 0 = Appends a b in record { count = length text; sent = subst P (sym (take_all (length text) text (omega arith))) p }

pub sends_all : (text : List ℕ) (a b : Option (List ℕ)) (r : Result Response WireFault) → Appends a b text → Sends text a b r
sends_all text a b (Ok response) p = p
sends_all text a b (Err fault.BadHead) p = p
sends_all text a b (Err fault.BadBody) p = p
sends_all text a b (Err (fault.TooLong limit)) p = p
sends_all text a b (Err (fault.Encoded value)) p = p
sends_all text a b (Err fault.Link) p = front_all text a b p
sends_all text a b (Err fault.OutOfMemory) p = front_all text a b p

pub sends_front : (text : List ℕ) (a b : Option (List ℕ)) (r : Result Response WireFault) → Sends text a b r → SendsFront text a b
sends_front text a b (Ok response) p = front_all text a b p
sends_front text a b (Err fault.BadHead) p = front_all text a b p
sends_front text a b (Err fault.BadBody) p = front_all text a b p
sends_front text a b (Err (fault.TooLong limit)) p = front_all text a b p
sends_front text a b (Err (fault.Encoded value)) p = front_all text a b p
sends_front text a b (Err fault.Link) p = p
sends_front text a b (Err fault.OutOfMemory) p = p

front_within : (text : List ℕ) (a b c d : Option (List ℕ)) → Stays a b → SendsFront text b c → Stays c d → SendsFront text a d
front_within text a b c d p s q = record { count = s.count; sent = appends_within a b c d (take s.count text) p s.sent q }

pub sends_within : (text : List ℕ) (a b c d : Option (List ℕ)) (r : Result Response WireFault) → Stays a b → Sends text b c r → Stays c d → Sends text a d r
sends_within text a b c d (Ok response) p s q = appends_within a b c d text p s q
sends_within text a b c d (Err fault.BadHead) p s q = appends_within a b c d text p s q
sends_within text a b c d (Err fault.BadBody) p s q = appends_within a b c d text p s q
sends_within text a b c d (Err (fault.TooLong limit)) p s q = appends_within a b c d text p s q
sends_within text a b c d (Err (fault.Encoded value)) p s q = appends_within a b c d text p s q
sends_within text a b c d (Err fault.Link) p s q = front_within text a b c d p s q
sends_within text a b c d (Err fault.OutOfMemory) p s q = front_within text a b c d p s q

-- ---- what the peer says

begins_with : (xs : List (List ℕ)) (l m n : List ℕ) (coming : List (List ℕ)) (r : Result Response WireFault) → Begins xs l coming → Took (Some l) (Some n) (ResponseStep (Some n) r) → IsAnsweredBy (Some xs) r
begins_with [] l m n coming r b t = record { text = t.bytes; rest = n; split = sym b.0 ∙ t.taken; step = t.holds }
begins_with (x ∷ xs) l m n coming r b t = record { text = t.bytes; rest = n; split = sym b.0 ∙ t.taken; step = t.holds }

pub answered : (xs : Option (List (List ℕ))) (l n : Option (List ℕ)) (coming : Option (List (List ℕ))) (r : Result Response WireFault) → Opens xs l coming → Took l n (ResponseStep n r) → IsAnsweredBy xs r
answered None l n coming r o t = tt
answered (Some xs) None n coming r o t = absurd o
answered (Some xs) (Some l) n None r o t = absurd o
answered (Some xs) (Some l) None (Some coming) r o t = absurd t.taken
answered (Some xs) (Some l) (Some n) (Some coming) r o t = begins_with xs l l n coming r o t

-- a fault of the link or of memory answers nothing
pub unanswered : (xs : Option (List (List ℕ))) (r : Result Response WireFault) → ((left : Option (List ℕ)) (text : List ℕ) → ResponseStep left r text) → IsAnsweredBy xs r
unanswered None r free = tt
unanswered (Some []) r free = record { text = []; rest = []; split = refl; step = free (Some []) [] }
unanswered (Some (x ∷ xs)) r free = record { text = []; rest = x; split = refl; step = free (Some x) [] }

-- ---- which conversations are left

pub past : (xs ys zs ws : Option (List (List ℕ))) (l : Option (List ℕ)) → Opens xs l ys → Stays ys zs → Stays zs ws → IsPast xs ws
past None ys zs ws l o p q = tt
past (Some xs) ys zs ws None o p q = absurd o
past (Some xs) None zs ws (Some l) o p q = absurd o
past (Some xs) (Some ys) None ws (Some l) o p q = absurd p
past (Some xs) (Some ys) (Some zs) None (Some l) o p q = absurd q
past (Some []) (Some ys) (Some zs) (Some ws) (Some l) o p q = q ∙ p ∙ o.1
past (Some (x ∷ xs)) (Some ys) (Some zs) (Some ws) (Some l) o p q = q ∙ p ∙ o.1

pub leaves_past : (xs ys : Option (List (List ℕ))) (r : Result Response WireFault) → IsPast xs ys → Leaves xs ys r
leaves_past xs ys (Ok response) p = p
leaves_past xs ys (Err fault.BadHead) p = p
leaves_past xs ys (Err fault.BadBody) p = p
leaves_past xs ys (Err (fault.TooLong limit)) p = p
leaves_past xs ys (Err (fault.Encoded value)) p = p
leaves_past xs ys (Err fault.Link) p = tt
leaves_past xs ys (Err fault.OutOfMemory) p = inr p

-- ---- the whole

rose_within : (a b c : ℕ) → a ≤ b → Rose b c → Rose a c
rose_within a b c le rose = omega arith

pub rose_to : (a b c d : ℕ) → a ≤ b → Rose b c → c ≤ d → Rose a d
rose_to a b c d before rose after = omega arith

-- the connection is ended: the answer stays, or that failed
pub ended : (text : List ℕ) (h i : Option (List ℕ)) (xs ys : Option (List (List ℕ))) (a b c : ℕ) (r s : Result Response WireFault) → IsCall text h i xs ys a c r → a ≤ b → (s ≡ r) ⊎ ((s ≡ Err fault.Link) × Rose b c) → IsCall text h i xs ys a c s
ended text h i xs ys a b c r s call le (inl e) = let P : Result Response WireFault → Type 0 = IsCall text h i xs ys a c in subst P (sym e) call
ended text h i xs ys a b c r s call le (inr e) =
    let P : Result Response WireFault → Type 0 = IsCall text h i xs ys a c in
    subst P (sym e.0) (record {
      sent = sends_front text h i r call.sent;
      answered = unanswered xs (Err fault.Link) (λ left text. tt);
      left = tt;
      later = call.later;
      fault = λ _. rose_within a b c le e.1;
    })
