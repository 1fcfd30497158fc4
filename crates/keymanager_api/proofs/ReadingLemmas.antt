-- What is read of a connection, by its head and what stands after that.
use Rattle.std.proofs.Common.{◌≡◌, ◌⊎◌, inl, inr, ℕ, ◌≤◌, Bool, true, false, List, [], ◌++◌, length, take, Option, Some, None, Result, Ok, Err, refl, sym, ap, ◌∙◌, subst}
use Rattle.std.specs.Io.KnownBytes.{Consumes}
use Rattle.std.proofs.lemmas.List.{append-nil}
use Rattle.edge_kit.specs.Links.{Stays}
use Rattle.edge_kit.proofs.TellingLemmas.{Consumes-trans}
use Rattle.http_wire.specs.Expects.{continue_text, expects_continue}
use Rattle.http_wire.specs.Framings.{Pair}
use Rattle.http_wire.specs.Heads.{head_limit}
use Rattle.http_wire.specs.Listening.{AppendsFront}
use Rattle.http_wire.specs.Messages.{RequestStep}
use Rattle.http_wire.specs.Parts.{parts_of}
use Rattle.http_wire.specs.Plain.{HasHeadOf, IsRequestHead, RequestBodyStep, RequestHeadStep}
use Rattle.http_wire.specs.Steps.{Took, TookAtMost}
use Rattle.http_wire.specs.declared.message.Request.{Request}
use Rattle.http_wire.specs.declared.message.WireFault.{WireFault}
use Rattle.http_wire.specs.declared.message.WireFault.TheVariants as fault
use Rattle.http_wire.proofs.ListenLemmas.{Stays-trans}
use Rattle.http_wire.proofs.RequestLemmas.{request_headless, request_parts}
use Rattle.keymanager_routes.specs.Bearers.{bearer_of}
use Rattle.keymanager_routes.specs.Checks.{◌>>=◌, action_for, let_in as is_let_in, wanted}
use Rattle.keymanager_routes.specs.declared.refusal.Refusal.{Refusal}
use Rattle.keymanager_routes.specs.declared.route.Action.{Action}
use Rattle.keymanager_bodies.specs.Asking.{asked_of, body_asks}
use Rattle.keymanager_api.specs.Readings.{Asks, Continues, IsRefusedHead, MessageStep, headless, let_in, refused}
use Rattle.keymanager_api.proofs.ServeLemmas.{appends_stays, stays_appends}

-- ---- heads

abbrev checked : List ℕ → List ℕ → List ℕ → List Pair → Result Action Refusal
checked token method target fields = do
  action ← wanted method target
  passed ← is_let_in token (bearer_of fields)
  Ok action

-- requests of one head are checked alike
pub action_same : (token : List ℕ) (head r : Request) → HasHeadOf head r → action_for token r ≡ action_for token head
action_same token head r same =
    ap (λ (method : List ℕ). checked token method r.target.items (parts_of r.fields.items)) same.method
    ∙ ap (λ (target : List ℕ). checked token head.method target (parts_of r.fields.items)) same.target
    ∙ ap (λ (fields : List Pair). checked token head.method head.target.items fields) same.fields

-- what a request asks for whose head passes the checks
pub asked_behind : (token : List ℕ) (head r : Request) (what : Action) → HasHeadOf head r → action_for token head ≡ Ok what → body_asks what r.body.items ≡ asked_of token r
asked_behind token head r what same passes = sym (ap (λ (x : Result Action Refusal). x >>= (λ w. body_asks w r.body.items)) (action_same token head r same ∙ passes))

-- ---- links

stays_consumes : (a b c : Option (List ℕ)) (xs : List ℕ) → Stays a b → Consumes b c xs → Consumes a c xs
stays_consumes None b c xs p q = tt
stays_consumes (Some x) None c xs p q = absurd p
stays_consumes (Some x) (Some y) None xs p q = absurd q
stays_consumes (Some x) (Some y) (Some z) xs p q = sym p ∙ q

stays_front : (a b c : Option (List ℕ)) (text : List ℕ) → Stays a b → AppendsFront b c text → AppendsFront a c text
stays_front a b c text p f = (f.0, f.1, stays_appends a b c (take f.0 text) p f.2)

stays_asks : (asked : Bool) (a b c : Option (List ℕ)) → Stays a b → Asks asked b c → Asks asked a c
stays_asks true a b c p q = stays_appends a b c continue_text p q
stays_asks false a b c p q = Stays-trans a b c p q

pub asks_stays : (asked : Bool) (a b c : Option (List ℕ)) → Asks asked a b → Stays b c → Asks asked a c
asks_stays true a b c p q = appends_stays a b c continue_text p q
asks_stays false a b c p q = Stays-trans a b c p q

-- ---- what was read

pub record Reads {A : Type 0} (check : Request → Result A Refusal) (left_before left : Option (List ℕ)) (read : Result Request WireFault) (held_before held : Option (List ℕ)) : Type 0 where
  pub took : Took left_before left (MessageStep check left read)
  pub continued : Continues check left read took.bytes took.holds held_before held

-- a head was taken
abbrev pub TookHead : Option (List ℕ) → Option (List ℕ) → Request → Type 0
TookHead a b head = Took a b (λ text. IsRequestHead text head)

short_of_head : (a b : Option (List ℕ)) (f : WireFault) → Took a b (RequestHeadStep b (Err f)) → TookAtMost a b head_limit → Took a b (λ bytes. RequestHeadStep b (Err f) bytes × (length bytes ≤ head_limit))
short_of_head a b fault.BadHead t most = record { bytes = t.bytes; taken = t.taken; holds = (t.holds, t.holds.short) }
short_of_head a b fault.BadBody t most = absurd t.holds
short_of_head a b (fault.TooLong n) t most = absurd t.holds
short_of_head a b (fault.Encoded v) t most = absurd t.holds
short_of_head a b fault.Link t most = record { bytes = most.bytes; taken = most.taken; holds = (tt, most.holds) }
short_of_head a b fault.OutOfMemory t most = record { bytes = most.bytes; taken = most.taken; holds = (tt, most.holds) }

module _ {A : Type 0} (check : Request → Result A Refusal) where
  pub reads_headless : (a b c d : Option (List ℕ)) (f : WireFault) → Took a b (RequestHeadStep b (Err f)) → TookAtMost a b head_limit → Stays c d → Reads check a b (Err f) c d
  reads_headless a b c d f t most st =
      let s = short_of_head a b f t most in
      record { took = record { bytes = s.bytes; taken = s.taken; holds = headless f refl s.holds.0 s.holds.1 }; continued = st }

  pub reads_refused : (a b c d : Option (List ℕ)) (head : Request) (r : Refusal) → TookHead a b head → head.body.items ≡ [] → check head ≡ Err r → Stays c d → Reads check a b (Ok head) c d
  reads_refused a b c d head r t empty fails st = record { took = record { bytes = t.bytes; taken = t.taken; holds = refused head r refl t.holds empty fails }; continued = st }

  -- memory ran out in the checks
  pub reads_unchecked : (a b c d : Option (List ℕ)) (head : Request) → TookHead a b head → Stays c d → Reads check a b (Err fault.OutOfMemory) c d
  reads_unchecked a b c d head t st = record { took = record { bytes = t.bytes; taken = t.taken; holds = headless fault.OutOfMemory refl tt t.holds.short }; continued = st }

  module _ (head : Request) (what : A) (passes : check head ≡ Ok what) where
    -- the link failed where the body was asked for
    pub reads_unasked : (a b c d e : Option (List ℕ)) → TookHead a b head → Stays c d → (expects_continue head ≡ true) × AppendsFront d e continue_text → Reads check a b (Err fault.Link) c e
    reads_unasked a b c d e t st failed = record {
      took = record { bytes = t.bytes; taken = t.taken; holds = let_in head what t.bytes [] (sym (append-nil t.bytes)) t.holds passes tt };
      continued = inr (failed.0, refl, refl, stays_front c d e continue_text st failed.1);
    }

    pub reads_behind : (a b c d p q r : Option (List ℕ)) (read : Result Request WireFault) → TookHead a b head → Stays b c → Took c d (RequestBodyStep head d read) → Stays p q → Asks (expects_continue head) q r → Reads check a d read p r
    reads_behind a b c d p q r read t between u st asks = record {
      took = record { bytes = t.bytes ++ u.bytes; taken = Consumes-trans a b d t.bytes u.bytes t.taken (stays_consumes b c d u.bytes between u.taken); holds = let_in head what t.bytes u.bytes refl t.holds passes u.holds };
      continued = inl (stays_asks (expects_continue head) p q r st asks);
    }

-- ---- what it means

headless_is : (left : Option (List ℕ)) (read : Result Request WireFault) (bytes : List ℕ) (f : WireFault) → read ≡ Err f → RequestHeadStep left (Err f) bytes → RequestStep left read bytes
headless_is left read bytes f is none = subst (λ (m : Result Request WireFault). RequestStep left m bytes) (sym is) (request_headless left f bytes none)

refused_is : {A : Type 0} (check : Request → Result A Refusal) (read : Result Request WireFault) (bytes : List ℕ) (head : Request) (r : Refusal) → read ≡ Ok head → IsRequestHead bytes head → head.body.items ≡ [] → check head ≡ Err r → IsRefusedHead check read bytes
refused_is check read bytes head r is text empty fails = subst (λ (m : Result Request WireFault). IsRefusedHead check m bytes) (sym is) (text, empty, r, fails)

pub message_is : {A : Type 0} (check : Request → Result A Refusal) (left : Option (List ℕ)) (read : Result Request WireFault) (bytes : List ℕ) → MessageStep check left read bytes → RequestStep left read bytes ⊎ IsRefusedHead check read bytes
message_is check left read bytes (headless f is none short) = inl (headless_is left read bytes f is none)
message_is check left read bytes (refused head r is text empty fails) = inr (refused_is check read bytes head r is text empty fails)
message_is check left read bytes (let_in head what front rest split text passes step) = inl (subst (λ (l : List ℕ). RequestStep left read l) (sym split) (request_parts left head read front rest text step))

-- a request whose head fails a check was read as its head alone
pub unread_is : (token : List ℕ) (left : Option (List ℕ)) (request : Request) (bytes : List ℕ) (e : Refusal) → MessageStep (action_for token) left (Ok request) bytes → action_for token request ≡ Err e → IsRequestHead bytes request
unread_is token left request bytes e (headless f is none short) fails = absurd (let clash : Ok request ≡ Err f = is in cc)
unread_is token left request bytes e (refused head r is text empty other) fails = subst (λ (h : Request). IsRequestHead bytes h) (let same : head ≡ request = cc in same) text
unread_is token left request bytes e (let_in head what front rest split text passes step) fails =
    let clash : Err e ≡ Ok what = sym fails ∙ action_same token head request step.0 ∙ passes in
    absurd (cc)
