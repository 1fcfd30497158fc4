-- Replies that are sent, and connections that are served.
use Rattle.std.proofs.Common.{◌≡◌, ℕ, ◌≤◌, List, [], ◌++◌, length, take, Option, Some, None, Result, Ok, Err, inr, refl, sym, ap, ◌∙◌, subst, arith}
use Rattle.std.specs.Prelude.{codes}
use Rattle.std.specs.Io.KnownBytes.{Appends}
use Rattle.std.specs.Fmt.{digits}
use Rattle.std.proofs.lemmas.List.{append-nil, take_all}
use Rattle.edge_kit.specs.Causes.{HasCause, Rose}
use Rattle.edge_kit.specs.Links.{Stays}
use Rattle.edge_kit.specs.declared.traits.Failed.{Failed}
use Rattle.http_wire.specs.Listening.{AppendsFront}
use Rattle.http_wire.specs.Parts.{parts_of}
use Rattle.http_wire.specs.Spellings.{spelled_response, print_pairs, status_line, response_fields}
use Rattle.http_wire.specs.Framings.{Pair}
use Rattle.http_wire.specs.declared.message.Response.{Response}
use Rattle.serde_json.proofs.OnLiterals.{serde_json_on_literals}
use Rattle.keymanager_routes.specs.Replies.{reply_text}
use Rattle.keymanager_routes.specs.declared.reply.Reply.{Reply}
use Rattle.keymanager_api.specs.declared.serve.Served.{Served}
use Rattle.keymanager_api.specs.declared.serve.Served.TheVariants as served
use Rattle.keymanager_api.specs.Serving.{AppendsSome, Sends, SendsWhole, SentAs, SentWhole, memory_reply, reply_in, served_by}

-- ---- links

pub appends_stays : (a b c : Option (List ℕ)) (text : List ℕ) → Appends a b text → Stays b c → Appends a c text
appends_stays None b c text p q = tt
appends_stays (Some x) None c text p q = absurd p
appends_stays (Some x) (Some y) None text p q = absurd q
appends_stays (Some x) (Some y) (Some z) text p q = q ∙ p

pub stays_appends : (a b c : Option (List ℕ)) (text : List ℕ) → Stays a b → Appends b c text → Appends a c text
stays_appends None b c text p q = tt
stays_appends (Some x) None c text p q = absurd p
stays_appends (Some x) (Some y) None text p q = absurd q
stays_appends (Some x) (Some y) (Some z) text p q = q ∙ ap (λ l. l ++ text) p

-- nothing was sent first
nothing_appends : (a b c : Option (List ℕ)) (text : List ℕ) → Appends a b [] → Appends b c text → Appends a c text
nothing_appends None b c text p q = tt
nothing_appends (Some x) None c text p q = absurd p
nothing_appends (Some x) (Some y) None text p q = absurd q
nothing_appends (Some x) (Some y) (Some z) text p q = q ∙ ap (λ l. l ++ text) (p ∙ append-nil x)

pub nothing_sent : (a b : Option (List ℕ)) (text : List ℕ) → Stays a b → AppendsSome a b text
nothing_sent None b text p = (0, tt)
nothing_sent (Some x) None text p = absurd p
nothing_sent (Some x) (Some y) text p = (0, p ∙ sym (append-nil x))

pub front_some : (a b : Option (List ℕ)) (text : List ℕ) → AppendsFront a b text → AppendsSome a b text
front_some a b text f = (f.0, f.2)

pub whole_some : (a b : Option (List ℕ)) (text : List ℕ) → Appends a b text → AppendsSome a b text
whole_some a b text p = (length text, subst (λ (t : List ℕ). Appends a b t) (sym (take_all (length text) text (omega arith))) p)

pub rose_before : (a b c : ℕ) → Rose a b → b ≤ c → Rose a c
rose_before a b c r h = omega arith

pub rose_after : (a b c : ℕ) → a ≤ b → Rose b c → Rose a c
rose_after a b c h r = omega arith

pub both_later : (a b c : ℕ) → a ≤ b → b ≤ c → a ≤ c
both_later a b c l m = omega arith

-- ---- replies

-- the bytes of a response without fields of its own
pub spelled_bare : (r : Response) → parts_of r.fields.items ≡ [] → spelled_response r ≡ reply_text (reply_in r)
spelled_bare r e =
    ap (λ (fields : List Pair). status_line r.status ++ print_pairs fields ++ response_fields (length r.body.items) ++ r.body.items) e
    ∙ ap (λ (l : List ℕ). l ++ response_fields (length r.body.items) ++ r.body.items) (append-nil (status_line r.status))

sent_later : (a b c : Option (List ℕ)) (said : Reply) (result : Result ℕ Failed) → Appends a b [] → SentWhole b c said result → SentWhole a c said result
sent_later a b c said (Ok status) p s = (s.0, nothing_appends a b c (reply_text said) p s.1)
sent_later a b c said (Err e) p s = (s.0, nothing_appends a b c (take s.0 (reply_text said)) p s.1)

-- memory ran out in the writing of a reply
pub said_instead : (a b c : Option (List ℕ)) (reply : Reply) (result : Result ℕ Failed) → Appends a b [] → SendsWhole b c None result → SendsWhole a c (Some reply) result
said_instead a b c reply result p s = record { said = s.said; may = inr s.may; sent = sent_later a b c s.said result p s.sent }

-- ---- the end of a connection

ended_as : (a b c : Option (List ℕ)) (f g h : ℕ) (said : Reply) (sent : Result ℕ Failed) (ended : Result (Unit {0}) Failed)
    → SentWhole a b said sent → HasCause f g sent → Stays b c → HasCause g h ended → SentAs a c f h said (served_by sent ended)
ended_as a b c f g h said (Ok status) (Ok u) s p st q = (s.0, appends_stays a b c (reply_text said) s.1 st)
ended_as a b c f g h said (Ok status) (Err e) s p st q = (whole_some a c (reply_text said) (appends_stays a b c (reply_text said) s.1 st), rose_after f g h p.later q.failed)
ended_as a b c f g h said (Err e) ended s p st q = ((s.0, appends_stays a b c (take s.0 (reply_text said)) s.1 st), rose_before f g h p.failed q.later)

pub finished : (a b c : Option (List ℕ)) (f g h : ℕ) (reply : Option Reply) (sent : Result ℕ Failed) (ended : Result (Unit {0}) Failed)
    → SendsWhole a b reply sent → HasCause f g sent → Stays b c → HasCause g h ended → Sends a c f h reply (served_by sent ended)
finished a b c f g h reply sent ended s p st q = record { said = s.said; may = s.may; sent = ended_as a b c f g h s.said sent ended s.sent p st q }

pub counted_as : (a b : Option (List ℕ)) (f g h : ℕ) (said : Reply) (s : Served) → f ≤ g → SentAs a b g h said s → SentAs a b f h said s
counted_as a b f g h said (served.Replied status) l s = s
counted_as a b f g h said served.Dropped l s = (s.0, rose_after f g h l s.1)

-- after a call that sent nothing
pub sends_later : (a b : Option (List ℕ)) (f g h : ℕ) (reply : Option Reply) (s : Served) → f ≤ g → Sends a b g h reply s → Sends a b f h reply s
sends_later a b f g h reply s l p = record { said = p.said; may = p.may; sent = counted_as a b f g h p.said s l p.sent }

-- the link failed before there was a reply
pub dropped : (a b : Option (List ℕ)) (f g h : ℕ) → Stays a b → Rose f g → g ≤ h → Sends a b f h None served.Dropped
dropped a b f g h p r l = record { said = memory_reply; may = refl; sent = (nothing_sent a b (reply_text memory_reply) p, rose_before f g h r l) }

-- the constant text is that of the reply
pub memory_text : codes "HTTP/1.1 503 Service Unavailable\r\nContent-Type: application/json\r\nContent-Length: 27\r\nConnection: close\r\n\r\n{\"message\":\"out of memory\"}" ≡ reply_text memory_reply
unfolding serde_json_on_literals digits
memory_text = refl

pub cause_later : {T : Type 0} (f g h : ℕ) (result : Result T Failed) → f ≤ g → HasCause g h result → HasCause f h result
cause_later f g h (Ok x) l c = record { later = (let m : g ≤ h = c.later in omega arith); failed = tt }
cause_later f g h (Err e) l c = record { later = (let m : g ≤ h = c.later in omega arith); failed = rose_after f g h l c.failed }
