-- What a lane did: what it sent it sent under a grant that it had in hand.
use Rattle.std.proofs.Common.{◌≡◌, ℕ, List, [], ◌∷◌, ◌++◌, Option, Some, None, Contains, refl, sym, ap, ◌∙◌, subst, append_assoc, append-nil}
use Rattle.edge_kit.specs.declared.bytes.PubKey.{PubKey}
use Rattle.slash_defs.specs.declared.message.Message.{Message}
use Rattle.desk_machine.specs.Given.{MayMake, given}
use Rattle.desk_machine.specs.declared.open_grant.OpenGrant.{OpenGrant}
use Rattle.desk_machine.specs.declared.call.DeskCall.{DeskCall}
use Rattle.desk_machine.specs.declared.call.DeskCall.TheVariants as call
use Rattle.desk_machine.specs.declared.call.DeskReply.{DeskReply}
use Rattle.desk_machine.specs.declared.call.Outcome.TheVariants as outcome
use Rattle.world_law.specs.Worlds.{Event}
use Rattle.world_law.specs.Worlds.Event.{Call, Send}
use Rattle.world_law.specs.Clients.{messages_in}
use Rattle.proxy_run.specs.Begun.{message_of}
use Rattle.serve_world.specs.Acts.{call_in}
use Rattle.serve_world.specs.Events.{send_of}
use Rattle.serve_world.specs.Weaving.{calls_among}
use Rattle.serve_world.proofs.DutyLemmas.{not_none, send_calls}
use Rattle.serve_world.proofs.HeldLemmas.{AreHeld, IsHeldAfter}
use Rattle.serve_world.proofs.WeaveLemmas.{IsClosed, among_both}
use Rattle.client_world.specs.Acts.{lane_events, sent_before}

abbrev Calls : Type 0
Calls = List (DeskCall × DeskReply)

-- ---- its calls

before_called : (client : ℕ) (c : DeskCall) → calls_among call_in (sent_before client c) ≡ []
before_called client (call.Settle grant outcome.Sent) = send_calls client grant grant.message
before_called client c = refl

pub lane_called : (client : ℕ) (made : Calls) → calls_among call_in (lane_events client made) ≡ made
lane_called client [] = refl
lane_called client (x ∷ made) =
    among_both call_in (sent_before client x.0) (Call client x.0 x.1 ∷ lane_events client made)
    ∙ ap (λ (l : Calls). l ++ x ∷ calls_among call_in (lane_events client made)) (before_called client x.0)
    ∙ ap (λ (l : Calls). x ∷ l) (lane_called client made)

-- ---- what it sent

-- the message of the grant that a call settles as sent, if it has one
abbrev pub sent_with : DeskCall → List (PubKey × Message)
sent_with (call.Settle grant outcome.Sent) = message_of grant.key grant.message
sent_with c = []

abbrev pub sent_under : Calls → List (PubKey × Message)
sent_under [] = []
sent_under (x ∷ made) = sent_with x.0 ++ sent_under made

send_messages : (client : ℕ) (grant : OpenGrant) (m : Option Message) (es : List Event) → messages_in (send_of client grant m ++ es) ≡ message_of grant.key m ++ messages_in es
send_messages client grant None es = refl
send_messages client grant (Some m) es = refl

before_messages : (client : ℕ) (c : DeskCall) (es : List Event) → messages_in (sent_before client c ++ es) ≡ sent_with c ++ messages_in es
before_messages client (call.Settle grant outcome.Sent) es = send_messages client grant grant.message es
before_messages client c es = refl

pub lane_messages : (client : ℕ) (made : Calls) → messages_in (lane_events client made) ≡ sent_under made
lane_messages client [] = refl
lane_messages client (x ∷ made) =
    before_messages client x.0 (Call client x.0 x.1 ∷ lane_events client made) ∙ ap (λ (l : List (PubKey × Message)). sent_with x.0 ++ l) (lane_messages client made)

-- ---- under what it had in hand

no_event : {A : Type 0} (xs ys : List Event) (e : Event) → [] ≡ xs ++ e ∷ ys → A
no_event [] ys e is = absurd (cc is)
no_event (x ∷ xs) ys e is = absurd (cc is)

-- each of these calls may be made after those before it, and others that came first
abbrev pub AreAllowed : Calls → Calls → Type 0
AreAllowed first made = (xs ys : Calls) (c : DeskCall) (r : DeskReply) → made ≡ xs ++ (c, r) ∷ ys → MayMake (first ++ xs) c

module _ (client : ℕ) where
  -- so is each of these events held, after calls that came first
  abbrev AreHeldAfter : Calls → List Event → Type 0
  AreHeldAfter first es = (xs ys : List Event) (e : Event) → es ≡ xs ++ e ∷ ys → IsHeldAfter client (first ++ calls_among call_in xs) e

  held_call : (first : Calls) (c : DeskCall) (r : DeskReply) (es : List Event) → AreHeldAfter (first ++ (c, r) ∷ []) es → AreHeldAfter first (Call client c r ∷ es)
  held_call first c r es more [] ys e is =
      let same : Call client c r ≡ e = cc is in
      let P : Event → Type 0 = λ y. IsHeldAfter client (first ++ []) y in
      subst P same refl
  held_call first c r es more (f ∷ xs) ys e is =
      let head : Call client c r ≡ f = cc is in
      let tail : es ≡ xs ++ e ∷ ys = cc is in
      let P : Event → Type 0 = λ y. IsHeldAfter client (first ++ calls_among call_in (y ∷ xs)) e in
      let H : Calls → Type 0 = λ l. IsHeldAfter client l e in
      subst P head (subst H (append_assoc first ((c, r) ∷ []) (calls_among call_in xs)) (more xs ys e tail))

  held_send : (first : Calls) (grant : OpenGrant) (m : Option Message) (es : List Event) → grant.message ≡ m → Contains (given [] first) grant → AreHeldAfter first es → AreHeldAfter first (send_of client grant m ++ es)
  held_send first grant None es is hand more xs ys e whole = more xs ys e whole
  held_send first grant (Some m) es is hand more [] ys e whole =
      let same : Send client grant m ≡ e = cc whole in
      let P : Event → Type 0 = λ y. IsHeldAfter client (first ++ []) y in
      let G : Calls → Type 0 = λ l. Contains (given [] l) grant in
      subst P same (refl, subst G (sym (append-nil first)) hand, is)
  held_send first grant (Some m) es is hand more (f ∷ xs) ys e whole =
      let head : Send client grant m ≡ f = cc whole in
      let tail : es ≡ xs ++ e ∷ ys = cc whole in
      let P : Event → Type 0 = λ y. IsHeldAfter client (first ++ calls_among call_in (y ∷ xs)) e in
      subst P head (more xs ys e tail)

  held_before : (first : Calls) (c : DeskCall) (es : List Event) → MayMake first c → AreHeldAfter first es → AreHeldAfter first (sent_before client c ++ es)
  held_before first (call.Settle grant outcome.Sent) es may more = held_send first grant grant.message es refl may more
  held_before first c es may more = more

  held_after : (first made : Calls) → AreAllowed first made → AreHeldAfter first (lane_events client made)
  held_after first [] allowed = λ xs ys e is. no_event xs ys e is
  held_after first (x ∷ made) allowed =
      let M : Calls → Type 0 = λ l. MayMake l x.0 in
      let may : MayMake first x.0 = subst M (append-nil first) (allowed [] made x.0 x.1 refl) in
      let rest : AreAllowed (first ++ x ∷ []) made = λ xs ys c r is.
      let N : Calls → Type 0 = λ l. MayMake l c in
      subst N (sym (append_assoc first (x ∷ []) xs)) (allowed (x ∷ xs) ys c r (ap (λ (l : Calls). x ∷ l) is)) in
      held_before first x.0 (Call client x.0 x.1 ∷ lane_events client made) may (held_call first x.0 x.1 (lane_events client made) (held_after (first ++ x ∷ []) made rest))

  pub lane_held : (made : Calls) → AreAllowed [] made → AreHeld client (lane_events client made)
  lane_held made allowed xs ys e is = held_after [] made allowed xs ys e is

  -- after what was sent there is a call
  closed_call : (c : DeskCall) (r : DeskReply) (es : List Event) → IsClosed call_in es → IsClosed call_in (Call client c r ∷ es)
  closed_call c r es more [] ys e is uncalled none =
      let same : Call client c r ≡ e = cc is in
      let P : Event → Type 0 = λ y. call_in y ≡ None in
      not_none (c, r) (subst P (sym same) uncalled)
  closed_call c r es more (f ∷ xs) ys e is uncalled none = let tail : es ≡ xs ++ e ∷ ys = cc is in more xs ys e tail uncalled none

  closed_send : (grant : OpenGrant) (m : Option Message) (c : DeskCall) (r : DeskReply) (es : List Event) → IsClosed call_in (Call client c r ∷ es) → IsClosed call_in (send_of client grant m ++ Call client c r ∷ es)
  closed_send grant None c r es more xs ys e is uncalled none = more xs ys e is uncalled none
  closed_send grant (Some m) c r es more [] ys e is uncalled none =
      let tail : Call client c r ∷ es ≡ ys = cc is in
      let bad : (c, r) ∷ calls_among call_in es ≡ [] = ap (λ (l : List Event). calls_among call_in l) tail ∙ none in
      cc bad
  closed_send grant (Some m) c r es more (f ∷ xs) ys e is uncalled none = let tail : Call client c r ∷ es ≡ xs ++ e ∷ ys = cc is in more xs ys e tail uncalled none

  closed_before : (c d : DeskCall) (r : DeskReply) (es : List Event) → IsClosed call_in (Call client d r ∷ es) → IsClosed call_in (sent_before client c ++ Call client d r ∷ es)
  closed_before (call.Settle grant outcome.Sent) d r es more = closed_send grant grant.message d r es more
  closed_before c d r es more = more

  pub lane_closed : (made : Calls) → IsClosed call_in (lane_events client made)
  lane_closed [] = λ xs ys e is uncalled none. no_event xs ys e is
  lane_closed (x ∷ made) = closed_before x.0 x.0 x.1 (lane_events client made) (closed_call x.0 x.1 (lane_events client made) (lane_closed made))
