-- How a request for a signature ends, one call before others.
use Rattle.std.proofs.Common.{◌≡◌, ◌≤◌, true, false, List, [], ◌∷◌, Option, Some, None, IsSome, IfSome, refl, sym, subst, ◌∙◌}
use Rattle.edge_kit.specs.Causes.{Rose}
use Rattle.edge_kit.specs.Tellings.{Tells}
use Rattle.edge_kit.specs.declared.bytes.PubKey.{PubKey}
use Rattle.edge_kit.specs.declared.bytes.Sig.{Sig}
use Rattle.slash_defs.specs.declared.message.Message.{Message}
use Rattle.desk_machine.specs.declared.open_grant.OpenGrant.{OpenGrant}
use Rattle.desk_machine.specs.declared.call.DeskCall.{DeskCall}
use Rattle.desk_machine.specs.declared.call.DeskCall.TheVariants as call
use Rattle.desk_machine.specs.declared.call.DeskReply.{DeskReply}
use Rattle.desk_machine.specs.declared.call.DeskReply.TheVariants as reply
use Rattle.desk_machine.specs.declared.call.Outcome.TheVariants.{Dropped}
use Rattle.desk_machine.specs.Kinds.{IsKind}
use Rattle.signer_link.specs.Outcomes.{CountsDenial, sign_denied}
use Rattle.signer_link.specs.Signing.{asked, plainly_asked, told_plain, told_sign}
use Rattle.signer_link.specs.declared.request.SignRequest.{SignRequest}
use Rattle.signer_link.specs.declared.request.PlainRequest.{PlainRequest}
use Rattle.signer_link.specs.declared.reply.SignReply.{SignReply}
use Rattle.signer_link.specs.declared.reply.SignReply.TheVariants as signing
use Rattle.signer_link.specs.declared.reply.Told.{Told}
use Rattle.call_plans.specs.Plans.{Done, Ask, Follows}
use Rattle.call_plans.proofs.PathLemmas.{carries_end, carries_step}
use Rattle.client_calls.specs.Steps.{ClientCall, ClientReply, ClientPlan, Calls, Signs, SignsPlain, Replies, Signed, Fits, told_under}
use Rattle.client_calls.specs.Seats.{SignerSeen, Seat, at_seat, Does}
use Rattle.client_calls.proofs.SeatLemmas.{Leads, NoneLed, sign_fault, signer_none}
use Rattle.keymanager_routes.specs.declared.reply.Reply.{Reply}
use Rattle.sign_proxy.specs.Replies.{desk_reply, signer_reply}
use Rattle.sign_proxy.specs.Plans.{SigningResult, WithReply, WithSignature, WithoutMemory, answered, granted, refused, signed, signs, signs_plain}
use Rattle.sign_proxy.specs.Signing.{CanSettle, GrantedFor, Ends, EndsUnsigned, EndsWith}
use Rattle.sign_proxy.specs.declared.signing.SignEnd.{SignEnd}
use Rattle.sign_proxy.specs.declared.signing.SignEnd.TheVariants as ending
use Rattle.sign_proxy.proofs.ReplyLemmas.{IsNoGrant, granted_none}

-- ---- plans

-- a call, and then what follows by its reply
pub ends_ask : {K : Type 0} (leads : Leads K) (a m b : Seat K) (c : ClientCall) (r : ClientReply) (k : ClientReply → ClientPlan SigningResult) (e : SignEnd)
    → Does leads a (c, r) m → Fits c r → Ends leads (k r) m b e → Ends leads (Ask c k) a b e
ends_ask leads a m b c r k e d fit rest = record {
  result = rest.result;
  middle = rest.middle;
  carries = carries_step Fits (Does leads) c r k a m rest.middle (Some rest.result) d fit rest.carries;
  ends = rest.ends;
}

-- nothing more is called
pub ends_now : {K : Type 0} (leads : Leads K) (plan : ClientPlan SigningResult) (a b : Seat K) (v : SigningResult) (e : SignEnd) → Follows Fits plan [] (Some v) → EndsWith leads v a b e → Ends leads plan a b e
ends_now leads plan a b v e f w = record { result = v; middle = a; carries = carries_end Fits (Does leads) plan a (Some v) f; ends = w }

-- it is not signed
pub ends_unsigned : {K : Type 0} (leads : Leads K) (o : Option Reply) (a : Seat K) (e : SignEnd) → EndsUnsigned o e → Ends leads (refused o) a a e
ends_unsigned leads None a (ending.Refused given) h = absurd h
ends_unsigned leads None a ending.OutOfMemory h = ends_now leads (Done WithoutMemory) a a WithoutMemory ending.OutOfMemory refl refl
ends_unsigned leads None a (ending.Signed given under) h = absurd h
ends_unsigned leads (Some r) a (ending.Refused given) h = ends_now leads (Done (WithReply r)) a a (WithReply r) (ending.Refused given) refl (h, refl)
ends_unsigned leads (Some r) a ending.OutOfMemory h = ends_now leads (Done (WithReply r)) a a (WithReply r) ending.OutOfMemory refl refl
ends_unsigned leads (Some r) a (ending.Signed given under) h = absurd h

-- what is not signed has no grant
pub unsigned_settles : {K : Type 0} (allows : K → DeskCall → Type 0) (d : K) (o : Option Reply) (e : SignEnd) → EndsUnsigned o e → CanSettle allows d e
unsigned_settles allows d None (ending.Refused given) h = tt
unsigned_settles allows d None ending.OutOfMemory h = tt
unsigned_settles allows d None (ending.Signed given under) h = absurd h
unsigned_settles allows d (Some r) (ending.Refused given) h = tt
unsigned_settles allows d (Some r) ending.OutOfMemory h = tt
unsigned_settles allows d (Some r) (ending.Signed given under) h = absurd h

pub unsigned_granted : (key : PubKey) (message : Option Message) (o : Option Reply) (e : SignEnd) → EndsUnsigned o e → GrantedFor key message e
unsigned_granted key message None (ending.Refused given) h = tt
unsigned_granted key message None ending.OutOfMemory h = tt
unsigned_granted key message None (ending.Signed given under) h = absurd h
unsigned_granted key message (Some r) (ending.Refused given) h = tt
unsigned_granted key message (Some r) ending.OutOfMemory h = tt
unsigned_granted key message (Some r) (ending.Signed given under) h = absurd h

-- a grant that is of a key and a message, and handed out as this one, is of these
pub granted_same : (key : PubKey) (message : Option Message) (g : OpenGrant) (e : SignEnd) → GrantedFor g.key g.message e → g.key ≡ key → g.message ≡ message → GrantedFor key message e
granted_same key message g (ending.Refused given) h k m = tt
granted_same key message g ending.OutOfMemory h k m = tt
granted_same key message g (ending.Signed given under) h k m = (h.0 ∙ k, h.1 ∙ m)

-- ---- calls of the desk

pub desk_step : {K : Type 0} (leads : Leads K) (d e : K) (s : SignerSeen) (c : DeskCall) (r : DeskReply) → leads d ((c, r) ∷ []) e → Does leads (at_seat d s) (Calls c, Replies r) (at_seat e s)
desk_step leads d e s c r led = record { desk = led; signer = signer_none s }

-- the desk gave no grant
pub ends_refused : {K : Type 0} (leads : Leads K) (d e : K) (s : SignerSeen) (c : DeskCall) (r : DeskReply) (under : OpenGrant → ClientPlan SigningResult) (x : SignEnd)
    → leads d ((c, r) ∷ []) e → IsKind c r → IsNoGrant r → EndsUnsigned (desk_reply r) x → Ends leads (Ask (Calls c) (granted under)) (at_seat d s) (at_seat e s) x
ends_refused leads d e s c r under x led kind none h =
    ends_ask leads (at_seat d s) (at_seat e s) (at_seat e s) (Calls c) (Replies r) (granted under) x (desk_step leads d e s c r led) kind
    (subst (λ p. Ends leads p (at_seat e s) (at_seat e s) x) (sym (granted_none under r none)) (ends_unsigned leads (desk_reply r) (at_seat e s) x h))

-- it gave one, and this came of it
pub ends_granted : {K : Type 0} (leads : Leads K) (d e : K) (s : SignerSeen) (b : Seat K) (c : DeskCall) (g : OpenGrant) (under : OpenGrant → ClientPlan SigningResult) (x : SignEnd)
    → leads d ((c, reply.Granted g) ∷ []) e → IsKind c (reply.Granted g) → Ends leads (under g) (at_seat e s) b x → Ends leads (Ask (Calls c) (granted under)) (at_seat d s) b x
ends_granted leads d e s b c g under x led kind rest =
    ends_ask leads (at_seat d s) (at_seat e s) b (Calls c) (Replies (reply.Granted g)) (granted under) x (desk_step leads d e s c (reply.Granted g) led) kind rest

-- ---- calls of the signer

-- what the signer tells of the message of a grant
told_message : (g : OpenGrant) (q : SignRequest) (r : SignReply) (o : Option Message) (a b : Option (List Told)) → IsSome o → IfSome o (λ m. Tells a b (told_sign (asked g.key m q) r)) → Tells a b (told_under g q o r)
told_message g q r None a b is h = absurd (let bad : false ≡ true = is in cc)
told_message g q r (Some m) a b is h = h

-- its counts after a call for a signature
abbrev pub SignCounts : SignReply → SignerSeen → SignerSeen → Type 0
SignCounts r s t = (s.faults ≤ t.faults) × (r ≡ signing.Fault → Rose s.faults t.faults) × (s.denials ≤ t.denials) × CountsDenial (sign_denied r) s.denials t.denials

pub ends_signs : {K : Type 0} (leads : Leads K) (none : NoneLed leads) (d : K) (s t : SignerSeen) (b : Seat K) (g : OpenGrant) (q : SignRequest) (r : SignReply) (x : SignEnd)
    → IsSome g.message → IfSome g.message (λ m. Tells s.told t.told (told_sign (asked g.key m q) r)) → SignCounts r s t
    → Ends leads (answered g r) (at_seat d t) b x → Ends leads (signs q g) (at_seat d s) b x
ends_signs leads none d s t b g q r x is tells counts rest =
    ends_ask leads (at_seat d s) (at_seat d t) b (Signs g q) (Signed r) (signed g) x
    (record { desk = none d; signer = record { told = told_message g q r g.message s.told t.told is tells; later = counts.0; fault = sign_fault r s.faults t.faults counts.1; denials = counts.2; denied = counts.3 } })
    tt rest

pub ends_signs_plain : {K : Type 0} (leads : Leads K) (none : NoneLed leads) (d : K) (s t : SignerSeen) (b : Seat K) (g : OpenGrant) (q : PlainRequest) (r : SignReply) (x : SignEnd)
    → Tells s.told t.told (told_plain (plainly_asked g.key q) r) → SignCounts r s t
    → Ends leads (answered g r) (at_seat d t) b x → Ends leads (signs_plain q g) (at_seat d s) b x
ends_signs_plain leads none d s t b g q r x tells counts rest =
    ends_ask leads (at_seat d s) (at_seat d t) b (SignsPlain g q) (Signed r) (signed g) x
    (record { desk = none d; signer = record { told = tells; later = counts.0; fault = sign_fault r s.faults t.faults counts.1; denials = counts.2; denied = counts.3 } })
    tt rest

-- ---- the grant

-- a signature was given
pub ends_signature : {K : Type 0} (leads : Leads K) (a b : Seat K) (g : OpenGrant) (signature : Sig) (r : SignReply) (x : SignEnd)
    → r ≡ signing.Signed signature → EndsWith leads (WithSignature signature g) a b x → Ends leads (answered g r) a b x
ends_signature leads a b g signature r x is w =
    subst (λ q. Ends leads (answered g q) a b x) (sym is) (ends_now leads (Done (WithSignature signature g)) a b (WithSignature signature g) x refl w)

-- no signature: the grant is dropped
dropped_by : {K : Type 0} (leads : Leads K) (d e : K) (s : SignerSeen) (g : OpenGrant) (o : Option Reply) (x : SignEnd)
    → leads d ((call.Settle g Dropped, reply.Settled) ∷ []) e → EndsUnsigned o x → Ends leads (Ask (Calls (call.Settle g Dropped)) (λ r. refused o)) (at_seat d s) (at_seat e s) x
dropped_by leads d e s g o x led h =
    ends_ask leads (at_seat d s) (at_seat e s) (at_seat e s) (Calls (call.Settle g Dropped)) (Replies reply.Settled) (λ r. refused o) x (desk_step leads d e s (call.Settle g Dropped) reply.Settled led) tt
    (ends_unsigned leads o (at_seat e s) x h)

pub ends_dropped : {K : Type 0} (leads : Leads K) (d e : K) (s : SignerSeen) (g : OpenGrant) (r : SignReply) (x : SignEnd)
    → ((signature : Sig) → r ≡ signing.Signed signature → ⊥) → leads d ((call.Settle g Dropped, reply.Settled) ∷ []) e → EndsUnsigned (signer_reply r) x → Ends leads (answered g r) (at_seat d s) (at_seat e s) x
ends_dropped leads d e s g (signing.Signed signature) x none led h = absurd (none signature refl)
ends_dropped leads d e s g (signing.NoKey status) x none led h = dropped_by leads d e s g (signer_reply (signing.NoKey status)) x led h
ends_dropped leads d e s g (signing.Denied status) x none led h = dropped_by leads d e s g (signer_reply (signing.Denied status)) x led h
ends_dropped leads d e s g signing.Fault x none led h = dropped_by leads d e s g (signer_reply signing.Fault) x led h
ends_dropped leads d e s g (signing.BadAnswer body) x none led h = dropped_by leads d e s g (signer_reply (signing.BadAnswer body)) x led h
ends_dropped leads d e s g signing.OutOfMemory x none led h = dropped_by leads d e s g None x led h
