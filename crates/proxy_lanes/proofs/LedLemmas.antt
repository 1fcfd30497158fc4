-- What a desk was led on by in connections that were served with it.
use Rattle.std.proofs.Common.{◌≡◌, ℕ, Bool, List, [], ◌∷◌, ◌++◌, Option, Result, Ok, Err, sym, subst}
use Rattle.edge_kit.specs.declared.bytes.Root.{Root}
use Rattle.call_plans.specs.Paths.{Path}
use Rattle.desk_machine.specs.declared.call.DeskCall.{DeskCall}
use Rattle.desk_machine.specs.declared.call.DeskReply.{DeskReply}
use Rattle.client_calls.specs.Seats.{Does, Seat}
use Rattle.client_calls.specs.Steps.{ClientPlan, ClientStep, desk_calls, step_calls}
use Rattle.http_wire.specs.declared.message.Request.{Request}
use Rattle.http_wire.specs.declared.message.WireFault.{WireFault}
use Rattle.keymanager_routes.specs.declared.refusal.Refusal.{Refusal}
use Rattle.keymanager_routes.specs.declared.reply.Reply.{Reply}
use Rattle.keymanager_api.specs.Serving.{LinkSeen}
use Rattle.keymanager_api.specs.Visits.{asks_failed}
use Rattle.keymanager_api.specs.declared.serve.Served.{Served}
use Rattle.sign_proxy.specs.Plans.{SigningResult, WithReply, WithSignature, WithoutMemory}
use Rattle.sign_proxy.specs.Signing.{Answers, Ends, EndsWith, reads, unread}
use Rattle.sign_proxy.specs.declared.signing.SignEnd.{SignEnd}
use Rattle.sign_proxy.specs.declared.signing.SignEnd.TheVariants as ending
use Rattle.door_lanes.specs.Lanes.{Visit, Visits}
use Rattle.proxy_api.specs.Attending.{Attends, AttendsAt, Terms}
use Rattle.proxy_api.specs.Routes.{wanted_for}
use Rattle.proxy_api.specs.declared.form.Form.{Form}
use Rattle.proxy_api.specs.Signing.{ByPlan, DoesRead, DoesWanted, RepliesTo, settles_as}
use Rattle.proxy_api.specs.declared.route.Wanted.{Wanted}
use Rattle.proxy_api.specs.declared.route.Wanted.TheVariants as wanted

-- a servant served a connection
abbrev pub AtSeats : {K V C : Type 0} → (K → List (DeskCall × DeskReply) → K → Type 0) → (C → LinkSeen) → (V → Terms) → (V → Seat K) → V → C → C → Bool → V → Type 0
AtSeats leads see terms seat s c d failed t = AttendsAt leads see (terms s) (terms t) c d (seat s) (seat t) failed

module _ {K : Type 0} (leads : K → List (DeskCall × DeskReply) → K → Type 0) (none : (d : K) → leads d [] d)
    (more : (d e f : K) (xs ys : List (DeskCall × DeskReply)) → leads d xs e → leads e ys f → leads d (xs ++ ys) f) where
  -- by some calls
  abbrev Led : K → K → Type 0
  Led a b = (calls : List (DeskCall × DeskReply)) × leads a calls b

  both : (a b c : K) → Led a b → Led b c → Led a c
  both a b c p q = (p.0 ++ q.0, more a b c p.0 q.0 p.1 q.1)

  same : (a b : Seat K) → b ≡ a → Led a.desk b.desk
  same a b e = ([], subst (λ (x : Seat K). leads a.desk [] x.desk) (sym e) (none a.desk))

  path_led : (a b : Seat K) (steps : List ClientStep) → Path (Does leads) a steps b → Led a.desk b.desk
  path_led a b [] p = same a b p
  path_led a b (s ∷ steps) p = both a.desk p.0.desk b.desk (step_calls s, p.1.desk) (path_led p.0 b steps p.2)

  ends_with_led : (r : SigningResult) (m b : Seat K) (e : SignEnd) → EndsWith leads r m b e → Led m.desk b.desk
  ends_with_led (WithReply x) m b (ending.Refused given) h = same m b h.1
  ends_with_led (WithReply x) m b ending.OutOfMemory h = same m b h
  ends_with_led (WithReply x) m b (ending.Signed given grant) h = absurd h
  ends_with_led (WithSignature signature g) m b (ending.Refused given) h = absurd h
  ends_with_led (WithSignature signature g) m b ending.OutOfMemory h = absurd h
  ends_with_led (WithSignature signature g) m b (ending.Signed given grant) h = same m b h.2
  ends_with_led WithoutMemory m b (ending.Refused given) h = absurd h
  ends_with_led WithoutMemory m b ending.OutOfMemory h = same m b h
  ends_with_led WithoutMemory m b (ending.Signed given grant) h = absurd h

  ends_led : (plan : ClientPlan SigningResult) (a b : Seat K) (e : SignEnd) → Ends leads plan a b e → Led a.desk b.desk
  ends_led plan a b e h = both a.desk h.middle.desk b.desk (path_led a h.middle h.carries.steps h.carries.path) (ends_with_led h.result h.middle b e h.ends)

  answers_led : (identifier : List ℕ) (genesis : Root) (body : List ℕ) (now : ℕ) (a b : Seat K) (e : SignEnd) → Answers leads identifier genesis body now a b e → Led a.desk b.desk
  answers_led identifier genesis body now a b e (reads read is ends granted) = ends_led _ a b e ends
  answers_led identifier genesis body now a b e (unread without stays) = same a b stays

  module _ (h i : Option (List ℕ)) (f g : ℕ) where
    replies_led : (form : Form) (e : SignEnd) (m b : Seat K) (s : Served) → RepliesTo form leads h i f g e m b s → Led m.desk b.desk
    replies_led form (ending.Refused given) m b s r = same m b r.0
    replies_led form ending.OutOfMemory m b s r = same m b r.0
    replies_led form (ending.Signed given grant) m b s r = (settles_as grant r.begun, r.settles)

    plan_led : (plan : ClientPlan Reply) (a b : Seat K) (s : Served) → ByPlan leads plan h i f g a b s → Led a.desk b.desk
    plan_led plan a b s p = (desk_calls p.ran.steps, p.ran.desk)

    wanted_led : (genesis : Root) (now : ℕ) (request : Request) (w : Result Wanted Refusal) (a b : Seat K) (s : Served) → DoesWanted leads genesis now request w h i f g a b s → Led a.desk b.desk
    wanted_led genesis now request (Err r) a b s p = plan_led _ a b s p
    wanted_led genesis now request (Ok (wanted.Keys what)) a b s p = plan_led _ a b s p
    wanted_led genesis now request (Ok wanted.Signature) a b s p =
        both a.desk p.middle.desk b.desk (answers_led _ genesis request.body.items now a p.middle p.ended p.answers) (replies_led _ p.ended p.middle b s p.replies)
    wanted_led genesis now request (Ok wanted.PublicKeys) a b s p = plan_led _ a b s p
    wanted_led genesis now request (Ok wanted.Upcheck) a b s p = same a b p.0

    read_led : (token : List ℕ) (genesis : Root) (now : ℕ) (read : Result Request WireFault) (a b : Seat K) (s : Served) → DoesRead leads token genesis now read h i f g a b s → Led a.desk b.desk
    read_led token genesis now (Ok request) a b s p = wanted_led genesis now request (wanted_for token request) a b s p
    read_led token genesis now (Err e) a b s p = plan_led _ a b s p

  pub attends_led : (p : Terms) (x y : LinkSeen) (a b : Seat K) (failed : Bool) → Attends leads p x y a b failed → Led a.desk b.desk
  attends_led p x y a b failed d =
      both a.desk d.answered.desk b.desk (read_led d.serves.held y.held x.faults y.faults p.token p.genesis _ d.serves.read a d.answered d.served d.serves.does) (asks_failed failed, d.asked)

  module _ {V C : Type 0} (see : C → LinkSeen) (terms : V → Terms) (seat : V → Seat K) where
    -- of one servant, over all its connections
    pub visits_led : (a b : V) (visits : List (Visit C)) → Path (Visits (AtSeats leads see terms seat)) a visits b → Led (seat a).desk (seat b).desk
    visits_led a b [] p = ([], subst (λ (x : V). leads (seat a).desk [] (seat x).desk) (sym p) (none (seat a).desk))
    visits_led a b (v ∷ visits) p =
        both (seat a).desk (seat p.0).desk (seat b).desk (attends_led (terms a) (see v.accepted) (see v.finished) (seat a) (seat p.0) v.failed p.1.1) (visits_led p.0 b visits p.2)
