-- What was served at seats of a shared desk was served over the calls that the seats made.
use Rattle.std.proofs.Common.{ℕ, Bool, List, [], ◌∷◌, Option, Result, Ok, Err, ap}
use Rattle.edge_kit.specs.declared.bytes.Root.{Root}
use Rattle.call_plans.specs.Paths.{Path}
use Rattle.desk_machine.specs.declared.call.DeskCall.{DeskCall}
use Rattle.desk_machine.specs.declared.call.DeskReply.{DeskReply}
use Rattle.client_calls.specs.Seats.{Does, Ran, Seat, at_seat}
use Rattle.client_calls.specs.Steps.{ClientPlan, ClientStep, desk_calls, step_calls}
use Rattle.http_wire.specs.declared.message.Request.{Request}
use Rattle.http_wire.specs.declared.message.WireFault.{WireFault}
use Rattle.keymanager_routes.specs.declared.refusal.Refusal.{Refusal}
use Rattle.keymanager_routes.specs.declared.reply.Reply.{Reply}
use Rattle.keymanager_api.specs.Serving.{LinkSeen}
use Rattle.keymanager_api.specs.Visits.{asks_failed}
use Rattle.keymanager_api.specs.declared.serve.Served.{Served}
use Rattle.sign_proxy.specs.Plans.{SigningResult, WithReply, WithSignature, WithoutMemory, signing_plan}
use Rattle.sign_proxy.specs.Signing.{Answers, Ends, EndsWith, reads, unread}
use Rattle.sign_proxy.specs.declared.signing.SignEnd.{SignEnd}
use Rattle.sign_proxy.specs.declared.signing.SignEnd.TheVariants as ending
use Rattle.proxy_api.specs.Attending.{Attends, Terms}
use Rattle.proxy_api.specs.Routes.{wanted_for}
use Rattle.proxy_api.specs.declared.form.Form.{Form}
use Rattle.proxy_api.specs.Signing.{ByPlan, BySigning, DoesRead, DoesWanted, RepliesTo, SignServes, settles_as}
use Rattle.proxy_api.specs.declared.route.Wanted.{Wanted}
use Rattle.proxy_api.specs.declared.route.Wanted.TheVariants as wanted
use Rattle.proxy_lanes.specs.Lanes.{Calls, Grew}

-- what a desk is seen as are calls that grow by those that lead from one desk to another
abbrev pub IsView : {K : Type 0} → (K → List (DeskCall × DeskReply) → K → Type 0) → (K → Calls) → Type 0
IsView {K} leads view = (a b : K) (made : Calls) → leads a made b → Grew (view a) made (view b)

abbrev pub seen_by : {K : Type 0} → (K → Calls) → Seat K → Seat Calls
seen_by view seat = at_seat (view seat.desk) seat.signer

module _ {K : Type 0} (leads : K → List (DeskCall × DeskReply) → K → Type 0) (view : K → Calls) (is : IsView leads view) where
  abbrev V : Seat K → Seat Calls
  V seat = seen_by view seat

  does_seen : (a b : Seat K) (s : ClientStep) → Does leads a s b → Does Grew (V a) s (V b)
  does_seen a b s d = record { desk = is a.desk b.desk (step_calls s) d.desk; signer = d.signer }

  path_seen : (a b : Seat K) (steps : List ClientStep) → Path (Does leads) a steps b → Path (Does Grew) (V a) steps (V b)
  path_seen a b [] p = ap (λ (x : Seat K). V x) p
  path_seen a b (s ∷ steps) p = (V p.0, does_seen a p.0 s p.1, path_seen p.0 b steps p.2)

  ran_seen : {X : Type 0} (plan : ClientPlan X) (a b : Seat K) (value : Option X) → Ran leads plan a b value → Ran Grew plan (V a) (V b) value
  ran_seen plan a b value r = record { steps = r.steps; follows = r.follows; desk = is a.desk b.desk (desk_calls r.steps) r.desk; signer = r.signer }

  ends_with_seen : (r : SigningResult) (m b : Seat K) (e : SignEnd) → EndsWith leads r m b e → EndsWith Grew r (V m) (V b) e
  ends_with_seen (WithReply x) m b (ending.Refused given) h = (h.0, ap (λ (s : Seat K). V s) h.1)
  ends_with_seen (WithReply x) m b ending.OutOfMemory h = ap (λ (s : Seat K). V s) h
  ends_with_seen (WithReply x) m b (ending.Signed given grant) h = absurd h
  ends_with_seen (WithSignature signature g) m b (ending.Refused given) h = absurd h
  ends_with_seen (WithSignature signature g) m b ending.OutOfMemory h = absurd h
  ends_with_seen (WithSignature signature g) m b (ending.Signed given grant) h = (h.0, h.1, ap (λ (s : Seat K). V s) h.2)
  ends_with_seen WithoutMemory m b (ending.Refused given) h = absurd h
  ends_with_seen WithoutMemory m b ending.OutOfMemory h = ap (λ (s : Seat K). V s) h
  ends_with_seen WithoutMemory m b (ending.Signed given grant) h = absurd h

  ends_seen : (plan : ClientPlan SigningResult) (a b : Seat K) (e : SignEnd) → Ends leads plan a b e → Ends Grew plan (V a) (V b) e
  ends_seen plan a b e h = record {
    result = h.result;
    middle = V h.middle;
    carries = record { steps = h.carries.steps; path = path_seen a h.middle h.carries.steps h.carries.path; follows = h.carries.follows };
    ends = ends_with_seen h.result h.middle b e h.ends;
  }

  answers_seen : (identifier : List ℕ) (genesis : Root) (body : List ℕ) (now : ℕ) (a b : Seat K) (e : SignEnd) → Answers leads identifier genesis body now a b e → Answers Grew identifier genesis body now (V a) (V b) e
  answers_seen identifier genesis body now a b e (reads read is ends granted) = reads read is (ends_seen (signing_plan now read) a b e ends) granted
  answers_seen identifier genesis body now a b e (unread without same) = unread without (ap (λ (s : Seat K). V s) same)

  module _ (h i : Option (List ℕ)) (f g : ℕ) where
    replies_seen : (form : Form) (e : SignEnd) (m b : Seat K) (s : Served) → RepliesTo form leads h i f g e m b s → RepliesTo form Grew h i f g e (V m) (V b) s
    replies_seen form (ending.Refused given) m b s r = (ap (λ (x : Seat K). V x) r.0, r.1)
    replies_seen form ending.OutOfMemory m b s r = (ap (λ (x : Seat K). V x) r.0, r.1)
    replies_seen form (ending.Signed given grant) m b s r = record { begun = r.begun; sends = r.sends; settles = is m.desk b.desk (settles_as grant r.begun) r.settles; signer = r.signer }

    plan_seen : (plan : ClientPlan Reply) (a b : Seat K) (s : Served) → ByPlan leads plan h i f g a b s → ByPlan Grew plan h i f g (V a) (V b) s
    plan_seen plan a b s p = record { reply = p.reply; ran = ran_seen plan a b p.reply p.ran; sends = p.sends }

    module _ (genesis : Root) (now : ℕ) where
      signing_seen : (request : Request) (a b : Seat K) (s : Served) → BySigning leads genesis now request h i f g a b s → BySigning Grew genesis now request h i f g (V a) (V b) s
      signing_seen request a b s p = record {
        ended = p.ended;
        middle = V p.middle;
        answers = answers_seen _ genesis request.body.items now a p.middle p.ended p.answers;
        replies = replies_seen _ p.ended p.middle b s p.replies;
      }

      wanted_seen : (request : Request) (w : Result Wanted Refusal) (a b : Seat K) (s : Served) → DoesWanted leads genesis now request w h i f g a b s → DoesWanted Grew genesis now request w h i f g (V a) (V b) s
      wanted_seen request (Err r) a b s p = plan_seen _ a b s p
      wanted_seen request (Ok (wanted.Keys what)) a b s p = plan_seen _ a b s p
      wanted_seen request (Ok wanted.Signature) a b s p = signing_seen request a b s p
      wanted_seen request (Ok wanted.PublicKeys) a b s p = plan_seen _ a b s p
      wanted_seen request (Ok wanted.Upcheck) a b s p = (ap (λ (x : Seat K). V x) p.0, p.1)

      read_seen : (token : List ℕ) (read : Result Request WireFault) (a b : Seat K) (s : Served) → DoesRead leads token genesis now read h i f g a b s → DoesRead Grew token genesis now read h i f g (V a) (V b) s
      read_seen token (Ok request) a b s p = wanted_seen request (wanted_for token request) a b s p
      read_seen token (Err e) a b s p = plan_seen _ a b s p

  serves_seen : (token : List ℕ) (genesis : Root) (now : ℕ) (x y : LinkSeen) (a b : Seat K) (s : Served) → SignServes leads token genesis now x y a b s → SignServes Grew token genesis now x y (V a) (V b) s
  serves_seen token genesis now x y a b s v = record {
    read = v.read;
    left = v.left;
    took = v.took;
    held = v.held;
    continued = v.continued;
    does = read_seen v.held y.held x.faults y.faults genesis now token v.read a b s v.does;
    failed = v.failed;
  }

  -- a connection that was served
  pub attends_seen : (p : Terms) (x y : LinkSeen) (a b : Seat K) (failed : Bool) → Attends leads p x y a b failed → Attends Grew p x y (V a) (V b) failed
  attends_seen p x y a b failed d = record {
    moment = d.moment;
    shown = d.shown;
    served = d.served;
    answered = V d.answered;
    serves = serves_seen p.token p.genesis _ x y a d.answered d.served d.serves;
    asked = is d.answered.desk b.desk (asks_failed failed) d.asked;
    signer = d.signer;
  }
