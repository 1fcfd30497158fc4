-- The grants that a lane settled as sent are those of its signatures whose replies were begun, in order.
use Rattle.std.proofs.Common.{◌≡◌, inl, inr, ℕ, zero, suc, Bool, true, false, List, [], ◌∷◌, ◌++◌, Option, None, Some, Result, Ok, Err, refl, sym, ap, ◌∙◌, append_assoc, append-nil}
use Rattle.std.specs.Prelude.{slice_index_or}
use Rattle.std.proofs.lemmas.Grind.{flat_map-append}
use Rattle.edge_kit.specs.declared.bytes.PubKey.{PubKey}
use Rattle.edge_kit.specs.declared.bytes.Root.{Root}
use Rattle.slash_defs.specs.declared.message.Message.{Message}
use Rattle.desk_machine.specs.Making.{AllBusy, ClosesIdle}
use Rattle.desk_machine.specs.declared.open_grant.OpenGrant.{OpenGrant}
use Rattle.desk_machine.specs.declared.call.DeskCall.{DeskCall}
use Rattle.desk_machine.specs.declared.call.DeskCall.TheVariants as call
use Rattle.desk_machine.specs.declared.call.DeskReply.{DeskReply}
use Rattle.desk_machine.specs.declared.call.DeskReply.TheVariants as reply
use Rattle.signer_link.specs.declared.reply.SignReply.{SignReply}
use Rattle.signer_link.specs.declared.reply.SignReply.TheVariants as signing
use Rattle.call_plans.specs.Plans.{Done, Stop, Ask}
use Rattle.call_plans.specs.Paths.{Path}
use Rattle.client_calls.specs.Seats.{Does, SignerSeen}
use Rattle.client_calls.specs.Steps.{ClientCall, ClientReply, ClientStep, ClientPlan, Calls, Closes, Replies, ClosedBy, Signed, Fits, step_calls, desk_calls}
use Rattle.client_calls.proofs.AskLemmas.{AllAsked, AllSteps, asked_bind, steps_asked}
use Rattle.client_calls.proofs.QuietLemmas.{IsQuiet, IsQuietCall}
use Rattle.key_custody.specs.Plans.{deletion_plan, import_plan, list_plan}
use Rattle.key_custody.proofs.QuietLemmas.{quiet_deletion, quiet_import, quiet_list}
use Rattle.http_wire.specs.Parts.{parts_of}
use Rattle.http_wire.specs.declared.message.Request.{Request}
use Rattle.http_wire.specs.declared.message.WireFault.{WireFault}
use Rattle.http_wire.specs.declared.message.WireFault.TheVariants as fault
use Rattle.keymanager_routes.specs.Refusals.{refusal_reply}
use Rattle.keymanager_routes.specs.declared.refusal.Refusal.{Refusal}
use Rattle.keymanager_routes.specs.declared.reply.Reply.{Reply}
use Rattle.keymanager_bodies.specs.Asking.{body_asks}
use Rattle.keymanager_bodies.specs.Bodies.{deletion_reply, import_reply, listed_reply}
use Rattle.keymanager_bodies.specs.declared.asked.Asked.{Asked}
use Rattle.keymanager_bodies.specs.declared.asked.Asked.TheVariants as asked
use Rattle.keymanager_api.specs.Plans.{asked_plan, checked_plan, faulty_plan}
use Rattle.keymanager_api.specs.Serving.{LinkSeen}
use Rattle.keymanager_api.specs.declared.serve.Served.{Served}
use Rattle.signing_requests.specs.Objects.{wanted_of}
use Rattle.signing_requests.specs.declared.request.SigningRequest.{SigningRequest}
use Rattle.signing_requests.specs.declared.request.Wanted.{Wanted as Signable}
use Rattle.signing_requests.specs.declared.request.Wanted.TheVariants as signable
use Rattle.signing_requests.specs.declared.refusal.SigningRefusal.{SigningRefusal}
use Rattle.sign_proxy.specs.Plans.{SigningResult, WithReply, WithSignature, WithoutMemory, answered, granted, refused, signed, signing_plan, signs, signs_plain, wanted_plan}
use Rattle.sign_proxy.specs.Replies.{desk_reply, signer_reply}
use Rattle.sign_proxy.specs.Signing.{Answers, EndsWith, reads, unread}
use Rattle.sign_proxy.specs.declared.signing.SignEnd.{SignEnd}
use Rattle.sign_proxy.specs.declared.signing.SignEnd.TheVariants as ending
use Rattle.door_lanes.specs.Doors.{DoorSeen}
use Rattle.door_lanes.specs.Lanes.{Visit, Visits}
use Rattle.door_lanes.specs.Runs.{LanesServed, Served as DoorServed}
use Rattle.door_lanes.specs.declared.lanes.LoopEnd.{LoopEnd}
use Rattle.proxy_api.specs.Attending.{Attends, Terms}
use Rattle.proxy_api.specs.Forms.{form_of}
use Rattle.proxy_api.specs.Listing.{keys_plan, keys_reply}
use Rattle.proxy_api.specs.Routes.{wanted_for}
use Rattle.proxy_api.specs.Signing.{ByPlan, DoesRead, DoesWanted, RepliesTo, settles_as}
use Rattle.proxy_api.specs.declared.form.Form.{Form}
use Rattle.proxy_api.specs.declared.route.Wanted.{Wanted}
use Rattle.proxy_api.specs.declared.route.Wanted.TheVariants as wanted
use Rattle.proxy_lanes.specs.Lanes.{AttendsBy, Calls as LaneCalls, Grew, LaneSeen, idle_lanes}
use Rattle.proxy_run.specs.Begun.{Signed as Signature, sent_by, sent_of, signed_along, signed_at, signed_by, signed_in, signed_lanes, signed_read, signed_wanted}
use Rattle.client_world.specs.Acts.{calls_by_lane}
use Rattle.client_world.proofs.LaneLemmas.{sent_under, sent_with}

-- ---- calls under which nothing is sent

sent_both : (xs ys : LaneCalls) → sent_under (xs ++ ys) ≡ sent_under xs ++ sent_under ys
sent_both [] ys = refl
sent_both (x ∷ xs) ys = ap (λ (l : List (PubKey × Message)). sent_with x.0 ++ l) (sent_both xs ys) ∙ sym (append_assoc (sent_with x.0) (sent_under xs) (sent_under ys))

-- the call settles no grant as sent
abbrev IsUnsent : ClientCall → Type 0
IsUnsent (Calls c) = sent_with c ≡ []
IsUnsent c = Unit {0}

unsent_busy : (key : PubKey) (busy : LaneCalls) → AllBusy (call.FinishClose key) busy → sent_under busy ≡ []
unsent_busy key [] all = refl
unsent_busy key (x ∷ busy) all =
    ap (λ (c : DeskCall). sent_with c ++ sent_under busy) all.0 ∙ unsent_busy key busy all.2

unsent_idle : (key : PubKey) (r : DeskReply) (made : LaneCalls) → ClosesIdle (call.FinishClose key) r made → sent_under made ≡ []
unsent_idle key r made idle =
    ap (λ (l : LaneCalls). sent_under l) idle.made_is ∙ sent_both idle.busy ((call.FinishClose key, r) ∷ []) ∙ append-nil (sent_under idle.busy) ∙ unsent_busy key idle.busy idle.all_busy

unsent_step : (c : ClientCall) (r : ClientReply) → IsUnsent c → Fits c r → sent_under (step_calls (c, r)) ≡ []
unsent_step (Calls c) (Replies r) none fits = append-nil (sent_with c) ∙ none
unsent_step (Closes key) (ClosedBy made r) none fits = unsent_idle key r made fits.0
unsent_step c r none fits = refl

abbrev AreUnsent : List ClientStep → Type 0
AreUnsent steps = AllSteps (λ c r. IsUnsent c × Fits c r) steps

unsent_steps : (steps : List ClientStep) → AreUnsent steps → sent_under (desk_calls steps) ≡ []
unsent_steps [] all = refl
unsent_steps (s ∷ steps) all =
    sent_both (step_calls s) (desk_calls steps)
    ∙ ap (λ (l : List (PubKey × Message)). l ++ sent_under (desk_calls steps)) (unsent_step s.0 s.1 all.0.0 all.0.1)
    ∙ unsent_steps steps all.1

-- ---- plans under which nothing is sent

quiet_unsent : (c : DeskCall) → IsQuietCall c → sent_with c ≡ []
quiet_unsent (call.Settle grant o) quiet = absurd quiet
quiet_unsent c quiet = refl

quiet_call : (c : ClientCall) → IsQuiet c → IsUnsent c
quiet_call (Calls c) quiet = quiet_unsent c quiet
quiet_call c quiet = tt

quiet_plan : {X : Type 0} (p : ClientPlan X) → AllAsked IsQuiet p → AllAsked IsUnsent p
quiet_plan (Done x) quiet = tt
quiet_plan Stop quiet = tt
quiet_plan (Ask c k) quiet = (quiet_call c quiet.0, λ r. quiet_plan (k r) (quiet.1 r))

-- what a key manager asks
unsent_asked : (now : ℕ) (a : Asked) → AllAsked IsUnsent (asked_plan now a)
unsent_asked now asked.List = asked_bind IsUnsent list_plan (λ keys. Done (listed_reply keys)) (quiet_plan list_plan quiet_list) (λ keys. tt)
unsent_asked now (asked.Import file keystores) =
    asked_bind IsUnsent (import_plan file now keystores) (λ ends. Done (import_reply ends)) (quiet_plan (import_plan file now keystores) (quiet_import file now keystores)) (λ ends. tt)
unsent_asked now (asked.Delete keys) = asked_bind IsUnsent (deletion_plan keys) (λ deletion. Done (deletion_reply deletion)) (quiet_plan (deletion_plan keys) (quiet_deletion keys)) (λ deletion. tt)

unsent_checked : (now : ℕ) (a : Result Asked Refusal) → AllAsked IsUnsent (checked_plan now a)
unsent_checked now (Ok a) = unsent_asked now a
unsent_checked now (Err r) = tt

unsent_faulty : (f : WireFault) → AllAsked IsUnsent (faulty_plan f)
unsent_faulty fault.BadHead = tt
unsent_faulty f = tt

unsent_keys : AllAsked IsUnsent keys_plan
unsent_keys = asked_bind IsUnsent list_plan (λ keys. Done (keys_reply keys)) (quiet_plan list_plan quiet_list) (λ keys. tt)

-- a request for a signature
unsent_refused : (o : Option Reply) → AllAsked IsUnsent (refused o)
unsent_refused None = tt
unsent_refused (Some r) = tt

unsent_answered : (grant : OpenGrant) (s : SignReply) → AllAsked IsUnsent (answered grant s)
unsent_answered grant (signing.Signed signature) = tt
unsent_answered grant s = (refl, λ r. unsent_refused (signer_reply s))

unsent_signed : (grant : OpenGrant) (r : ClientReply) → AllAsked IsUnsent (signed grant r)
unsent_signed grant (Signed s) = unsent_answered grant s
unsent_signed grant r = tt

unsent_granted : (under : OpenGrant → ClientPlan SigningResult) → ((grant : OpenGrant) → AllAsked IsUnsent (under grant)) → (r : ClientReply) → AllAsked IsUnsent (granted under r)
unsent_granted under each (Replies (reply.Granted grant)) = each grant
unsent_granted under each (Replies r) = unsent_refused (desk_reply r)
unsent_granted under each r = tt

unsent_wanted : (key : PubKey) (now : ℕ) (w : Signable) → AllAsked IsUnsent (wanted_plan key now w)
unsent_wanted key now (signable.Propose m q) = (refl, λ r. unsent_granted (signs q) (λ grant. (tt, λ s. unsent_signed grant s)) r)
unsent_wanted key now (signable.Allow q) = (refl, λ r. unsent_granted (signs_plain q) (λ grant. (tt, λ s. unsent_signed grant s)) r)

unsent_signing : (now : ℕ) (read : Result SigningRequest SigningRefusal) → AllAsked IsUnsent (signing_plan now read)
unsent_signing now (Err r) = tt
unsent_signing now (Ok a) = unsent_wanted a.key now (wanted_of a.domains a.object)

-- ---- what a lane's calls grew by

unsent_more : (d e more : LaneCalls) → sent_under more ≡ [] → Grew d more e → sent_under e ≡ sent_under d
unsent_more d e more none grew =
    ap (λ (l : LaneCalls). sent_under l) grew ∙ sent_both d more ∙ ap (λ (l : List (PubKey × Message)). sent_under d ++ l) none ∙ append-nil (sent_under d)

unsent_path : (a b : LaneSeen) (steps : List ClientStep) → AreUnsent steps → Path (Does Grew) a steps b → sent_under b.desk ≡ sent_under a.desk
unsent_path a b [] all p = ap (λ (x : LaneSeen). sent_under x.desk) p
unsent_path a b (s ∷ steps) all p = unsent_path p.0 b steps all.1 p.2 ∙ unsent_more a.desk p.0.desk (step_calls s) (unsent_step s.0 s.1 all.0.0 all.0.1) p.1.desk

unsent_same : (a b : LaneSeen) → b ≡ a → sent_under b.desk ≡ sent_under a.desk
unsent_same a b same = ap (λ (x : LaneSeen). sent_under x.desk) same

-- just these signatures were sent
abbrev Adds : LaneSeen → LaneSeen → List Signature → Type 0
Adds a b signatures = sent_under b.desk ≡ sent_under a.desk ++ sent_of signatures

adds_none : (a b : LaneSeen) → sent_under b.desk ≡ sent_under a.desk → Adds a b []
adds_none a b same = same ∙ sym (append-nil (sent_under a.desk))

adds_after : (a m b : LaneSeen) (signatures : List Signature) → sent_under m.desk ≡ sent_under a.desk → Adds m b signatures → Adds a b signatures
adds_after a m b signatures same adds = adds ∙ ap (λ (l : List (PubKey × Message)). l ++ sent_of signatures) same

adds_before : (a m b : LaneSeen) (signatures : List Signature) → Adds a m signatures → sent_under b.desk ≡ sent_under m.desk → Adds a b signatures
adds_before a m b signatures adds same = same ∙ adds

adds_both : (a m b : LaneSeen) (xs ys : List Signature) → Adds a m xs → Adds m b ys → Adds a b (xs ++ ys)
adds_both a m b xs ys first more =
    more ∙ ap (λ (l : List (PubKey × Message)). l ++ sent_of ys) first ∙ append_assoc (sent_under a.desk) (sent_of xs) (sent_of ys)
    ∙ ap (λ (l : List (PubKey × Message)). sent_under a.desk ++ l) (sym (flat_map-append sent_by xs ys))

-- ---- one connection

unsent_ends_with : (r : SigningResult) (m b : LaneSeen) (e : SignEnd) → EndsWith Grew r m b e → sent_under b.desk ≡ sent_under m.desk
unsent_ends_with (WithReply x) m b (ending.Refused given) h = unsent_same m b h.1
unsent_ends_with (WithReply x) m b ending.OutOfMemory h = unsent_same m b h
unsent_ends_with (WithReply x) m b (ending.Signed given grant) h = absurd h
unsent_ends_with (WithSignature signature g) m b (ending.Refused given) h = absurd h
unsent_ends_with (WithSignature signature g) m b ending.OutOfMemory h = absurd h
unsent_ends_with (WithSignature signature g) m b (ending.Signed given grant) h = unsent_same m b h.2
unsent_ends_with WithoutMemory m b (ending.Refused given) h = absurd h
unsent_ends_with WithoutMemory m b ending.OutOfMemory h = unsent_same m b h
unsent_ends_with WithoutMemory m b (ending.Signed given grant) h = absurd h

unsent_answers : (identifier : List ℕ) (genesis : Root) (body : List ℕ) (now : ℕ) (a b : LaneSeen) (e : SignEnd) → Answers Grew identifier genesis body now a b e → sent_under b.desk ≡ sent_under a.desk
unsent_answers identifier genesis body now a b e (reads read is ends given) =
    unsent_ends_with ends.result ends.middle b e ends.ends
    ∙ unsent_path a ends.middle ends.carries.steps (steps_asked Fits IsUnsent (signing_plan now read) ends.carries.steps (Some ends.result) (unsent_signing now read) ends.carries.follows) ends.carries.path
unsent_answers identifier genesis body now a b e (unread without stays) = unsent_same a b stays

settled_adds : (m a : LaneSeen) (grant : OpenGrant) (begun : Bool) → Grew m.desk (settles_as grant begun) a.desk → Adds m a ((grant, begun) ∷ [])
settled_adds m a grant true grew = ap (λ (l : LaneCalls). sent_under l) grew ∙ sent_both m.desk (settles_as grant true)
settled_adds m a grant false grew = ap (λ (l : LaneCalls). sent_under l) grew ∙ sent_both m.desk (settles_as grant false)

module _ (h i : Option (List ℕ)) (f n : ℕ) where
  replies_add : (form : Form) (e : SignEnd) (m a : LaneSeen) (s : Served) (r : RepliesTo form Grew h i f n e m a s) → Adds m a (signed_by Grew form h i f n e m a s r)
  replies_add form (ending.Refused given) m a s r = adds_none m a (unsent_same m a r.0)
  replies_add form ending.OutOfMemory m a s r = adds_none m a (unsent_same m a r.0)
  replies_add form (ending.Signed given grant) m a s r = settled_adds m a grant r.begun r.settles

  plan_adds : (plan : ClientPlan Reply) → AllAsked IsUnsent plan → (b a : LaneSeen) (s : Served) → ByPlan Grew plan h i f n b a s → Adds b a []
  plan_adds plan unsent b a s p =
      adds_none b a (unsent_more b.desk a.desk (desk_calls p.ran.steps) (unsent_steps p.ran.steps (steps_asked Fits IsUnsent plan p.ran.steps p.reply unsent p.ran.follows)) p.ran.desk)

  wanted_adds : (genesis : Root) (now : ℕ) (request : Request) (w : Result Wanted Refusal) (b a : LaneSeen) (s : Served) (d : DoesWanted Grew genesis now request w h i f n b a s)
      → Adds b a (signed_wanted Grew genesis now request w h i f n b a s d)
  wanted_adds genesis now request (Err r) b a s d = plan_adds (Done (refusal_reply r)) tt b a s d
  wanted_adds genesis now request (Ok (wanted.Keys what)) b a s d = plan_adds (checked_plan now (body_asks what request.body.items)) (unsent_checked now (body_asks what request.body.items)) b a s d
  wanted_adds genesis now request (Ok wanted.Signature) b a s d =
      let form : Form = form_of (parts_of request.fields.items) in
      adds_after b d.middle a (signed_by Grew form h i f n d.ended d.middle a s d.replies) (unsent_answers _ genesis request.body.items now b d.middle d.ended d.answers) (replies_add form d.ended d.middle a s d.replies)
  wanted_adds genesis now request (Ok wanted.PublicKeys) b a s d = plan_adds keys_plan unsent_keys b a s d
  wanted_adds genesis now request (Ok wanted.Upcheck) b a s d = adds_none b a (unsent_same b a d.0)

  read_adds : (token : List ℕ) (genesis : Root) (now : ℕ) (read : Result Request WireFault) (b a : LaneSeen) (s : Served) (d : DoesRead Grew token genesis now read h i f n b a s)
      → Adds b a (signed_read Grew token genesis now read h i f n b a s d)
  read_adds token genesis now (Ok request) b a s d = wanted_adds genesis now request (wanted_for token request) b a s d
  read_adds token genesis now (Err e) b a s d = plan_adds (faulty_plan e) (unsent_faulty e) b a s d

visit_adds : (p : Terms) (x y : LinkSeen) (b a : LaneSeen) (failed : Bool) (t : Attends Grew p x y b a failed) → Adds b a (signed_at Grew p x y b a failed t)
visit_adds p x y b a failed t =
    adds_before b t.answered a (signed_at Grew p x y b a failed t)
    (read_adds t.serves.held y.held x.faults y.faults p.token p.genesis _ t.serves.read b t.answered t.served t.serves.does)
    (unsent_more t.answered.desk a.desk ((call.HasFailed, reply.HasFailed failed) ∷ []) refl t.asked)

-- ---- all lanes

idle_sent : (signers : List SignerSeen) (k : ℕ) → sent_under (calls_by_lane (idle_lanes signers) k) ≡ []
idle_sent [] k = refl
idle_sent (s ∷ signers) zero = refl
idle_sent (s ∷ signers) (suc k) = idle_sent signers k

module _ {C : Type 0} (see : C → LinkSeen) (terms : Terms) where
  along_adds : (a : LaneSeen) (visits : List (Visit C)) (b : LaneSeen) (p : Path (Visits (AttendsBy see terms)) a visits b) → Adds a b (signed_along see terms a visits b p)
  along_adds a [] b p = adds_none a b (unsent_same a b p)
  along_adds a (v ∷ visits) b p =
      adds_both a p.0 b (signed_at Grew terms (see v.accepted) (see v.finished) a p.0 v.failed p.1) (signed_along see terms p.0 visits b p.2)
      (visit_adds terms (see v.accepted) (see v.finished) a p.0 v.failed p.1) (along_adds p.0 visits b p.2)

  lanes_add : (befores : List LaneSeen) (visits : List (List (Visit C))) (nows : List LaneSeen) (s : LanesServed (AttendsBy see terms) befores visits nows) (k : ℕ)
      → sent_under (calls_by_lane nows k) ≡ sent_under (calls_by_lane befores k) ++ sent_of (slice_index_or (signed_lanes see terms befores visits nows s) k [])
  lanes_add [] [] [] s k = refl
  lanes_add [] [] (b ∷ bs) s k = absurd s
  lanes_add [] (x ∷ xs) bs s k = absurd s
  lanes_add (a ∷ befores) [] bs s k = absurd s
  lanes_add (a ∷ befores) (x ∷ xs) [] s k = absurd s
  lanes_add (a ∷ befores) (x ∷ xs) (b ∷ bs) s zero = along_adds a x b s.0
  lanes_add (a ∷ befores) (x ∷ xs) (b ∷ bs) s (suc k) = lanes_add befores xs bs s.1 k

  -- of lanes that had made no call before
  pub served_sent : (wanted : ℕ) (before now : DoorSeen C) (signers : List SignerSeen) (nows : List LaneSeen) (result : Result (Unit {0}) LoopEnd) (served : DoorServed (AttendsBy see terms) wanted before now (idle_lanes signers) nows result) (k : ℕ)
      → sent_under (calls_by_lane nows k) ≡ sent_of (slice_index_or (signed_in see terms wanted before now (idle_lanes signers) nows result served) k [])
  served_sent wanted before now signers nows result (inl none) k = ap (λ (l : List LaneSeen). sent_under (calls_by_lane l k)) none.2 ∙ idle_sent signers k
  served_sent wanted before now signers nows result (inr ran) k =
      lanes_add (idle_lanes signers) ran.visits nows ran.served k
      ∙ ap (λ (l : List (PubKey × Message)). l ++ sent_of (slice_index_or (signed_lanes see terms (idle_lanes signers) ran.visits nows ran.served) k [])) (idle_sent signers k)
