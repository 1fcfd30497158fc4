-- What a lane had signed it settled, by its own calls.
use Rattle.std.proofs.Common.{ℕ, zero, suc, Bool, true, List, [], ◌∷◌, ◌++◌, Contains, map, Option, Result, Ok, Err, sym, ap, ◌∙◌, subst, ⊎_elim, append-nil, append_assoc}
use Rattle.std.specs.Prelude.{slice_index_or}
use Rattle.std.proofs.lemmas.List.Elements.{Contains-append_cases, Contains-append_left, Contains-push}
use Rattle.edge_kit.specs.declared.bytes.Root.{Root}
use Rattle.call_plans.specs.Paths.{Path}
use Rattle.desk_machine.specs.declared.call.DeskCall.{DeskCall}
use Rattle.desk_machine.specs.declared.call.DeskCall.TheVariants as call
use Rattle.desk_machine.specs.declared.call.DeskReply.{DeskReply}
use Rattle.desk_machine.specs.declared.call.DeskReply.TheVariants as reply
use Rattle.client_calls.specs.Seats.{Seat}
use Rattle.http_wire.specs.declared.message.Request.{Request}
use Rattle.http_wire.specs.declared.message.WireFault.{WireFault}
use Rattle.keymanager_routes.specs.declared.refusal.Refusal.{Refusal}
use Rattle.keymanager_api.specs.Serving.{LinkSeen}
use Rattle.keymanager_api.specs.Visits.{asks_failed}
use Rattle.keymanager_api.specs.declared.serve.Served.{Served}
use Rattle.sign_proxy.specs.declared.signing.SignEnd.{SignEnd}
use Rattle.sign_proxy.specs.declared.signing.SignEnd.TheVariants as ending
use Rattle.door_lanes.specs.Lanes.{FailedAtLast, Visit, Visits}
use Rattle.door_lanes.specs.Runs.{LanesServed, SomeLaneFailed}
use Rattle.proxy_api.specs.Attending.{Attends, Terms}
use Rattle.proxy_api.specs.Routes.{wanted_for}
use Rattle.proxy_api.specs.Signing.{DoesRead, DoesWanted, RepliesTo, outcome_of}
use Rattle.proxy_api.specs.declared.form.Form.{Form}
use Rattle.proxy_api.specs.declared.route.Wanted.{Wanted}
use Rattle.proxy_api.specs.declared.route.Wanted.TheVariants as wanted
use Rattle.proxy_lanes.specs.Lanes.{AttendsBy, Calls, Grew, LaneSeen}
use Rattle.proxy_lanes.proofs.LedLemmas.{attends_led}
use Rattle.proxy_run.specs.Begun.{Signed, signed_along, signed_at, signed_by, signed_lanes, signed_read, signed_wanted}
use Rattle.proxy_run.proofs.HandLemmas.{contains_cases, contains_none}

-- the settling of the grant of a signature, with its reply
abbrev pub settled : Signed → DeskCall × DeskReply
settled x = (call.Settle x.0 (outcome_of x.1), reply.Settled)

-- the answer that the disk of the desk failed
abbrev pub said : DeskCall × DeskReply
said = (call.HasFailed, reply.HasFailed true)

grew_none : (d : Calls) → Grew d [] d
grew_none d = sym (append-nil d)

grew_more : (d e f : Calls) (xs ys : List (DeskCall × DeskReply)) → Grew d xs e → Grew e ys f → Grew d (xs ++ ys) f
grew_more d e f xs ys p q = q ∙ ap (λ (l : Calls). l ++ ys) p ∙ append_assoc d xs ys

-- by some calls
abbrev Led : Calls → Calls → Type 0
Led a b = (made : List (DeskCall × DeskReply)) × Grew a made b

kept : (a b : Calls) (x : DeskCall × DeskReply) → Led a b → Contains a x → Contains b x
kept a b x led h = subst (λ (l : Calls). Contains l x) (sym led.1) (Contains-append_left a led.0 x h)

begun_one : (x y : Signed) (m a : Calls) → Grew m (settled x ∷ []) a → Contains (x ∷ []) y → Contains a (settled y)
begun_one x y m a grew h = ⊎_elim
    (λ same.
    let there : Contains a (settled x) = subst (λ (l : Calls). Contains l (settled x)) (sym grew) (Contains-push m (settled x)) in
    subst (λ (z : Signed). Contains a (settled z)) same there)
    (λ none. contains_none y none)
    (contains_cases x [] y h)

begun_by_settled : (form : Form) (h i : Option (List ℕ)) (f n : ℕ) (e : SignEnd) (m a : Seat Calls) (s : Served) (r : RepliesTo form Grew h i f n e m a s) (g : Signed) → Contains (signed_by Grew form h i f n e m a s r) g → Contains a.desk (settled g)
begun_by_settled form h i f n (ending.Refused given) m a s r g at = contains_none g at
begun_by_settled form h i f n ending.OutOfMemory m a s r g at = contains_none g at
begun_by_settled form h i f n (ending.Signed given grant) m a s r g at = begun_one (grant, r.begun) g m.desk a.desk r.settles at

begun_wanted_settled : (genesis : Root) (now : ℕ) (request : Request) (w : Result Wanted Refusal) (h i : Option (List ℕ)) (f n : ℕ) (b a : Seat Calls) (s : Served) (d : DoesWanted Grew genesis now request w h i f n b a s) (g : Signed)
    → Contains (signed_wanted Grew genesis now request w h i f n b a s d) g → Contains a.desk (settled g)
begun_wanted_settled genesis now request (Err r) h i f n b a s d g at = contains_none g at
begun_wanted_settled genesis now request (Ok (wanted.Keys what)) h i f n b a s d g at = contains_none g at
begun_wanted_settled genesis now request (Ok wanted.Signature) h i f n b a s d g at = begun_by_settled _ h i f n d.ended d.middle a s d.replies g at
begun_wanted_settled genesis now request (Ok wanted.PublicKeys) h i f n b a s d g at = contains_none g at
begun_wanted_settled genesis now request (Ok wanted.Upcheck) h i f n b a s d g at = contains_none g at

begun_read_settled : (token : List ℕ) (genesis : Root) (now : ℕ) (read : Result Request WireFault) (h i : Option (List ℕ)) (f n : ℕ) (b a : Seat Calls) (s : Served) (d : DoesRead Grew token genesis now read h i f n b a s) (g : Signed)
    → Contains (signed_read Grew token genesis now read h i f n b a s d) g → Contains a.desk (settled g)
begun_read_settled token genesis now (Ok request) h i f n b a s d g at = begun_wanted_settled genesis now request (wanted_for token request) h i f n b a s d g at
begun_read_settled token genesis now (Err e) h i f n b a s d g at = contains_none g at

begun_at_settled : (p : Terms) (x y : LinkSeen) (b a : Seat Calls) (failed : Bool) (t : Attends Grew p x y b a failed) (g : Signed) → Contains (signed_at Grew p x y b a failed t) g → Contains a.desk (settled g)
begun_at_settled p x y b a failed t g at =
    kept t.answered.desk a.desk (settled g) (asks_failed failed, t.asked)
    (begun_read_settled p.token p.genesis _ t.serves.read t.serves.held y.held x.faults y.faults b t.answered t.served t.serves.does g at)

module _ {C : Type 0} (see : C → LinkSeen) (terms : Terms) where
  along_led : (a : LaneSeen) (visits : List (Visit C)) (b : LaneSeen) → Path (Visits (AttendsBy see terms)) a visits b → Led a.desk b.desk
  along_led a [] b p = ([], subst (λ (x : LaneSeen). Grew a.desk [] x.desk) (sym p) (grew_none a.desk))
  along_led a (v ∷ visits) b p =
      let one = attends_led Grew grew_none grew_more terms (see v.accepted) (see v.finished) a p.0 v.failed p.1 in
      let rest = along_led p.0 visits b p.2 in
      (one.0 ++ rest.0, grew_more a.desk p.0.desk b.desk one.0 rest.0 one.1 rest.1)

  along_settled : (a : LaneSeen) (visits : List (Visit C)) (b : LaneSeen) (p : Path (Visits (AttendsBy see terms)) a visits b) (g : Signed) → Contains (signed_along see terms a visits b p) g → Contains b.desk (settled g)
  along_settled a [] b p g at = contains_none g at
  along_settled a (v ∷ visits) b p g at = ⊎_elim
      (λ first. kept p.0.desk b.desk (settled g) (along_led p.0 visits b p.2) (begun_at_settled terms (see v.accepted) (see v.finished) a p.0 v.failed p.1 g first))
      (λ later. along_settled p.0 visits b p.2 g later)
      (Contains-append_cases (signed_at Grew terms (see v.accepted) (see v.finished) a p.0 v.failed p.1) (signed_along see terms p.0 visits b p.2) g at)

  -- of each lane
  pub lanes_settled : (befores : List LaneSeen) (visits : List (List (Visit C))) (nows : List LaneSeen) (s : LanesServed (AttendsBy see terms) befores visits nows) (k : ℕ) (g : Signed)
      → Contains (slice_index_or (signed_lanes see terms befores visits nows s) k []) g → Contains (slice_index_or (map (λ (lane : LaneSeen). lane.desk) nows) k []) (settled g)
  lanes_settled [] [] [] s k g at = contains_none g at
  lanes_settled [] [] (b ∷ bs) s k g at = absurd s
  lanes_settled [] (x ∷ xs) bs s k g at = absurd s
  lanes_settled (a ∷ befores) [] bs s k g at = absurd s
  lanes_settled (a ∷ befores) (x ∷ xs) [] s k g at = absurd s
  lanes_settled (a ∷ befores) (x ∷ xs) (b ∷ bs) s zero g at = along_settled a x b s.0 g at
  lanes_settled (a ∷ befores) (x ∷ xs) (b ∷ bs) s (suc k) g at = lanes_settled befores xs bs s.1 k g at

  -- a lane whose disk failed was told so
  along_said : (a : LaneSeen) (visits : List (Visit C)) (b : LaneSeen) → Path (Visits (AttendsBy see terms)) a visits b → FailedAtLast visits → Contains b.desk said
  along_said a [] b p failed = absurd failed
  along_said a (v ∷ visits) b p failed = ⊎_elim
      (λ last.
      let grew : Grew p.1.answered.desk (said ∷ []) p.0.desk = subst (λ (f : Bool). Grew p.1.answered.desk (asks_failed f) p.0.desk) last.1 p.1.asked in
      kept p.0.desk b.desk said (along_led p.0 visits b p.2) (subst (λ (l : Calls). Contains l said) (sym grew) (Contains-push p.1.answered.desk said)))
      (λ later. along_said p.0 visits b p.2 later.1)
      failed

  pub lanes_said : (befores : List LaneSeen) (visits : List (List (Visit C))) (nows : List LaneSeen) → LanesServed (AttendsBy see terms) befores visits nows → SomeLaneFailed visits
      → (k : ℕ) × Contains (slice_index_or (map (λ (lane : LaneSeen). lane.desk) nows) k []) said
  lanes_said [] [] [] s failed = absurd failed
  lanes_said [] [] (b ∷ bs) s failed = absurd s
  lanes_said [] (x ∷ xs) bs s failed = absurd s
  lanes_said (a ∷ befores) [] bs s failed = absurd s
  lanes_said (a ∷ befores) (x ∷ xs) [] s failed = absurd s
  lanes_said (a ∷ befores) (x ∷ xs) (b ∷ bs) s failed = ⊎_elim
      (λ here. (0, along_said a x b s.0 here))
      (λ later. let rest = lanes_said befores xs bs s.1 later in (suc rest.0, rest.1))
      failed
