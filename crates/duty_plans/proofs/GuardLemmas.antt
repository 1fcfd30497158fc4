-- What is signed and posted lies between its grant and the settling of it.
use Rattle.std.proofs.Common.{◌≡◌, ◌⊎◌, inl, inr, ⊎_elim, zero, suc, flat_map, ◌<◌, Bool, true, false, List, [], ◌∷◌, ◌++◌, length, Contains, Option, Some, None, refl, sym, ◌∙◌, ap, append_assoc, subst, arith}
use Rattle.std.proofs.lemmas.List.Elements.{Contains-append_left, Contains-append_right, Contains-append_cases}
use Rattle.edge_kit.specs.declared.bytes.PubKey.{PubKey}
use Rattle.slash_defs.specs.declared.message.Message.{Message}
use Rattle.desk_machine.specs.Grants.{IsGrantFor}
use Rattle.desk_machine.specs.declared.open_grant.OpenGrant.{OpenGrant}
use Rattle.desk_machine.specs.declared.call.DeskCall.{DeskCall}
use Rattle.desk_machine.specs.declared.call.DeskCall.TheVariants as call
use Rattle.desk_machine.specs.declared.call.DeskReply.{DeskReply}
use Rattle.desk_machine.specs.declared.call.DeskReply.TheVariants as reply
use Rattle.desk_machine.specs.declared.call.Outcome.{Outcome}
use Rattle.desk_machine.specs.declared.call.Outcome.TheVariants as outcome
use Rattle.node_calls.specs.declared.ask.Ask.{Ask}
use Rattle.node_calls.specs.declared.ask.Ask.TheVariants as ask
use Rattle.node_calls.specs.declared.post.Post.{Post}
use Rattle.call_plans.specs.Plans.{Done, Stop, Ask as Step, Follows}
use Rattle.duty_plans.specs.Steps.{DutyCall, DutyReply, DutyStep, DutyPlan, Calls, Signs, Reveals, Asks, Posts, Replies, Signed, Answered, Taken, Fits, step_calls, desk_calls}
use Rattle.duty_plans.specs.Hands.{Hand, Free, Holds, Sends, MayDo, MayCall, MayAsk, hand_after, hand_called, hand_given, begun}
use Rattle.duty_plans.specs.Guards.{GivenIn, SettledIn, PostsGuarded, IsSigned, SignsGuarded, keyed, posted_by, posted_in, granted_by, granted_in, PostedGranted}

-- ---- hands over steps

abbrev pub hand_over : Hand → List DutyStep → Hand
hand_over h [] = h
hand_over h (s ∷ steps) = hand_over (hand_after h s) steps

abbrev pub MayAll : Hand → List DutyStep → Type 0
MayAll h [] = Unit {0}
MayAll h (s ∷ steps) = MayDo h s.0 × MayAll (hand_after h s) steps

abbrev pub AllFit : List DutyStep → Type 0
AllFit [] = Unit {0}
AllFit (s ∷ steps) = Fits s.0 s.1 × AllFit steps

pub follows_fit : {X : Type 0} (plan : DutyPlan X) (steps : List DutyStep) (v : Option X) → Follows Fits plan steps v → AllFit steps
follows_fit plan [] v f = tt
follows_fit (Done x) (s ∷ steps) v f = absurd f
follows_fit Stop (s ∷ steps) v f = absurd f
follows_fit (Step c k) (s ∷ steps) v f = (subst (λ (x : DutyCall). Fits x s.1) (sym f.0) f.1, follows_fit (k s.1) steps v f.2)

fit_front : (front back : List DutyStep) → AllFit (front ++ back) → AllFit front
fit_front [] back f = tt
fit_front (s ∷ front) back f = (f.0, fit_front front back f.1)

fit_back : (front back : List DutyStep) → AllFit (front ++ back) → AllFit back
fit_back [] back f = f
fit_back (s ∷ front) back f = fit_back front back f.1

may_front : (h : Hand) (front back : List DutyStep) → MayAll h (front ++ back) → MayAll h front
may_front h [] back m = tt
may_front h (s ∷ front) back m = (m.0, may_front (hand_after h s) front back m.1)

may_back : (h : Hand) (front back : List DutyStep) → MayAll h (front ++ back) → MayAll (hand_over h front) back
may_back h [] back m = m
may_back h (s ∷ front) back m = may_back (hand_after h s) front back m.1

over_back : (h : Hand) (front back : List DutyStep) → hand_over h (front ++ back) ≡ hand_over (hand_over h front) back
over_back h [] back = refl
over_back h (s ∷ front) back = over_back (hand_after h s) front back

-- ---- which grant

same_held : (g h : OpenGrant) → Holds g ≡ Holds h → g ≡ h
same_held g h e = cc

same_sent : (g h : OpenGrant) → Sends g ≡ Sends h → g ≡ h
same_sent g h e = cc

no_begun : {P : Type 0} (h : Hand) (grant : OpenGrant) → begun h ≡ Holds grant → P
no_begun Free grant e = absurd cc
no_begun (Holds g) grant e = absurd cc
no_begun (Sends g) grant e = absurd cc

-- a grant came into a free hand by the reply that gave it
given_by : (h : Hand) (r : DeskReply) (grant : OpenGrant) → h ≡ Free → hand_given h r ≡ Holds grant → r ≡ reply.Granted grant
given_by h (reply.Granted g) grant free e = ap (λ x. reply.Granted x) (same_held g grant e)
given_by h r grant free e = (let no : Free ≡ Holds grant = sym free ∙ e in absurd cc)

-- a grant is in hand since before the step, at which the desk is not called; or was given by it
abbrev HeldOr : Hand → DutyStep → OpenGrant → Type 0
HeldOr h s grant = ((h ≡ Holds grant) × (step_calls s ≡ [])) ⊎ ((c : DeskCall) × (s ≡ (Calls c, Replies (reply.Granted grant))))

given_here : (h : Hand) (c : DeskCall) (r : DeskReply) (grant : OpenGrant) → h ≡ Free → hand_given h r ≡ Holds grant → HeldOr h (Calls c, Replies r) grant
given_here h c r grant free e = inr (c, ap (λ (x : DeskReply). (Calls c, Replies x)) (given_by h r grant free e))

called_or : (h : Hand) (c : DeskCall) (r : DeskReply) (grant : OpenGrant) → MayCall h c → hand_called h c r ≡ Holds grant → HeldOr h (Calls c, Replies r) grant
called_or h (call.Settle g o) r grant may e = absurd cc
called_or h c r grant may e = given_here h c r grant may e

held_or : (h : Hand) (s : DutyStep) (grant : OpenGrant) → MayDo h s.0 → Fits s.0 s.1 → hand_after h s ≡ Holds grant → HeldOr h s grant
held_or h (Calls c, Replies r) grant may fit e = called_or h c r grant may e
held_or h (Calls c, Signed r) grant may fit e = absurd fit
held_or h (Calls c, Answered r) grant may fit e = absurd fit
held_or h (Calls c, Taken r) grant may fit e = absurd fit
held_or h (Signs g q, r) grant may fit e = inl (e, refl)
held_or h (Reveals g q, r) grant may fit e = inl (e, refl)
held_or h (Asks a, r) grant may fit e = no_begun h grant e
held_or h (Posts g p, r) grant may fit e = no_begun h grant e

given_later : (s : DutyStep) (front : List DutyStep) (grant : OpenGrant) → GivenIn front grant → GivenIn (s ∷ front) grant
given_later s front grant g = record { earlier = s ∷ g.earlier; by = g.by; since = g.since; is = ap (λ (l : List DutyStep). s ∷ l) g.is; quiet = g.quiet }

given_now : (s : DutyStep) (front : List DutyStep) (grant : OpenGrant) (c : DeskCall) → s ≡ (Calls c, Replies (reply.Granted grant)) → desk_calls front ≡ [] → GivenIn (s ∷ front) grant
given_now s front grant c e quiet = record { earlier = []; by = c; since = front; is = ap (λ (x : DutyStep). x ∷ front) e; quiet = quiet }

given_before : (h : Hand) (front : List DutyStep) (grant : OpenGrant) → MayAll h front → AllFit front → hand_over h front ≡ Holds grant
    → ((h ≡ Holds grant) × (desk_calls front ≡ [])) ⊎ GivenIn front grant
given_before h [] grant may fit e = inl (e, refl)
given_before h (s ∷ front) grant may fit e =
    ⊎_elim (λ was. ⊎_elim (λ before. inl (before.0, ap (λ (l : List (DeskCall × DeskReply)). l ++ desk_calls front) before.1 ∙ was.1)) (λ here. inr (given_now s front grant here.0 here.1 was.1)) (held_or h s grant may.0 fit.0 was.0))
    (λ later. inr (given_later s front grant later)) (given_before (hand_after h s) front grant may.1 fit.1 e)

-- from a free hand on
given_free : (front : List DutyStep) (grant : OpenGrant) → MayAll Free front → AllFit front → hand_over Free front ≡ Holds grant → GivenIn front grant
given_free front grant may fit e = ⊎_elim (λ was. (let no : Free ≡ Holds grant = was.0 in absurd cc)) (λ given. given) (given_before Free front grant may fit e)

-- ---- and settled

settled_now : (g grant : OpenGrant) (o : Outcome) (r : DeskReply) (back : List DutyStep) → grant ≡ g → SettledIn ((Calls (call.Settle g o), Replies r) ∷ back) grant o
settled_now g grant o r back e = record { before = []; by = r; later = back; is = ap (λ (x : OpenGrant). (Calls (call.Settle x o), Replies r) ∷ back) (sym e); quiet = refl }

settled_later : (s : DutyStep) (back : List DutyStep) (grant : OpenGrant) (o : Outcome) → step_calls s ≡ [] → SettledIn back grant o → SettledIn (s ∷ back) grant o
settled_later s back grant o quiet t = record {
  before = s ∷ t.before;
  by = t.by;
  later = t.later;
  is = ap (λ (l : List DutyStep). s ∷ l) t.is;
  quiet = ap (λ (l : List (DeskCall × DeskReply)). l ++ desk_calls t.before) quiet ∙ t.quiet;
}

-- under which sending was begun: as sent, at once
sent_call : (grant : OpenGrant) (c : DeskCall) (r : DeskReply) (back : List DutyStep) → MayCall (Sends grant) c → SettledIn ((Calls c, Replies r) ∷ back) grant outcome.Sent
sent_call grant (call.Settle g outcome.Sent) r back may = settled_now g grant outcome.Sent r back (same_sent grant g may)
sent_call grant (call.Settle g outcome.Dropped) r back may = (let no : Sends grant ≡ Holds g = may in absurd cc)
sent_call grant c r back may = (let no : Sends grant ≡ Free = may in absurd cc)

no_ask_sent : {P : Type 0} (grant : OpenGrant) (a : Ask) → MayAsk (Sends grant) a → P
no_ask_sent grant (ask.Block slot reveal) may = (let no : Sends grant ≡ Holds may.0 = may.1 in absurd cc)
no_ask_sent grant a may = (let no : Sends grant ≡ Free = may in absurd cc)

sent_after : (grant : OpenGrant) (back : List DutyStep) → MayAll (Sends grant) back → AllFit back → hand_over (Sends grant) back ≡ Free → SettledIn back grant outcome.Sent
sent_after grant [] may fit e = absurd cc
sent_after grant ((Calls c, Replies r) ∷ back) may fit e = sent_call grant c r back may.0
sent_after grant ((Calls c, Signed r) ∷ back) may fit e = absurd fit.0
sent_after grant ((Calls c, Answered r) ∷ back) may fit e = absurd fit.0
sent_after grant ((Calls c, Taken r) ∷ back) may fit e = absurd fit.0
sent_after grant ((Signs g q, r) ∷ back) may fit e = (let no : Sends grant ≡ Holds g = may.0 in absurd cc)
sent_after grant ((Reveals g q, r) ∷ back) may fit e = (let no : Sends grant ≡ Holds g = may.0 in absurd cc)
sent_after grant ((Posts g p, r) ∷ back) may fit e = (let no : Sends grant ≡ Holds g = may.0 in absurd cc)
sent_after grant ((Asks a, r) ∷ back) may fit e = no_ask_sent grant a may.0

abbrev Settles : List DutyStep → OpenGrant → Type 0
Settles back grant = (o : Outcome) × SettledIn back grant o

held_call : (grant : OpenGrant) (c : DeskCall) (r : DeskReply) (back : List DutyStep) → MayCall (Holds grant) c → Settles ((Calls c, Replies r) ∷ back) grant
held_call grant (call.Settle g outcome.Sent) r back may = (let no : Holds grant ≡ Sends g = may in absurd cc)
held_call grant (call.Settle g outcome.Dropped) r back may = (outcome.Dropped, settled_now g grant outcome.Dropped r back (same_held grant g may))
held_call grant c r back may = (let no : Holds grant ≡ Free = may in absurd cc)

pub held_after : (grant : OpenGrant) (back : List DutyStep) → MayAll (Holds grant) back → AllFit back → hand_over (Holds grant) back ≡ Free → Settles back grant
held_after grant [] may fit e = absurd cc
held_after grant ((Calls c, Replies r) ∷ back) may fit e = held_call grant c r back may.0
held_after grant ((Calls c, Signed r) ∷ back) may fit e = absurd fit.0
held_after grant ((Calls c, Answered r) ∷ back) may fit e = absurd fit.0
held_after grant ((Calls c, Taken r) ∷ back) may fit e = absurd fit.0
held_after grant ((Signs g q, r) ∷ back) may fit e = let t = held_after grant back may.1 fit.1 e in (t.0, settled_later (Signs g q, r) back grant t.0 refl t.1)
held_after grant ((Reveals g q, r) ∷ back) may fit e = let t = held_after grant back may.1 fit.1 e in (t.0, settled_later (Reveals g q, r) back grant t.0 refl t.1)
held_after grant ((Posts g p, r) ∷ back) may fit e = (outcome.Sent, settled_later (Posts g p, r) back grant outcome.Sent refl (sent_after grant back may.1 fit.1 e))
held_after grant ((Asks a, r) ∷ back) may fit e = (outcome.Sent, settled_later (Asks a, r) back grant outcome.Sent refl (sent_after grant back may.1 fit.1 e))

-- ---- so it is of each post, and of what is signed

pub posts_guarded : (steps : List DutyStep) → MayAll Free steps → AllFit steps → hand_over Free steps ≡ Free → PostsGuarded steps
posts_guarded steps may fit end front back grant p r e =
    let s : DutyStep = (Posts grant p, r) in
    let m : MayAll Free (front ++ s ∷ back) = subst (λ (l : List DutyStep). MayAll Free l) e may in
    let f : AllFit (front ++ s ∷ back) = subst AllFit e fit in
    let here = may_back Free front (s ∷ back) m in
    let over : hand_over (hand_over Free front) (s ∷ back) ≡ Free = sym (over_back Free front (s ∷ back)) ∙ subst (λ (l : List DutyStep). hand_over Free l ≡ Free) e end in
    let held : hand_over Free front ≡ Holds grant = here.0 in
    let later : MayAll (Sends grant) back = subst (λ (h : Hand). MayAll (begun h) back) held here.1 in
    let ends : hand_over (Sends grant) back ≡ Free = subst (λ (h : Hand). hand_over (begun h) back ≡ Free) held over in
    let fits = fit_back front (s ∷ back) f in
    (given_free front grant (may_front Free front (s ∷ back) m) (fit_front front (s ∷ back) f) held, sent_after grant back later fits.1 ends)

signed_held : (h : Hand) (c : DutyCall) (grant : OpenGrant) → IsSigned grant c → MayDo h c → h ≡ Holds grant
signed_held h (Calls c) grant is may = absurd is
signed_held h (Signs g q) grant is may = may ∙ ap Holds is
signed_held h (Reveals g q) grant is may = may ∙ ap Holds is
signed_held h (Asks a) grant is may = absurd is
signed_held h (Posts g p) grant is may = absurd is

-- the hand stays as it is
signed_stays : (h : Hand) (c : DutyCall) (r : DutyReply) (grant : OpenGrant) → IsSigned grant c → hand_after h (c, r) ≡ h
signed_stays h (Calls c) r grant is = absurd is
signed_stays h (Signs g q) r grant is = refl
signed_stays h (Reveals g q) r grant is = refl
signed_stays h (Asks a) r grant is = absurd is
signed_stays h (Posts g p) r grant is = absurd is

pub signs_guarded : (steps : List DutyStep) → MayAll Free steps → AllFit steps → hand_over Free steps ≡ Free → SignsGuarded steps
signs_guarded steps may fit end front back grant c r is e =
    let s : DutyStep = (c, r) in
    let m : MayAll Free (front ++ s ∷ back) = subst (λ (l : List DutyStep). MayAll Free l) e may in
    let f : AllFit (front ++ s ∷ back) = subst AllFit e fit in
    let here = may_back Free front (s ∷ back) m in
    let over : hand_over (hand_over Free front) (s ∷ back) ≡ Free = sym (over_back Free front (s ∷ back)) ∙ subst (λ (l : List DutyStep). hand_over Free l ≡ Free) e end in
    let held : hand_over Free front ≡ Holds grant = signed_held (hand_over Free front) c grant is here.0 in
    let after : hand_after (hand_over Free front) s ≡ Holds grant = signed_stays (hand_over Free front) c r grant is ∙ held in
    let later : MayAll (Holds grant) back = subst (λ (h : Hand). MayAll h back) after here.1 in
    let ends : hand_over (Holds grant) back ≡ Free = subst (λ (h : Hand). hand_over h back ≡ Free) after over in
    let fits = fit_back front (s ∷ back) f in
    (given_free front grant (may_front Free front (s ∷ back) m) (fit_front front (s ∷ back) f) held, held_after grant back later fits.1 ends)

-- ---- what was posted had been granted

abbrev Keyed : Type 0
Keyed = PubKey × Message

not_in_none : {P : Type 0} (x : Keyed) → Contains [] x → P
not_in_none x c = let h = c.1 in absurd (omega (arith, h))

only_one : (x y : Keyed) → Contains (x ∷ []) y → x ≡ y
only_one x y (zero, h, e) = e
only_one x y (suc k, h, e) = absurd (omega arith)

-- where a message was posted
pub record PostedAt (steps : List DutyStep) (x : Keyed) : Type 0 where
  pub front : List DutyStep
  pub step : DutyStep
  pub back : List DutyStep
  pub is : steps ≡ front ++ step ∷ back
  pub by : Contains (posted_by step) x

posted_at : (steps : List DutyStep) (x : Keyed) → Contains (posted_in steps) x → PostedAt steps x
posted_at [] x c = not_in_none x c
posted_at (s ∷ steps) x c =
    ⊎_elim (λ here. record { front = []; step = s; back = steps; is = refl; by = here })
    (λ later. let r = posted_at steps x later in record { front = s ∷ r.front; step = r.step; back = r.back; is = ap (λ (l : List DutyStep). s ∷ l) r.is; by = r.by })
    (Contains-append_cases (posted_by s) (posted_in steps) x c)

keyed_is : (key : PubKey) (m n : Option Message) (x : Keyed) → m ≡ n → Contains (keyed key m) x → Contains (keyed key n) x
keyed_is key m n x e c = subst (λ (o : Option Message). Contains (keyed key o) x) e c

granted_one : (c : DeskCall) (grant : OpenGrant) (x : Keyed) → IsGrantFor c (reply.Granted grant) → Contains (keyed grant.key grant.message) x → Contains (granted_by (c, reply.Granted grant)) x
granted_one (call.Propose key m now) grant x for c =
    let k : Contains (keyed grant.key (Some m)) x = keyed_is grant.key grant.message (Some m) x for.1 c in
    subst (λ (q : PubKey). Contains ((q, m) ∷ []) x) for.0 k
granted_one (call.Allow key now) grant x for c = not_in_none x (keyed_is grant.key grant.message None x for.1 c)
granted_one c grant x for k = absurd for

fit_granted : (c : DeskCall) (grant : OpenGrant) → Fits (Calls c) (Replies (reply.Granted grant)) → IsGrantFor c (reply.Granted grant)
fit_granted c grant f = f.1

granted_after : (s : DutyStep) (steps : List DutyStep) (x : Keyed) → Contains (granted_in (desk_calls steps)) x → Contains (granted_in (desk_calls (s ∷ steps))) x
granted_after (Calls c, Replies r) steps x g = Contains-append_right (granted_by (c, r)) (granted_in (desk_calls steps)) x g
granted_after (Calls c, Signed r) steps x g = g
granted_after (Calls c, Answered r) steps x g = g
granted_after (Calls c, Taken r) steps x g = g
granted_after (Signs q p, r) steps x g = g
granted_after (Reveals q p, r) steps x g = g
granted_after (Asks a, r) steps x g = g
granted_after (Posts q p, r) steps x g = g

granted_within : (earlier since : List DutyStep) (c : DeskCall) (grant : OpenGrant) (x : Keyed) → Contains (granted_by (c, reply.Granted grant)) x
    → Contains (granted_in (desk_calls (earlier ++ (Calls c, Replies (reply.Granted grant)) ∷ since))) x
granted_within [] since c grant x g = Contains-append_left (granted_by (c, reply.Granted grant)) (granted_in (desk_calls since)) x g
granted_within (s ∷ earlier) since c grant x g = granted_after s (earlier ++ (Calls c, Replies (reply.Granted grant)) ∷ since) x (granted_within earlier since c grant x g)

granted_front : (front back : List DutyStep) (x : Keyed) (grant : OpenGrant) → AllFit front → GivenIn front grant → Contains (keyed grant.key grant.message) x → Contains (granted_in (desk_calls (front ++ back))) x
granted_front front back x grant fit g c =
    let s : DutyStep = (Calls g.by, Replies (reply.Granted grant)) in
    let fits = fit_back g.earlier (s ∷ g.since) (subst AllFit g.is fit) in
    let one = granted_one g.by grant x (fit_granted g.by grant fits.0) c in
    let is : front ++ back ≡ g.earlier ++ s ∷ (g.since ++ back) = ap (λ (l : List DutyStep). l ++ back) g.is ∙ append_assoc g.earlier (s ∷ g.since) back in
    subst (λ (l : List DutyStep). Contains (granted_in (desk_calls l)) x) (sym is) (granted_within g.earlier (g.since ++ back) g.by grant x one)

posted_step : (steps front back : List DutyStep) (s : DutyStep) (x : Keyed) → PostsGuarded steps → AllFit steps → steps ≡ front ++ s ∷ back → Contains (posted_by s) x → Contains (granted_in (desk_calls steps)) x
posted_step steps front back (Posts grant p, r) x guarded fit e c =
    let s : DutyStep = (Posts grant p, r) in
    let given = (guarded front back grant p r e).0 in
    subst (λ (l : List DutyStep). Contains (granted_in (desk_calls l)) x) (sym e) (granted_front front (s ∷ back) x grant (fit_front front (s ∷ back) (subst AllFit e fit)) given c)
posted_step steps front back (Calls q, r) x guarded fit e c = not_in_none x c
posted_step steps front back (Signs q p, r) x guarded fit e c = not_in_none x c
posted_step steps front back (Reveals q p, r) x guarded fit e c = not_in_none x c
posted_step steps front back (Asks a, r) x guarded fit e c = not_in_none x c

pub posted_granted : (steps : List DutyStep) → PostsGuarded steps → AllFit steps → PostedGranted steps
posted_granted steps guarded fit x c = let at = posted_at steps x c in posted_step steps at.front at.back at.step x guarded fit at.is at.by
