-- What lanes signed and posted, within the one history of all threads.
use Rattle.std.proofs.Common.{◌≡◌, ◌⊎◌, inl, inr, ⊎_elim, ◌+◌, ◌<◌, ◌≤◌, ℕ, zero, suc, List, [], ◌∷◌, ◌++◌, Contains, flat_map, refl, sym, ap, ◌∙◌, subst, append_assoc, arith}
use Rattle.std.proofs.lemmas.Grind.{flat_map-append}
use Rattle.std.proofs.lemmas.List.Elements.{Contains-append_cases, Contains-append_left, Contains-append_right, Contains-push, Contains-push_cases}
use Rattle.edge_kit.specs.declared.bytes.PubKey.{PubKey}
use Rattle.slash_defs.specs.declared.message.Message.{Message}
use Rattle.desk_machine.specs.declared.open_grant.OpenGrant.{OpenGrant}
use Rattle.desk_machine.specs.declared.call.DeskCall.{DeskCall}
use Rattle.desk_machine.specs.declared.call.DeskCall.TheVariants as call
use Rattle.desk_machine.specs.declared.call.DeskReply.{DeskReply}
use Rattle.desk_machine.specs.declared.call.DeskReply.TheVariants as reply
use Rattle.desk_machine.specs.declared.call.Outcome.{Outcome}
use Rattle.desk_machine.specs.declared.call.Outcome.TheVariants as outcome
use Rattle.desk_lock.specs.Histories.{own}
use Rattle.desk_seat.specs.Turns.{calls_of}
use Rattle.desk_seat.specs.Spans.{History, Spans}
use Rattle.duty_plans.specs.Guards.{GivenIn, IsSigned, PostedGranted, PostsGuarded, SettledIn, SignsGuarded, granted_by, granted_in, posted_in}
use Rattle.duty_plans.specs.Steps.{DutyCall, DutyReply, DutyStep, Calls, Posts, Replies, Reveals, Signs, desk_calls, step_calls}
use Rattle.duty_turns.specs.TurnSteps.{TurnStep}
use Rattle.duty_loop.specs.Guarding.{lane_steps}
use Rattle.serve_run.specs.Ends.{LaneSpans, lane_number, posted_from}

-- ---- a grant that is given and settled in a thread's own steps

-- what is signed calls no desk
none_called : (grant : OpenGrant) (c : DutyCall) (r : DutyReply) → IsSigned grant c → step_calls (c, r) ≡ []
none_called grant (Signs g q) r is = refl
none_called grant (Reveals g q) r is = refl
none_called grant c r is = absurd is

pub record Placed (calls : List (DeskCall × DeskReply)) (grant : OpenGrant) (o : Outcome) : Type 0 where
  xs : List (DeskCall × DeskReply)
  zs : List (DeskCall × DeskReply)
  by : DeskCall
  settled : DeskReply
  is : calls ≡ xs ++ (by, reply.Granted grant) ∷ ((call.Settle grant o, settled) ∷ zs)

placed : (front back : List DutyStep) (s : DutyStep) (grant : OpenGrant) (o : Outcome) → step_calls s ≡ [] → GivenIn front grant → SettledIn back grant o → Placed (desk_calls (front ++ s ∷ back)) grant o
placed front back s grant o none g t =
    let gave : DutyStep = (Calls g.by, Replies (reply.Granted grant)) in
    let ends : DutyStep = (Calls (call.Settle grant o), Replies t.by) in
    let before : desk_calls front ≡ desk_calls g.earlier ++ (g.by, reply.Granted grant) ∷ [] =
    ap (λ l. desk_calls l) g.is ∙ flat_map-append step_calls g.earlier (gave ∷ g.since) ∙ ap (λ l. desk_calls g.earlier ++ (g.by, reply.Granted grant) ∷ l) g.quiet in
    let behind : desk_calls (s ∷ back) ≡ (call.Settle grant o, t.by) ∷ desk_calls t.later =
    ap (λ l. l ++ desk_calls back) none ∙ ap (λ l. desk_calls l) t.is ∙ flat_map-append step_calls t.before (ends ∷ t.later) ∙ ap (λ l. l ++ (call.Settle grant o, t.by) ∷ desk_calls t.later) t.quiet in
    record {
      xs = desk_calls g.earlier;
      zs = desk_calls t.later;
      by = g.by;
      settled = t.by;
      is = flat_map-append step_calls front (s ∷ back) ∙ ap (λ l. l ++ desk_calls (s ∷ back)) before ∙ ap (λ l. (desk_calls g.earlier ++ (g.by, reply.Granted grant) ∷ []) ++ l) behind
          ∙ append_assoc (desk_calls g.earlier) ((g.by, reply.Granted grant) ∷ []) ((call.Settle grant o, t.by) ∷ desk_calls t.later);
    }

-- so it is in the history
module _ (log : History) (lane : ℕ)
    (spans : (xs ys zs : List (DeskCall × DeskReply)) (c : DeskCall) (r : DeskReply) (grant : OpenGrant) (o : Outcome)
    → own (lane_number lane) log ≡ xs ++ (c, reply.Granted grant) ∷ (ys ++ (call.Settle grant o, r) ∷ zs) → Spans log (lane_number lane) grant o) where
  spanned : (calls : List (DeskCall × DeskReply)) (grant : OpenGrant) (o : Outcome) → own (lane_number lane) log ≡ calls → Placed calls grant o → Spans log (lane_number lane) grant o
  spanned calls grant o same p = spans p.xs [] p.zs p.by p.settled grant o (same ∙ p.is)

  pub lane_spans : (steps : List DutyStep) → own (lane_number lane) log ≡ desk_calls steps → PostsGuarded steps → SignsGuarded steps → LaneSpans log lane steps
  lane_spans steps same posts signs = record {
    posts = λ front back grant p r e.
        let at = posts front back grant p r e in
        spanned (desk_calls (front ++ (Posts grant p, r) ∷ back)) grant outcome.Sent (same ∙ ap (λ l. desk_calls l) e) (placed front back (Posts grant p, r) grant outcome.Sent refl at.0 at.1);
    signs = λ front back grant c r is e.
        let at = signs front back grant c r is e in
        (at.1.0, spanned (desk_calls (front ++ (c, r) ∷ back)) grant at.1.0 (same ∙ ap (λ l. desk_calls l) e) (placed front back (c, r) grant at.1.0 (none_called grant c r is) at.0 at.1.1));
  }

-- ---- what lanes posted is among what was granted in the history

module _ {X : Type 0} where
  contains_none : {P : Type 0} (x : X) → Contains [] x → P
  contains_none x h = let lt = h.1 in absurd (omega (arith, lt))

  contains_cases : (y : X) (ys : List X) (x : X) → Contains (y ∷ ys) x → (y ≡ x) ⊎ Contains ys x
  contains_cases y ys x h = ⊎_elim (λ one. ⊎_elim (λ none. contains_none x none) (λ same. inl same) (Contains-push_cases [] y x one)) (λ later. inr later) (Contains-append_cases (y ∷ []) ys x h)

module _ {X A : Type 0} (f : X → List A) where
  flat_to : (xs : List X) (a : A) → Contains (flat_map f xs) a → (x : X) × Contains xs x × Contains (f x) a
  flat_to [] a h = contains_none a h
  flat_to (x ∷ xs) a h = ⊎_elim
      (λ here. (x, Contains-append_left (x ∷ []) xs x (Contains-push [] x), here))
      (λ later. let rest = flat_to xs a later in (rest.0, Contains-append_right (x ∷ []) xs rest.0 rest.1, rest.2))
      (Contains-append_cases (f x) (flat_map f xs) a h)

  flat_from : (xs : List X) (a : A) (x : X) → Contains xs x → Contains (f x) a → Contains (flat_map f xs) a
  flat_from [] a x at h = contains_none x at
  flat_from (y ∷ ys) a x at h = ⊎_elim
      (λ same. Contains-append_left (f y) (flat_map f ys) a (subst (λ (z : X). Contains (f z) a) (sym same) h))
      (λ later. Contains-append_right (f y) (flat_map f ys) a (flat_from ys a x later h))
      (contains_cases y ys x at)

pub granted_among : (some all : List (DeskCall × DeskReply)) → ((x : DeskCall × DeskReply) → Contains some x → Contains all x) → (m : PubKey × Message) → Contains (granted_in some) m → Contains (granted_in all) m
granted_among some all within m h = let at = flat_to granted_by some m h in flat_from granted_by all m at.0 (within at.0 at.1) at.2

module _ (log : History) (steps : List TurnStep) (among : (k : ℕ) (x : DeskCall × DeskReply) → Contains (own k log) x → Contains (calls_of log) x) where
  pub posted_among : (first n : ℕ) → ((k : ℕ) → first ≤ k → k < first + n → (own (lane_number k) log ≡ desk_calls (lane_steps k steps)) × PostedGranted (lane_steps k steps))
      → (m : PubKey × Message) → Contains (posted_from first n steps) m → Contains (granted_in (calls_of log)) m
  posted_among first zero each m h = contains_none m h
  posted_among first (suc n) each m h = ⊎_elim
      (λ here. let at = each first (omega arith) (omega arith) in
      granted_among (desk_calls (lane_steps first steps)) (calls_of log) (λ x c. among (lane_number first) x (subst (λ (l : List (DeskCall × DeskReply)). Contains l x) (sym at.0) c)) m (at.1 m here))
      (λ later. posted_among (suc first) n (λ k l r. each k (omega (arith, l)) (omega (arith, r))) m later)
      (Contains-append_cases (posted_in (lane_steps first steps)) (posted_from (suc first) n steps) m h)
