-- What a pass was given and has not settled is open at the desk, and no other pass has it.
use Rattle.std.proofs.Common.{◌≡◌, ◌≢◌, ◌⊎◌, ◌==◌, ◌+◌, ◌<◌, ℕ, cond, Bool, true, false, List, [], ◌∷◌, ◌++◌, refl, sym, ap, ◌∙◌, subst, inl, inr, ⊎_elim, eq-eqb, ne_eqb, append-nil, append_assoc, arith, Contains}
use Rattle.std.proofs.lemmas.List.Elements.{Contains-push, Contains-push_cases, Contains-append_left}
use mathlib.Core.Logic.{dite}
use native.Mathlib.Decide.{ℕ_discrete}
use Rattle.desk_lock.specs.declared.types.Entry.{Entry}
use Rattle.desk_lock.specs.Histories.{entry, own, Legal}
use Rattle.check_sign.specs.Contents.{Contents, Seen}
use Rattle.desk_machine.specs.Machine.{MayCall}
use Rattle.desk_machine.specs.Grants.{without}
use Rattle.check_sign.specs.Calls.{Counted}
use Rattle.desk_machine.specs.declared.open_grant.OpenGrant.{OpenGrant}
use Rattle.desk_machine.specs.declared.call.DeskCall.{DeskCall}
use Rattle.desk_machine.specs.declared.call.DeskCall.TheVariants as call
use Rattle.desk_machine.specs.declared.call.DeskReply.{DeskReply}
use Rattle.desk_machine.specs.declared.call.DeskReply.TheVariants as reply
use Rattle.desk_machine.specs.Given.{without_any, given_after, given, MayMake}
use Rattle.desk_machine.specs.HandLaws.{any_other, stays, may_within, given_split}
use Rattle.desk_seat.specs.Steps.{DeskStep}

-- the grants that a pass has in hand
abbrev hand : ℕ → List (Entry DeskCall DeskReply) → List OpenGrant
hand by log = given [] (own by log)

record Fair (log : List (Entry DeskCall DeskReply)) (d : Contents) : Type 0 where
  there : (by : ℕ) (g : OpenGrant) → Contains (hand by log) g → Contains d.grants g
  alone : (by other : ℕ) (g h : OpenGrant) → Contains (hand by log) g → Contains (hand other log) h → g.number ≡ h.number → by ≡ other
  below : (by : ℕ) (g : OpenGrant) → Contains (hand by log) g → g.number < d.next

-- a pass's calls after one entry more
own_front : (by n : ℕ) (c : DeskCall) (r : DeskReply) (log : List (Entry DeskCall DeskReply)) → own by (log ++ entry n c r ∷ []) ≡ cond (n == by) (own by log ++ (c, r) ∷ []) (own by log)
own_front by n c r [] = refl
own_front by n c r (e ∷ es) = ap (λ (l : List (DeskCall × DeskReply)). cond (e.by == by) ((e.call, e.reply) ∷ l) l) (own_front by n c r es) ∙ split (e.by == by) (n == by)
  where
    split : (a b : Bool) → cond a ((e.call, e.reply) ∷ cond b (own by es ++ (c, r) ∷ []) (own by es)) (cond b (own by es ++ (c, r) ∷ []) (own by es))
        ≡ cond b (cond a ((e.call, e.reply) ∷ own by es) (own by es) ++ (c, r) ∷ []) (cond a ((e.call, e.reply) ∷ own by es) (own by es))
    split true true = refl
    split true false = refl
    split false true = refl
    split false false = refl

-- the grant is in hand after the entry: by the entry's pass, or by another that had it
hand_push : (by n : ℕ) (c : DeskCall) (r : DeskReply) (log : List (Entry DeskCall DeskReply)) (g : OpenGrant) → Contains (hand by (log ++ entry n c r ∷ [])) g
    → ((n ≡ by) × Contains (given_after (hand by log) c r) g) ⊎ ((n ≢ by) × Contains (hand by log) g)
hand_push by n c r log g h = dite (ℕ_discrete n by)
    (λ e.
    let same : own by (log ++ entry n c r ∷ []) ≡ own by log ++ (c, r) ∷ [] = own_front by n c r log ∙ ap (λ (b : Bool). cond b (own by log ++ (c, r) ∷ []) (own by log)) (eq-eqb n by e) in
    inl (e, subst (λ (l : List OpenGrant). Contains l g) (ap (given []) same ∙ given_split [] (own by log) ((c, r) ∷ [])) h))
    (λ ne.
    let same : own by (log ++ entry n c r ∷ []) ≡ own by log = own_front by n c r log ∙ ap (λ (b : Bool). cond b (own by log ++ (c, r) ∷ []) (own by log)) (ne_eqb n by ne) in
    inr (ne, subst (λ (l : List (DeskCall × DeskReply)). Contains (given [] l) g) same h))

-- where no grant is given or settled
still : (log : List (Entry DeskCall DeskReply)) (d e : Contents) (n : ℕ) (c : DeskCall) (r : DeskReply) → ((xs : List OpenGrant) → given_after xs c r ≡ xs) → e.grants ≡ d.grants → e.next ≡ d.next → Fair log d → Fair (log ++ entry n c r ∷ []) e
still log d e n c r same grants next f =
    let back : (by : ℕ) (g : OpenGrant) → Contains (hand by (log ++ entry n c r ∷ [])) g → Contains (hand by log) g = λ by g h. ⊎_elim
    (λ x. subst (λ (l : List OpenGrant). Contains l g) (same (hand by log)) x.1) (λ x. x.1) (hand_push by n c r log g h) in
    record {
      there = λ by g h. subst (λ (l : List OpenGrant). Contains l g) (sym grants) (f.there by g (back by g h));
      alone = λ by other g k h i q. f.alone by other g k (back by g h) (back other k i) q;
      below = λ by g h. subst (λ (m : ℕ). g.number < m) (sym next) (f.below by g (back by g h));
    }

gives : (log : List (Entry DeskCall DeskReply)) (d e : Contents) (n : ℕ) (c : DeskCall) (grant : OpenGrant) → ((xs : List OpenGrant) → given_after xs c (reply.Granted grant) ≡ xs ++ grant ∷ []) → grant.number ≡ d.next
    → e.grants ≡ d.grants ++ grant ∷ [] → e.next ≡ d.next + 1 → Fair log d → Fair (log ++ entry n c (reply.Granted grant) ∷ []) e
gives log d e n c grant adds number grants next f =
    let back : (by : ℕ) (g : OpenGrant) → Contains (hand by (log ++ entry n c (reply.Granted grant) ∷ [])) g → Contains (hand by log) g ⊎ ((n ≡ by) × (grant ≡ g)) = λ by g h. ⊎_elim
    (λ x. ⊎_elim (λ o. inl o) (λ q. inr (x.0, q)) (Contains-push_cases (hand by log) grant g (subst (λ (l : List OpenGrant). Contains l g) (adds (hand by log)) x.1)))
    (λ x. inl x.1)
    (hand_push by n c (reply.Granted grant) log g h) in
    let fresh : (by : ℕ) (g k : OpenGrant) → Contains (hand by log) g → grant ≡ k → g.number ≡ k.number → ⊥ = λ by g k h is q.
    let low : g.number < d.next = f.below by g h in
    let at : g.number ≡ d.next = q ∙ sym (ap (λ (y : OpenGrant). y.number) is) ∙ number in
    omega (arith, low, at) in
    record {
      there = λ by g h. subst (λ (l : List OpenGrant). Contains l g) (sym grants)
          (⊎_elim (λ o. Contains-append_left d.grants (grant ∷ []) g (f.there by g o)) (λ q. subst (λ (y : OpenGrant). Contains (d.grants ++ grant ∷ []) y) q.1 (Contains-push d.grants grant)) (back by g h));
      alone = λ by other g k h i same. ⊎_elim
          (λ o. ⊎_elim (λ p. f.alone by other g k o p same) (λ p. absurd (fresh by g k o p.1 same)) (back other k i))
          (λ q. ⊎_elim (λ p. absurd (fresh other k g p q.1 (sym same))) (λ p. sym q.0 ∙ p.0) (back other k i))
          (back by g h);
      below = λ by g h. ⊎_elim
          (λ o. let low : g.number < d.next = f.below by g o in omega (arith, low, next))
          (λ q. let at : g.number ≡ d.next = sym (ap (λ (y : OpenGrant). y.number) q.1) ∙ number in omega (arith, at, next))
          (back by g h);
    }

settles : (log : List (Entry DeskCall DeskReply)) (d e : Contents) (n : ℕ) (c : DeskCall) (r : DeskReply) (grant : OpenGrant) → ((xs : List OpenGrant) → given_after xs c r ≡ without_any xs grant.number) → Contains (hand n log) grant
    → e.grants ≡ without d.grants grant.number → e.next ≡ d.next → Fair log d → Fair (log ++ entry n c r ∷ []) e
settles log d e n c r grant drops mine grants next f =
    let back : (by : ℕ) (g : OpenGrant) → Contains (hand by (log ++ entry n c r ∷ [])) g → Contains (hand by log) g × (g.number ≢ grant.number) = λ by g h. ⊎_elim
    (λ x. any_other (hand by log) grant.number g (subst (λ (l : List OpenGrant). Contains l g) (drops (hand by log)) x.1))
    (λ x. (x.1, λ q. x.0 (f.alone n by grant g mine x.1 (sym q))))
    (hand_push by n c r log g h) in
    record {
      there = λ by g h. let b = back by g h in subst (λ (l : List OpenGrant). Contains l g) (sym grants) (stays d.grants grant.number g (f.there by g b.0) b.1);
      alone = λ by other g k h i q. f.alone by other g k (back by g h).0 (back other k i).0 q;
      below = λ by g h. subst (λ (m : ℕ). g.number < m) (sym next) (f.below by g (back by g h).0);
    }

one_more : (log : List (Entry DeskCall DeskReply)) (d e : Contents) (n : ℕ) (c : DeskCall) (r : DeskReply) → MayMake (own n log) c → Counted d c r e → Fair log d → Fair (log ++ entry n c r ∷ []) e
one_more log d e n (call.Propose key m now) (reply.Granted grant) ok s f = gives log d e n (call.Propose key m now) grant (λ xs. refl) s.number s.grants s.next f
one_more log d e n (call.Allow key now) (reply.Granted grant) ok s f = gives log d e n (call.Allow key now) grant (λ xs. refl) s.number s.grants s.next f
one_more log d e n (call.Settle grant o) reply.Settled ok s f = settles log d e n (call.Settle grant o) reply.Settled grant (λ xs. refl) ok s.grants s.next f
one_more log d e n c r ok s f = still log d e n c r (λ xs. refl) s.grants s.next f

module _ {D : Type 0} (moment : D → ℕ) (leaves : D → ℕ → List ℕ → Type 0) (faults : D → ℕ) where
  fair : (before : List (Entry DeskCall DeskReply)) (s : Seen D) (log : List (Entry DeskCall DeskReply)) (t : Seen D) → Fair before s.contents → Legal (DeskStep moment leaves faults) MayMake before s log t → Fair (before ++ log) t.contents
  fair before s [] t f l = subst (λ (x : List (Entry DeskCall DeskReply) × Seen D). Fair x.0 x.1.contents) (λ i. (sym (append-nil before) i, sym l i)) f
  fair before s (e ∷ es) t f l =
      subst (λ (x : List (Entry DeskCall DeskReply)). Fair x t.contents) (append_assoc before (e ∷ []) es)
      (fair (before ++ e ∷ []) l.0 es t (one_more before s.contents l.0.contents e.by e.call e.reply l.1 l.2.counted f) l.3)

  pub admitted : (s t : Seen D) (log : List (Entry DeskCall DeskReply)) (by : ℕ) (c : DeskCall) → Legal (DeskStep moment leaves faults) MayMake [] s log t → MayMake (own by log) c → MayCall t.contents.grants c
  admitted s t log by c legal ok =
      let none : (g : OpenGrant) → Contains [] g → ⊥ = λ g h. let lt = h.1 in omega arith in
      let f : Fair log t.contents = fair [] s log t (record { there = λ by' g h. absurd (none g h); alone = λ by' other g k h i q. absurd (none g h); below = λ by' g h. absurd (none g h) }) legal in
      may_within (hand by log) t.contents.grants c (f.there by) ok
