-- Who settles a grant was given it before, by a call of its own.
use Rattle.std.proofs.Common.{◌≡◌, ◌⊎◌, ◌==◌, ℕ, cond, Bool, true, false, List, [], ◌∷◌, ◌++◌, Contains, refl, sym, ap, ◌∙◌, subst, inl, inr, ⊎_elim, eq-eqb, ne_eqb, append-nil, append_assoc, arith}
use Rattle.std.proofs.lemmas.List.Elements.{Contains-append_cases, Contains-push_cases}
use mathlib.Core.Logic.{dite}
use native.Mathlib.Decide.{ℕ_discrete}
use Rattle.desk_machine.specs.Given.{MayMake, given, given_after}
use Rattle.desk_machine.specs.HandLaws.{any_other}
use Rattle.desk_machine.specs.declared.call.DeskCall.{DeskCall}
use Rattle.desk_machine.specs.declared.call.DeskCall.TheVariants as call
use Rattle.desk_machine.specs.declared.call.DeskReply.{DeskReply}
use Rattle.desk_machine.specs.declared.call.DeskReply.TheVariants as reply
use Rattle.desk_machine.specs.declared.call.Outcome.{Outcome}
use Rattle.desk_machine.specs.declared.open_grant.OpenGrant.{OpenGrant}
use Rattle.desk_lock.specs.Histories.{Legal, own}
use Rattle.desk_lock.specs.declared.types.Entry.{Entry}
use Rattle.check_sign.specs.Contents.{Seen}
use Rattle.desk_seat.specs.Spans.{History, Spans}
use Rattle.desk_seat.specs.Steps.{DeskStep}

module _ {X : Type 0} where
  pub contains_none : {P : Type 0} (x : X) → Contains [] x → P
  contains_none x h = let lt = h.1 in absurd (omega (arith, lt))

  pub contains_cases : (y : X) (ys : List X) (x : X) → Contains (y ∷ ys) x → (y ≡ x) ⊎ Contains ys x
  contains_cases y ys x h = ⊎_elim (λ one. ⊎_elim (λ none. contains_none x none) (λ same. inl same) (Contains-push_cases [] y x one)) (λ later. inr later) (Contains-append_cases (y ∷ []) ys x h)

-- the grant came by one of these calls
record GivenBy (made : List (DeskCall × DeskReply)) (grant : OpenGrant) : Type 0 where
  front : List (DeskCall × DeskReply)
  asked : DeskCall
  back : List (DeskCall × DeskReply)
  is : made ≡ front ++ (asked, reply.Granted grant) ∷ back

after_from : (gs : List OpenGrant) (c : DeskCall) (r : DeskReply) (grant : OpenGrant) → Contains (given_after gs c r) grant → Contains gs grant ⊎ (r ≡ reply.Granted grant)
after_from gs (call.Propose key m now) (reply.Granted g) grant h = ⊎_elim (λ a. inl a) (λ q. inr (ap (λ (y : OpenGrant). reply.Granted y) q)) (Contains-push_cases gs g grant h)
after_from gs (call.Allow key now) (reply.Granted g) grant h = ⊎_elim (λ a. inl a) (λ q. inr (ap (λ (y : OpenGrant). reply.Granted y) q)) (Contains-push_cases gs g grant h)
after_from gs (call.Settle g o) reply.Settled grant h = inl (any_other gs g.number grant h).0
after_from gs c r grant h = inl h

given_from : (gs : List OpenGrant) (made : List (DeskCall × DeskReply)) (grant : OpenGrant) → Contains (given gs made) grant → Contains gs grant ⊎ GivenBy made grant
given_from gs [] grant h = inl h
given_from gs (x ∷ made) grant h = ⊎_elim
    (λ early. ⊎_elim (λ a. inl a) (λ q. inr (record { front = []; asked = x.0; back = made; is = ap (λ (r : DeskReply). (x.0, r) ∷ made) q })) (after_from gs x.0 x.1 grant early))
    (λ later. inr (record { front = x ∷ later.front; asked = later.asked; back = later.back; is = ap (λ (l : List (DeskCall × DeskReply)). x ∷ l) later.is }))
    (given_from (given_after gs x.0 x.1) made grant h)

-- a pass's calls after one turn more
own_push : (k : ℕ) (e : Entry DeskCall DeskReply) (log : History) → own k (log ++ e ∷ []) ≡ cond (e.by == k) (own k log ++ (e.call, e.reply) ∷ []) (own k log)
own_push k e [] = refl
own_push k e (x ∷ xs) = ap (λ (l : List (DeskCall × DeskReply)). cond (x.by == k) ((x.call, x.reply) ∷ l) l) (own_push k e xs) ∙ split (x.by == k) (e.by == k)
  where
    split : (a b : Bool) → cond a ((x.call, x.reply) ∷ cond b (own k xs ++ (e.call, e.reply) ∷ []) (own k xs)) (cond b (own k xs ++ (e.call, e.reply) ∷ []) (own k xs))
        ≡ cond b (cond a ((x.call, x.reply) ∷ own k xs) (own k xs) ++ (e.call, e.reply) ∷ []) (cond a ((x.call, x.reply) ∷ own k xs) (own k xs))
    split true true = refl
    split true false = refl
    split false true = refl
    split false false = refl

-- the calls have the settling of a grant that was in hand then, after those before
record SettledIn (before calls : List (DeskCall × DeskReply)) (grant : OpenGrant) (o : Outcome) (r : DeskReply) : Type 0 where
  front : List (DeskCall × DeskReply)
  back : List (DeskCall × DeskReply)
  is : calls ≡ front ++ (call.Settle grant o, r) ∷ back
  held : Contains (given [] (before ++ front)) grant

module _ {D : Type 0} (moment : D → ℕ) (leaves : D → ℕ → List ℕ → Type 0) (faults : D → ℕ) (t : Seen D) (k : ℕ) (grant : OpenGrant) (o : Outcome) (r : DeskReply) where
  settled_in : (before : History) (s : Seen D) (log : History) → Legal (DeskStep moment leaves faults) MayMake before s log t → Contains (own k log) (call.Settle grant o, r) → SettledIn (own k before) (own k log) grant o r
  settled_in before s [] l h = contains_none (call.Settle grant o, r) h
  settled_in before s (e ∷ es) l h = dite (ℕ_discrete e.by k)
      (λ same.
      let here : own k (e ∷ es) ≡ (e.call, e.reply) ∷ own k es = ap (λ (b : Bool). cond b ((e.call, e.reply) ∷ own k es) (own k es)) (eq-eqb e.by k same) in
      let pushed : own k (before ++ e ∷ []) ≡ own k before ++ (e.call, e.reply) ∷ [] = own_push k e before ∙ ap (λ (b : Bool). cond b (own k before ++ (e.call, e.reply) ∷ []) (own k before)) (eq-eqb e.by k same) in
      ⊎_elim
      (λ first.
      let may : MayMake (own k before) e.call = subst (λ (n : ℕ). MayMake (own n before) e.call) same l.1 in
      let held : Contains (given [] (own k before)) grant = subst (λ (c : DeskCall). MayMake (own k before) c) (ap (λ (x : DeskCall × DeskReply). x.0) first) may in
      record {
        front = [];
        back = own k es;
        is = here ∙ ap (λ (x : DeskCall × DeskReply). x ∷ own k es) first;
        held = subst (λ (made : List (DeskCall × DeskReply)). Contains (given [] made) grant) (sym (append-nil (own k before))) held;
      })
      (λ later.
      let rest = settled_in (before ++ e ∷ []) l.0 es l.3 later in
      let made : own k (before ++ e ∷ []) ++ rest.front ≡ own k before ++ (e.call, e.reply) ∷ rest.front = ap (λ (x : List (DeskCall × DeskReply)). x ++ rest.front) pushed ∙ append_assoc (own k before) ((e.call, e.reply) ∷ []) rest.front in
      record {
        front = (e.call, e.reply) ∷ rest.front;
        back = rest.back;
        is = here ∙ ap (λ (x : List (DeskCall × DeskReply)). (e.call, e.reply) ∷ x) rest.is;
        held = subst (λ (x : List (DeskCall × DeskReply)). Contains (given [] x) grant) made rest.held;
      })
      (contains_cases (e.call, e.reply) (own k es) (call.Settle grant o, r) (subst (λ (x : List (DeskCall × DeskReply)). Contains x (call.Settle grant o, r)) here h)))
      (λ other.
      let there : own k (e ∷ es) ≡ own k es = ap (λ (b : Bool). cond b ((e.call, e.reply) ∷ own k es) (own k es)) (ne_eqb e.by k other) in
      let pushed : own k (before ++ e ∷ []) ≡ own k before = own_push k e before ∙ ap (λ (b : Bool). cond b (own k before ++ (e.call, e.reply) ∷ []) (own k before)) (ne_eqb e.by k other) in
      let rest = settled_in (before ++ e ∷ []) l.0 es l.3 (subst (λ (x : List (DeskCall × DeskReply)). Contains x (call.Settle grant o, r)) there h) in
      record {
        front = rest.front;
        back = rest.back;
        is = there ∙ rest.is;
        held = subst (λ (x : List (DeskCall × DeskReply)). Contains (given [] (x ++ rest.front)) grant) pushed rest.held;
      })

  -- by a law on what lies between the two
  pub settled_spans : ((xs ys zs : List (DeskCall × DeskReply)) (c : DeskCall) → (s : Seen D) (log : History) → Legal (DeskStep moment leaves faults) MayMake [] s log t
      → own k log ≡ xs ++ (c, reply.Granted grant) ∷ (ys ++ (call.Settle grant o, r) ∷ zs) → Spans log k grant o)
      → (s : Seen D) (log : History) → Legal (DeskStep moment leaves faults) MayMake [] s log t → Contains (own k log) (call.Settle grant o, r) → Spans log k grant o
  settled_spans spans s log l h =
      let at = settled_in [] s log l h in
      ⊎_elim
      (λ none. contains_none grant none)
      (λ by.
      let is : own k log ≡ by.front ++ (by.asked, reply.Granted grant) ∷ (by.back ++ (call.Settle grant o, r) ∷ at.back) =
      at.is ∙ ap (λ (x : List (DeskCall × DeskReply)). x ++ (call.Settle grant o, r) ∷ at.back) by.is ∙ append_assoc by.front ((by.asked, reply.Granted grant) ∷ by.back) ((call.Settle grant o, r) ∷ at.back) in
      spans by.front by.back at.back by.asked s log l is)
      (given_from [] at.front grant at.held)
