-- Where a turn stands in a history.
use Rattle.std.proofs.Common.{◌≡◌, ◌≢◌, ⊎_elim, ℕ, cond, Bool, List, [], ◌∷◌, ◌++◌, refl, sym, ap, ◌∙◌, subst, append-nil, append_assoc, eq-eqb, ne_eqb, Contains}
use mathlib.Core.Logic.{dite}
use native.Mathlib.Decide.{ℕ_discrete}
use Rattle.protect_record.proofs.MemberLemmas.{contains_cases, contains_none}
use Rattle.desk_lock.specs.declared.types.Entry.{Entry}
use Rattle.desk_lock.specs.Histories.{entry, own, Legal}

-- what stands before a member of a list and after it
pub record Splits {X : Type 0} (xs : List X) (x : X) : Type 0 where
  pub front : List X
  pub behind : List X
  pub whole : xs ≡ front ++ x ∷ behind

pub splits : {X : Type 0} (xs : List X) (x : X) → Contains xs x → Splits xs x
splits [] x has = contains_none x has
splits {X} (y ∷ ys) x has = ⊎_elim
    (λ same. record { front = []; behind = ys; whole = ap (λ (z : X). z ∷ ys) same })
    (λ more. let rest : Splits ys x = splits ys x more in record { front = y ∷ rest.front; behind = rest.behind; whole = ap (λ (l : List X). y ∷ l) rest.whole })
    (contains_cases y ys x has)

module _ {C R : Type 0} where
  -- the turn of a pass's call, where its own calls are those before it, the call, and those after
  pub record Place (by : ℕ) (log : List (Entry C R)) (xs : List (C × R)) (c : C) (r : R) (ys : List (C × R)) : Type 0 where
    pub before : List (Entry C R)
    pub later : List (Entry C R)
    pub log_is : log ≡ before ++ entry by c r ∷ later
    pub own_before : own by before ≡ xs
    pub own_later : own by later ≡ ys

  own_mine : (by : ℕ) (e : Entry C R) (es : List (Entry C R)) → e.by ≡ by → own by (e ∷ es) ≡ (e.call, e.reply) ∷ own by es
  own_mine by e es same = ap (λ (b : Bool). cond b ((e.call, e.reply) ∷ own by es) (own by es)) (eq-eqb e.by by same)

  own_other : (by : ℕ) (e : Entry C R) (es : List (Entry C R)) → e.by ≢ by → own by (e ∷ es) ≡ own by es
  own_other by e es other = ap (λ (b : Bool). cond b ((e.call, e.reply) ∷ own by es) (own by es)) (ne_eqb e.by by other)

  -- by the first turn, or by one after it
  place_first : (by : ℕ) (e : Entry C R) (es : List (Entry C R)) (xs : List (C × R)) (c : C) (r : R) (ys : List (C × R)) → e.by ≡ by
      → ((us : List (C × R)) → own by es ≡ us ++ (c, r) ∷ ys → Place by es us c r ys) → (e.call, e.reply) ∷ own by es ≡ xs ++ (c, r) ∷ ys → Place by (e ∷ es) xs c r ys
  place_first by e es [] c r ys same more is =
      let head : ◌≡◌ {A = C × R} (e.call, e.reply) (c, r) = cc is in
      let tail : own by es ≡ ys = cc is in
      record {
        before = [];
        later = es;
        log_is = λ i. entry (same i) (head i).0 (head i).1 ∷ es;
        own_before = refl;
        own_later = tail;
      }
  place_first by e es (x ∷ xs) c r ys same more is =
      let head : ◌≡◌ {A = C × R} (e.call, e.reply) x = cc is in
      let tail : own by es ≡ xs ++ (c, r) ∷ ys = cc is in
      let rest : Place by es xs c r ys = more xs tail in
      record {
        before = e ∷ rest.before;
        later = rest.later;
        log_is = ap (λ (l : List (Entry C R)). e ∷ l) rest.log_is;
        own_before = own_mine by e rest.before same ∙ (λ i. head i ∷ rest.own_before i);
        own_later = rest.own_later;
      }

  pub place : (by : ℕ) (log : List (Entry C R)) (xs : List (C × R)) (c : C) (r : R) (ys : List (C × R)) → own by log ≡ xs ++ (c, r) ∷ ys → Place by log xs c r ys
  place by [] [] c r ys is = absurd (cc is)
  place by [] (x ∷ xs) c r ys is = absurd (cc is)
  place by (e ∷ es) xs c r ys is = dite (ℕ_discrete e.by by)
      (λ same. place_first by e es xs c r ys same (λ us. place by es us c r ys) (sym (own_mine by e es same) ∙ is))
      (λ other.
      let rest : Place by es xs c r ys = place by es xs c r ys (sym (own_other by e es other) ∙ is) in
      record {
        before = e ∷ rest.before;
        later = rest.later;
        log_is = ap (λ (l : List (Entry C R)). e ∷ l) rest.log_is;
        own_before = own_other by e rest.before other ∙ rest.own_before;
        own_later = rest.own_later;
      })

module _ {S C R : Type 0} (steps : S → C → R → S → Type 0) (may : List (C × R) → C → Type 0) where
  -- a turn of a legal history: the turns before it led here, and those after it lead on from next
  pub record Turn (before : List (Entry C R)) (s : S) (front : List (Entry C R)) (e : Entry C R) (behind : List (Entry C R)) (t : S) : Type 0 where
    pub here : S
    pub next : S
    pub leads : Legal steps may before s front here
    pub allowed : may (own e.by (before ++ front)) e.call
    pub stepped : steps here e.call e.reply next
    pub rest : Legal steps may ((before ++ front) ++ e ∷ []) next behind t

  pub turn_at : (before : List (Entry C R)) (s : S) (front : List (Entry C R)) (e : Entry C R) (behind : List (Entry C R)) (t : S)
      → Legal steps may before s (front ++ e ∷ behind) t → Turn before s front e behind t
  turn_at before s [] e behind t l = record {
    here = s;
    next = l.0;
    leads = refl;
    allowed = subst (λ (x : List (Entry C R)). may (own e.by x) e.call) (sym (append-nil before)) l.1;
    stepped = l.2;
    rest = subst (λ (x : List (Entry C R)). Legal steps may (x ++ e ∷ []) l.0 behind t) (sym (append-nil before)) l.3;
  }
  turn_at before s (f ∷ front) e behind t l =
      let more : Turn (before ++ f ∷ []) l.0 front e behind t = turn_at (before ++ f ∷ []) l.0 front e behind t l.3 in
      let same : (before ++ f ∷ []) ++ front ≡ before ++ f ∷ front = append_assoc before (f ∷ []) front in
      record {
        here = more.here;
        next = more.next;
        leads = (l.0, l.1, l.2, more.leads);
        allowed = subst (λ (x : List (Entry C R)). may (own e.by x) e.call) same more.allowed;
        stepped = more.stepped;
        rest = subst (λ (x : List (Entry C R)). Legal steps may (x ++ e ∷ []) more.next behind t) same more.rest;
      }

  -- one legal history after another
  pub legal_joined : (before : List (Entry C R)) (s : S) (xs ys : List (Entry C R)) (m t : S)
      → Legal steps may before s xs m → Legal steps may (before ++ xs) m ys t → Legal steps may before s (xs ++ ys) t
  legal_joined before s [] ys m t a b = subst (λ (x : List (Entry C R) × S). Legal steps may x.0 x.1 ys t) (λ i. (append-nil before i, a i)) b
  legal_joined before s (e ∷ es) ys m t a b =
      (a.0, a.1, a.2, legal_joined (before ++ e ∷ []) a.0 es ys m t a.3 (subst (λ (x : List (Entry C R)). Legal steps may x m ys t) (sym (append_assoc before (e ∷ []) es)) b))
