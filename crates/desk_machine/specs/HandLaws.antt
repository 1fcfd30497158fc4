-- What a caller has in hand is open at the desk.
use Rattle.std.proofs.Common.{◌≡◌, ◌≢◌, ◌⊎◌, ℕ, zero, suc, cond, not, Bool, List, [], ◌∷◌, ◌++◌, refl, sym, ap, ◌∙◌, subst, inl, inr, ⊎_elim, eq-eqb, ne_eqb, arith, Contains}
use Rattle.std.proofs.lemmas.List.Elements.{Contains-push, Contains-push_cases, Contains-append_left}
use mathlib.Core.Logic.{dite}
use native.Mathlib.Decide.{ℕ_discrete}
use Rattle.desk_machine.specs.Machine.{MayCall}
use Rattle.desk_machine.specs.Grants.{without, grants_after}
use Rattle.desk_machine.specs.declared.open_grant.OpenGrant.{OpenGrant}
use Rattle.desk_machine.specs.declared.call.DeskCall.{DeskCall}
use Rattle.desk_machine.specs.declared.call.DeskCall.TheVariants as call
use Rattle.desk_machine.specs.declared.call.DeskReply.{DeskReply}
use Rattle.desk_machine.specs.declared.call.DeskReply.TheVariants as reply
use Rattle.desk_machine.specs.declared.call.Outcome.{Outcome}
use Rattle.desk_machine.specs.Given.{without_any, given_after, given, MayMake, grants_over}

cons_cases : (x y : OpenGrant) (xs : List OpenGrant) → Contains (x ∷ xs) y → (x ≡ y) ⊎ Contains xs y
cons_cases x y xs (zero, lt, e) = inl e
cons_cases x y xs (suc k, lt, e) = inr (k, omega arith, e)

cons_here : (x y : OpenGrant) (xs : List OpenGrant) → x ≡ y → Contains (x ∷ xs) y
cons_here x y xs e = (0, omega arith, e)

cons_there : (x y : OpenGrant) (xs : List OpenGrant) → Contains xs y → Contains (x ∷ xs) y
cons_there x y xs h = let lt = h.1 in (suc h.0, omega arith, h.2)

-- of the grants of other numbers
any_step : (x g : OpenGrant) (xs : List OpenGrant) (n : ℕ) → (Contains (without_any xs n) g → Contains xs g × (g.number ≢ n)) → Contains (without_any (x ∷ xs) n) g → Contains (x ∷ xs) g × (g.number ≢ n)
any_step x g xs n more h = dite (ℕ_discrete x.number n)
    (λ e.
    let drops : without_any (x ∷ xs) n ≡ without_any xs n = ap (λ (b : Bool). cond (not b) (x ∷ without_any xs n) (without_any xs n)) (eq-eqb x.number n e) in
    let k = more (subst (λ (l : List OpenGrant). Contains l g) drops h) in (cons_there x g xs k.0, k.1))
    (λ ne.
    let keeps : without_any (x ∷ xs) n ≡ x ∷ without_any xs n = ap (λ (b : Bool). cond (not b) (x ∷ without_any xs n) (without_any xs n)) (ne_eqb x.number n ne) in
    ⊎_elim (λ e. (cons_here x g xs e, λ q. ne (ap (λ (y : OpenGrant). y.number) e ∙ q))) (λ f. let k = more f in (cons_there x g xs k.0, k.1)) (cons_cases x g (without_any xs n) (subst (λ (l : List OpenGrant). Contains l g) keeps h)))

pub any_other : (xs : List OpenGrant) (n : ℕ) (g : OpenGrant) → Contains (without_any xs n) g → Contains xs g × (g.number ≢ n)
any_other [] n g h = let lt = h.1 in absurd (omega arith)
any_other (x ∷ xs) n g h = any_step x g xs n (any_other xs n g) h

-- and those stay in both ways of leaving one out
pub stays : (xs : List OpenGrant) (n : ℕ) (g : OpenGrant) → Contains xs g → g.number ≢ n → Contains (without xs n) g
stays [] n g h ne = let lt = h.1 in absurd (omega arith)
stays (x ∷ xs) n g h ne = dite (ℕ_discrete x.number n)
    (λ e.
    let drops : without (x ∷ xs) n ≡ xs = ap (λ (b : Bool). cond b xs (x ∷ without xs n)) (eq-eqb x.number n e) in
    subst (λ (l : List OpenGrant). Contains l g) (sym drops) (⊎_elim (λ q. absurd (ne (sym (ap (λ (y : OpenGrant). y.number) q) ∙ e))) (λ f. f) (cons_cases x g xs h)))
    (λ apart.
    let keeps : without (x ∷ xs) n ≡ x ∷ without xs n = ap (λ (b : Bool). cond b xs (x ∷ without xs n)) (ne_eqb x.number n apart) in
    subst (λ (l : List OpenGrant). Contains l g) (sym keeps) (⊎_elim (λ q. cons_here x g (without xs n) q) (λ f. cons_there x g (without xs n) (stays xs n g f ne)) (cons_cases x g xs h)))

pub stays_any : (xs : List OpenGrant) (n : ℕ) (g : OpenGrant) → Contains xs g → g.number ≢ n → Contains (without_any xs n) g
stays_any [] n g h ne = let lt = h.1 in absurd (omega arith)
stays_any (x ∷ xs) n g h ne = dite (ℕ_discrete x.number n)
    (λ e.
    let drops : without_any (x ∷ xs) n ≡ without_any xs n = ap (λ (b : Bool). cond (not b) (x ∷ without_any xs n) (without_any xs n)) (eq-eqb x.number n e) in
    subst (λ (l : List OpenGrant). Contains l g) (sym drops) (⊎_elim (λ q. absurd (ne (sym (ap (λ (y : OpenGrant). y.number) q) ∙ e))) (λ f. stays_any xs n g f ne) (cons_cases x g xs h)))
    (λ apart.
    let keeps : without_any (x ∷ xs) n ≡ x ∷ without_any xs n = ap (λ (b : Bool). cond (not b) (x ∷ without_any xs n) (without_any xs n)) (ne_eqb x.number n apart) in
    subst (λ (l : List OpenGrant). Contains l g) (sym keeps) (⊎_elim (λ q. cons_here x g (without_any xs n) q) (λ f. cons_there x g (without_any xs n) (stays_any xs n g f ne)) (cons_cases x g xs h)))

abbrev pub Within : List OpenGrant → List OpenGrant → Type 0
Within xs ys = (g : OpenGrant) → Contains xs g → Contains ys g

pushed_within : (xs ys : List OpenGrant) (x : OpenGrant) → Within xs ys → Within (xs ++ x ∷ []) (ys ++ x ∷ [])
pushed_within xs ys x w = λ g h. ⊎_elim (λ a. Contains-append_left ys (x ∷ []) g (w g a)) (λ q. subst (λ (y : OpenGrant). Contains (ys ++ x ∷ []) y) q (Contains-push ys x)) (Contains-push_cases xs x g h)

-- at the desk
pub desk_within : (xs ys : List OpenGrant) (c : DeskCall) (r : DeskReply) → Within xs ys → Within (given_after xs c r) (grants_after ys c r)
desk_within xs ys (call.Propose key m now) (reply.Granted grant) w = pushed_within xs ys grant w
desk_within xs ys (call.Allow key now) (reply.Granted grant) w = pushed_within xs ys grant w
desk_within xs ys (call.Settle grant outcome) reply.Settled w = λ g h. let a = any_other xs grant.number g h in stays ys grant.number g (w g a.0) a.1
desk_within xs ys c r w = w

-- in another's hands, who had more
pub hand_within : (xs ys : List OpenGrant) (c : DeskCall) (r : DeskReply) → Within xs ys → Within (given_after xs c r) (given_after ys c r)
hand_within xs ys (call.Propose key m now) (reply.Granted grant) w = pushed_within xs ys grant w
hand_within xs ys (call.Allow key now) (reply.Granted grant) w = pushed_within xs ys grant w
hand_within xs ys (call.Settle grant outcome) reply.Settled w = λ g h. let a = any_other xs grant.number g h in stays_any ys grant.number g (w g a.0) a.1
hand_within xs ys c r w = w

pub desk_over : (xs ys : List OpenGrant) (made : List (DeskCall × DeskReply)) → Within xs ys → Within (given xs made) (grants_over ys made)
desk_over xs ys [] w = w
desk_over xs ys (x ∷ made) w = desk_over (given_after xs x.0 x.1) (grants_after ys x.0 x.1) made (desk_within xs ys x.0 x.1 w)

pub hand_over : (xs ys : List OpenGrant) (made : List (DeskCall × DeskReply)) → Within xs ys → Within (given xs made) (given ys made)
hand_over xs ys [] w = w
hand_over xs ys (x ∷ made) w = hand_over (given_after xs x.0 x.1) (given_after ys x.0 x.1) made (hand_within xs ys x.0 x.1 w)

pub given_split : (xs : List OpenGrant) (before made : List (DeskCall × DeskReply)) → given xs (before ++ made) ≡ given (given xs before) made
given_split xs [] made = refl
given_split xs (x ∷ before) made = given_split (given_after xs x.0 x.1) before made

pub may_within : (xs ys : List OpenGrant) (c : DeskCall) → Within xs ys → MayCall xs c → MayCall ys c
may_within xs ys (call.Settle grant o) w h = w grant h
may_within xs ys c w h = h

none_within : (ys : List OpenGrant) → Within [] ys
none_within ys = λ g h. let lt = h.1 in absurd (omega arith)

-- what these calls allow is allowed after them at any desk
pub desk_admits : (grants : List OpenGrant) (made : List (DeskCall × DeskReply)) (c : DeskCall) → MayMake made c → MayCall (grants_over grants made) c
desk_admits grants made c h = may_within (given [] made) (grants_over grants made) c (desk_over [] grants made (none_within grants)) h

-- and to a caller that made others before
pub hand_admits : (before made : List (DeskCall × DeskReply)) (c : DeskCall) → MayMake made c → MayMake (before ++ made) c
hand_admits before made c h =
    let p : given [] (before ++ made) ≡ given (given [] before) made = given_split [] before made in
    subst (λ (l : List OpenGrant). MayCall l c) (sym p) (may_within (given [] made) (given (given [] before) made) c (hand_over [] (given [] before) made (none_within (given [] before))) h)

-- who got a grant may settle it
pub may_settle : (before : List (DeskCall × DeskReply)) (c : DeskCall) (grant : OpenGrant) (o : Outcome) → Contains (given_after [] c (reply.Granted grant)) grant → MayMake (before ++ (c, reply.Granted grant) ∷ []) (call.Settle grant o)
may_settle before c grant o h = hand_admits before ((c, reply.Granted grant) ∷ []) (call.Settle grant o) h
