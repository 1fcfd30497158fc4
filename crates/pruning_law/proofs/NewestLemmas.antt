-- What is kept of entries of which the old ones are forgotten: among them one old one.
use Rattle.std.proofs.Common.{◌≡◌, ◌≢◌, ℕ, zero, suc, ◌-◌, ◌<◌, Bool, true, false, cond, List, [], ◌∷◌, length, drop, refl, sym, subst, arith, Contains, filter}
use Rattle.std.specs.Prelude.{nat_lt}
use Rattle.std.proofs.lemmas.Bool.{ltb-true}
use Rattle.std.proofs.lemmas.List.Elements.{All-contains, All-contains_itself, All-drop}
use Rattle.protect_record.proofs.MemberLemmas.{contains_first, contains_none}
use Rattle.protect_record.proofs.UniteLemmas.{contains_from_filter}
use Rattle.duty_pruning.specs.Pruning.{kept_from_old}

-- where a filter keeps something, that is of the list and passes
passes_first : {X : Type 0} (p : X → Bool) (xs ys : List X) → filter p xs ≡ ys → 0 < length ys → (x : X) × Contains xs x × (p x ≡ true)
passes_first p xs [] is lt = absurd (omega (arith, lt))
passes_first {X} p xs (y ∷ ys) is lt =
    let has = contains_from_filter p xs y (subst (λ (zs : List X). Contains zs y) (sym is) (contains_first y ys)) in
    (y, has.0, has.1)

-- where more of a list pass a test than are dropped of it, one that passes is left
some_left : {X : Type 0} (p : X → Bool) (n : ℕ) (xs : List X) → n < length (filter p xs) → (x : X) × Contains (drop n xs) x × (p x ≡ true)
some_left p zero xs lt = passes_first p xs (filter p xs) refl lt
some_left p (suc n) [] lt = absurd (omega (arith, lt))
some_left {X} p (suc n) (y ∷ ys) lt = some_left p n ys (fewer (p y) lt) where
  fewer : (b : Bool) → suc n < length (cond b (y ∷ filter p ys) (filter p ys)) → n < length (filter p ys)
  fewer true more = omega (arith, more)
  fewer false more = omega (arith, more)

-- what is left of a list is of it
from_drop : {X : Type 0} (n : ℕ) (xs : List X) (x : X) → Contains (drop n xs) x → Contains xs x
from_drop n xs x has = All-contains (λ y. Contains xs y) (drop n xs) x (All-drop (λ y. Contains xs y) n xs (All-contains_itself xs)) has

-- these are of the entries, and where there are any, one of them is old
pub record HasOld {E : Type 0} (old : E → Bool) (entries kept : List E) : Type 0 where
  pub among : (e : E) → Contains kept e → Contains entries e
  pub one : kept ≢ [] → (e : E) × Contains kept e × (old e ≡ true)

pub has_old : {E : Type 0} (old : E → Bool) (few : ℕ) (entries : List E) → HasOld old entries (kept_from_old few (length (filter old entries)) entries)
has_old {E} old few entries = at (nat_lt few (length (filter old entries))) refl where
  at : (b : Bool) → nat_lt few (length (filter old entries)) ≡ b → HasOld old entries (cond b (drop (length (filter old entries) - 1) entries) [])
  at true is = record {
    among = λ e has. from_drop (length (filter old entries) - 1) entries e has;
    one = λ some. some_left old (length (filter old entries) - 1) entries (let lt = ltb-true few (length (filter old entries)) is in omega (arith, lt));
  }
  at false is = record {
    among = λ e has. contains_none e has;
    one = λ some. absurd (some refl);
  }
