-- One route without a parameter, and the target before its query.
use Rattle.std.proofs.Common.{◌≡◌, ℕ, zero, suc, ◌-◌, ◌<◌, ◌==◌, Bool, true, false, ◌&&◌, List, [], ◌∷◌, length, take, Option, Some, None, refl, sym, ap, ◌∙◌, cond, ltb, eqb, arith, subst}
use Rattle.std.specs.Prelude.{position, codes, option_map}
use Rattle.std.specs.List.{list_all, position_or_len, before_first}
use Rattle.std.specs.Str.{bytes_eq, IsAscii, IsUtf8}
use Rattle.std.proofs.lemmas.Str.{IsUtf8-from_ascii}
use Rattle.std.proofs.lemmas.Str.Ascii.{IsAscii-nil, IsAscii-cons}
use Rattle.std.proofs.lemmas.Slice.Eq.{bytes_eq-Decides}
use Rattle.std.proofs.lemmas.List.{take_all}
use Rattle.std.proofs.lemmas.Bool.Decides.{Decides-eqb, same_from_decides, nat_tests}
use Rattle.matchit.specs.Rows.{RowsOf}
use Rattle.matchit.specs.Router.{RouteOf}
use Rattle.matchit.specs.Seek.{seek, first, param_step, step, own, or_else, has_slash}
use Rattle.keymanager_routes.specs.Routes.{route_at}
use Rattle.keymanager_routes.specs.declared.route.Route.{Route}
use Rattle.keymanager_routes.specs.declared.route.Route.TheVariants as route

abbrev none_of : (K : Type 0) → RowsOf K
none_of K = []

or_nothing : {K : Type 0} (x : Option K) → or_else x None ≡ x
or_nothing None = refl
or_nothing (Some k) = refl

-- what a parameter takes of a path goes on with no rows
abbrev goes_on : (K : Type 0) → Bool → ℕ → ℕ × RowsOf K
goes_on K b n = cond b (0, none_of K) (n, none_of K)

param_part : (K : Type 0) (b : Bool) (n : ℕ) (path : List ℕ) → ((skip : ℕ) → seek skip (none_of K) path ≡ None)
    → seek ((goes_on K b n).0 - 1) (goes_on K b n).1 path ≡ None
param_part K true n path h = h (0 - 1)
param_part K false n path h = h (n - 1)

seek_none : (K : Type 0) (skip : ℕ) (path : List ℕ) → seek skip (none_of K) path ≡ None
unfolding seek param_step
seek_none K skip [] = refl
seek_none K (suc skip) (b ∷ path) = seek_none K skip path
seek_none K zero (b ∷ path) =
    ap (λ x. or_else x (or_else (seek ((param_step (none_of K) (b ∷ path)).0 - 1) (param_step (none_of K) (b ∷ path)).1 path) None)) (seek_none K 0 path)
    ∙ ap (λ (x : Option K). or_else x None) (param_part K (has_slash (b ∷ path)) (length (b ∷ path)) path (λ n. seek_none K n path))

-- where no row has a parameter, the next byte decides
by_byte : {K : Type 0} (one param rest : RowsOf K) (b : ℕ) (path : List ℕ) → param ≡ [] → rest ≡ []
    → or_else (seek 0 one path) (or_else (seek ((param_step param (b ∷ path)).0 - 1) (param_step param (b ∷ path)).1 path) (own rest)) ≡ seek 0 one path
unfolding param_step
by_byte {K} one param rest b path p r =
    ap (λ (rs : RowsOf K). or_else (seek 0 one path) (or_else (seek ((param_step rs (b ∷ path)).0 - 1) (param_step rs (b ∷ path)).1 path) (own rest))) p
    ∙ ap (λ (rs : RowsOf K). or_else (seek 0 one path) (or_else (seek ((param_step (none_of K) (b ∷ path)).0 - 1) (param_step (none_of K) (b ∷ path)).1 path) (own rs))) r
    ∙ ap (λ (x : Option K). or_else (seek 0 one path) (or_else x None)) (param_part K (has_slash (b ∷ path)) (length (b ∷ path)) path (λ n. seek_none K n path))
    ∙ or_nothing (seek 0 one path)

turn : {K : Type 0} (c d : Bool) (t : List ℕ) (k : K) (path : List ℕ) → c ≡ d → seek 0 ((t, k) ∷ []) path ≡ cond (bytes_eq path t) (Some k) None
    → seek 0 (cond c ((t, k) ∷ []) []) path ≡ cond (d && bytes_eq path t) (Some k) None
turn true true t k path e h = h
turn {K} false false t k path e h = seek_none K 0 path
turn true false t k path e h = cc
turn false true t k path e h = cc

both : (p q : Bool) → (p && q) ≡ true → (p ≡ true) × (q ≡ true)
both true true e = (refl, refl)
both true false e = cc
both false q e = cc

same_order : (x b : ℕ) → (x == b) ≡ (b == x)
same_order x b = let d = Decides-eqb b x in same_from_decides (x == b) (b == x) (Decides-eqb x b) ((λ e. sym (d.0 e)), (λ e. d.1 (sym e)))

no_token : (x token : ℕ) → ltb x 256 ≡ true → ltb 255 token ≡ true → eqb x token ≡ false
no_token x token h g = grind (arith, nat_tests)

-- a row of bytes alone is found by its own bytes
pub only_row : {K : Type 0} (t : List ℕ) (k : K) (path : List ℕ) → list_all (λ x. ltb x 256) t ≡ true → seek 0 ((t, k) ∷ []) path ≡ cond (bytes_eq path t) (Some k) None
unfolding seek
only_row [] k [] h = refl
only_row (x ∷ t) k [] h = refl
only_row {K} [] k (b ∷ path) h = by_byte (none_of K) (none_of K) (none_of K) b path refl refl ∙ seek_none K 0 path
only_row {K} (x ∷ t) k (b ∷ path) h =
    let l = both (ltb x 256) (list_all (λ y. ltb y 256) t) h in
    by_byte (step b ((x ∷ t, k) ∷ [])) (step 256 ((x ∷ t, k) ∷ [])) (step 257 ((x ∷ t, k) ∷ [])) b path
    (ap (λ (c : Bool). cond c ((t, k) ∷ none_of K) (none_of K)) (no_token x 256 l.0 refl))
    (ap (λ (c : Bool). cond c ((t, k) ∷ none_of K) (none_of K)) (no_token x 257 l.0 refl))
    ∙ turn (x == b) (b == x) t k path (same_order x b) (only_row t k path l.1)

-- ---- the target before its query

some_at : (b : Bool) (n m : ℕ) → cond b (Some n) None ≡ Some m → n ≡ m
some_at true n m e = cc
some_at false n m e = cc

none_at : (b : Bool) (n : ℕ) → cond b (Some n) None ≡ None → b ≡ false
none_at true n e = cc
none_at false n e = refl

pub before_found : (p : ℕ → Bool) (xs : List ℕ) (n : ℕ) → position p xs ≡ Some n → take n xs ≡ before_first p xs
before_found p xs n e = ap (λ m. take m xs) (sym (some_at (ltb (position_or_len p xs) (length xs)) (position_or_len p xs) n e))

pub before_none : (p : ℕ → Bool) (xs : List ℕ) → position p xs ≡ None → xs ≡ before_first p xs
before_none p xs e =
    let over : ltb (position_or_len p xs) (length xs) ≡ false = none_at (ltb (position_or_len p xs) (length xs)) (position_or_len p xs) e in
    sym (take_all (position_or_len p xs) xs (grind (arith, nat_tests)))

-- ---- what is no text names nothing

below : (b : ℕ) → ltb b 128 ≡ true → b < 128
below b e = grind (arith, nat_tests)

ascii_all : (bs : List ℕ) → list_all (λ b. ltb b 128) bs ≡ true → IsAscii bs
ascii_all [] e = IsAscii-nil
ascii_all (b ∷ bs) e = let l = both (ltb b 128) (list_all (λ c. ltb c 128) bs) e in IsAscii-cons b bs (below b l.0) (ascii_all bs l.1)

path_utf8 : IsUtf8 (codes "/eth/v1/keystores")
path_utf8 = IsUtf8-from_ascii (codes "/eth/v1/keystores") (ascii_all (codes "/eth/v1/keystores") refl)

no_match : (path : List ℕ) → (IsUtf8 path → ⊥) → bytes_eq path (codes "/eth/v1/keystores") ≡ false
no_match path h = at (bytes_eq path (codes "/eth/v1/keystores")) (λ e. h (subst IsUtf8 (sym ((bytes_eq-Decides path (codes "/eth/v1/keystores")).0 e)) path_utf8)) where
  at : (b : Bool) → (b ≡ true → ⊥) → b ≡ false
  at true k = absurd (k refl)
  at false k = refl

pub route_at-no_text : (path : List ℕ) → (IsUtf8 path → ⊥) → None ≡ route_at path
route_at-no_text path h = rw (no_match path h) refl

-- ---- the one route

value_at : (b : Bool) (row : RouteOf Route) → option_map (λ r. r.value) (cond b (Some row) None) ≡ cond b (Some row.value) None
value_at true row = refl
value_at false row = refl

pub routed : (rows : RowsOf (RouteOf Route)) (row : RouteOf Route) (path : List ℕ) → row.value ≡ route.Keystores → rows ≡ (codes "/eth/v1/keystores", row) ∷ []
    → option_map (λ r. r.value) (first rows path) ≡ route_at path
routed rows row path v e =
    ap (λ (rs : RowsOf (RouteOf Route)). option_map (λ r. r.value) (first rs path)) e
    ∙ ap (λ (o : Option (RouteOf Route)). option_map (λ r. r.value) o) (only_row (codes "/eth/v1/keystores") row path refl)
    ∙ value_at (bytes_eq path (codes "/eth/v1/keystores")) row
    ∙ ap (λ r. cond (bytes_eq path (codes "/eth/v1/keystores")) (Some r) None) v
