-- The grammar's loops, a turn at a time, under the conversion to data.
use Rattle.std.proofs.Common.{◌≡◌, ℕ, zero, suc, ◌-◌, ◌<◌, ◌≤◌, List, ◌∷◌, length, Option, Some, None, Result, Ok, Err, true, false, is_some, option_map, option_and_then, refl, sym, ap, ◌∙◌, subst, arith}
use Rattle.json.specs.Token.{Token}
use Rattle.json.specs.Json as json
use Rattle.json.specs.Json.{Parse, parse_map, after_end_array, read_key, items_step, items, members, value}
use Rattle.json.proofs.Grammar.{value_is, items_end, items_more, members_end, members_no_key, members_more, read_key-shorter, value-begin_array, value-begin_object}
use Rattle.serde_json.specs.Data.{Num, Data, number, array, object, Items, no_items, item, Members, no_members, put}
use Rattle.serde_json.specs.Read.{number_of, of_json, of_items, of_members, converted}
use Rattle.json_walk.specs.Walk.{value_at, items_at, members_into, members_at, ReadsAs, Reads}

abbrev pick : {A : Type 0} → A → Option A → A
pick d None = d
pick d (Some a) = a

found : {A B : Type 0} (a : A) (r s : List Token) (x : Option B) (b : B) → option_map {U = B × List Token} (λ y. (y, r)) x ≡ Some (b, s) → (r ≡ s) × (x ≡ Some b)
found a r s None b e = absurd (cc)
found a r s (Some y) b e = let same = ap (pick (y, r)) e in (ap (λ p. p.1) same, ap (λ p. Some p.0) same)

pub converted_some : {A B : Type 0} (f : A → Option B) (o : Option (A × List Token)) (b : B) (r : List Token) → converted f o ≡ Some (b, r) → (a : A) × (o ≡ Some (a, r)) × (f a ≡ Some b)
converted_some f None b r e = absurd (cc)
converted_some f (Some p) b r e = let both = found p.0 p.1 r (f p.0) b e in (p.0, ap (λ s. Some (p.0, s)) both.0, both.1)

refused : {B : Type 0} (r : List Token) (x : Option B) → option_map {U = B × List Token} (λ y. (y, r)) x ≡ None → x ≡ None
refused r None e = refl
refused r (Some y) e = absurd (cc)

twice : {A B : Type 0} (g : A → B) (r : List Token) (x : Option A) → option_map (λ b. (b, r)) (option_map g x) ≡ parse_map g (option_map (λ a. (a, r)) x)
twice g r None = refl
twice g r (Some a) = refl

converted-array : (o : Option (json.Items × List Token)) → converted of_json (parse_map json.array o) ≡ parse_map array (converted of_items o)
converted-array None = refl
converted-array (Some p) = twice array p.1 (of_items p.0)

converted-object : (o : Option (json.Members × List Token)) → converted of_json (parse_map json.object o) ≡ parse_map object (converted (λ ms. of_members ms no_members) o)
converted-object None = refl
converted-object (Some p) = twice object p.1 (of_members p.0 no_members)

with_item : (j : json.Json) (d : Data) → of_json j ≡ Some d → (o : Option (json.Items × List Token)) → converted of_items (parse_map (json.item j) o) ≡ parse_map (item d) (converted of_items o)
with_item j d e None = refl
with_item j d e (Some p) = rw e (twice (item d) p.1 (of_items p.0))

without_item : (j : json.Json) → of_json j ≡ None → (o : Option (json.Items × List Token)) → converted of_items (parse_map (json.item j) o) ≡ None
without_item j e None = refl
without_item j e (Some p) = rw e

with_member : (k : List ℕ) (j : json.Json) (d : Data) (old : Members) → of_json j ≡ Some d → (o : Option (json.Members × List Token))
    → converted (λ ms. of_members ms old) (parse_map (json.member k j) o) ≡ converted (λ ms. of_members ms (put k d old)) o
with_member k j d old e None = refl
with_member k j d old e (Some p) = rw e

without_member : (k : List ℕ) (j : json.Json) (old : Members) → of_json j ≡ None → (o : Option (json.Members × List Token)) → converted (λ ms. of_members ms old) (parse_map (json.member k j) o) ≡ None
without_member k j old e None = refl
without_member k j old e (Some p) = rw e

module _ (p : Parse json.Json) where
  item_read : (n : ℕ) (ts r : List Token) (d : Data) → 0 < n → after_end_array ts ≡ None → converted of_json (p ts) ≡ Some (d, r)
      → converted of_items (items p n ts) ≡ parse_map (item d) (converted of_items (items p (n - 1) r))
  item_read n ts r d some going e = let j = converted_some of_json (p ts) d r e in ap (converted of_items) (items_more p n ts r j.0 some going j.1) ∙ with_item j.0 d j.2 _

  no_item : (more : Parse json.Items) (o : Option (json.Json × List Token)) → converted of_json o ≡ None → converted of_items (option_and_then (λ q. parse_map (json.item q.0) (more q.1)) o) ≡ None
  no_item more None e = refl
  no_item more (Some q) e = without_item q.0 (refused q.1 (of_json q.0) e) (more q.1)

  item_refused : (n : ℕ) (ts : List Token) → after_end_array ts ≡ None → converted of_json (p ts) ≡ None → converted of_items (items p n ts) ≡ None
  unfolding items
  item_refused zero ts going e = refl
  item_refused (suc n) ts going e = ap (λ o. converted of_items (items_step p (items p n) ts o)) going ∙ no_item (items p n) (p ts) e

  items_over : (n : ℕ) (ts r : List Token) → length ts ≤ n → after_end_array ts ≡ Some r → converted of_items (items p n ts) ≡ Some (no_items, r)
  items_over n ts r enough e = ap (converted of_items) (items_end p n ts r enough e)

  module _ (old : Members) where
    member_read : (n : ℕ) (k : List ℕ) (ts s r : List Token) (d : Data) → 0 < n → read_key ts ≡ Some (Some k, s) → converted of_json (p s) ≡ Some (d, r)
        → converted (λ ms. of_members ms old) (members p n ts) ≡ converted (λ ms. of_members ms (put k d old)) (members p (n - 1) r)
    member_read n k ts s r d some key e =
        let j = converted_some of_json (p s) d r e in
        ap (converted (λ ms. of_members ms old)) (members_more p n k ts s r j.0 some key j.1) ∙ with_member k j.0 d old j.2 _

    no_member : (k : List ℕ) (more : Parse json.Members) (o : Option (json.Json × List Token)) → converted of_json o ≡ None
        → converted (λ ms. of_members ms old) (option_and_then (λ q. parse_map (json.member k q.0) (more q.1)) o) ≡ None
    no_member k more None e = refl
    no_member k more (Some q) e = without_member k q.0 old (refused q.1 (of_json q.0) e) (more q.1)

    member_refused : (n : ℕ) (k : List ℕ) (ts s : List Token) → read_key ts ≡ Some (Some k, s) → converted of_json (p s) ≡ None → converted (λ ms. of_members ms old) (members p n ts) ≡ None
    unfolding members
    member_refused zero k ts s key e = refl
    member_refused (suc n) k ts s key e = rw key (no_member k (members p n) (p s) e)

    key_refused : (n : ℕ) (ts : List Token) → read_key ts ≡ None → converted (λ ms. of_members ms old) (members p n ts) ≡ None
    key_refused n ts e = ap (converted (λ ms. of_members ms old)) (members_no_key p n ts e)

    members_over : (n : ℕ) (ts r : List Token) → length ts ≤ n → read_key ts ≡ Some (None, r) → converted (λ ms. of_members ms old) (members p n ts) ≡ Some (old, r)
    members_over n ts r enough e = ap (converted (λ ms. of_members ms old)) (members_end p n ts r enough e)

-- ---- one level down

pub opened_array : (depth : ℕ) (ts : List Token) → 0 < depth → value_at depth (Token.begin_array ∷ ts) ≡ parse_map array (items_at (depth - 1) (length ts) ts)
opened_array depth ts some = ap (converted of_json) (value-begin_array depth ts some) ∙ converted-array (items (value (depth - 1)) (length ts) ts)

pub opened_object : (depth : ℕ) (ts : List Token) → 0 < depth → value_at depth (Token.begin_object ∷ ts) ≡ parse_map object (members_at (depth - 1) ts)
opened_object depth ts some = ap (converted of_json) (value-begin_object depth ts some) ∙ converted-object (members (value (depth - 1)) (length ts) ts)

pub Reads-Err : {A R E : Type 0} (r : Result R E) (e : E) (f : A → R) (reading : Option (A × List Token)) (new : List Token) → r ≡ Err e → reading ≡ None → Reads r f reading new
Reads-Err r e f reading new is h = subst (λ x. Reads x f reading new) (sym is) h

-- what was read inside, under the brackets
pub ReadsAs-inside : {A B R : Type 0} (r : R) (wrap : A → B) (f : B → R) (inside : Option (A × List Token)) (whole : Option (B × List Token)) (new : List Token)
    → whole ≡ parse_map wrap inside → ReadsAs r (λ a. f (wrap a)) inside new → ReadsAs r f whole new
ReadsAs-inside r wrap f inside whole new e h = (wrap h.0, e ∙ ap (parse_map wrap) h.1, h.2)

pub Reads-inside : {A B R E : Type 0} (r : Result R E) (wrap : A → B) (f : B → R) (inside : Option (A × List Token)) (whole : Option (B × List Token)) (new : List Token)
    → whole ≡ parse_map wrap inside → Reads r (λ a. f (wrap a)) inside new → Reads r f whole new
Reads-inside (Ok r) wrap f inside whole new e h = ReadsAs-inside r wrap f inside whole new e h
Reads-inside (Err x) wrap f inside whole new e h = e ∙ ap (parse_map wrap) h

-- ---- the items of an array, one after another

parse_map-twice : {A B C : Type 0} (f : B → C) (g : A → B) (o : Option (A × List Token)) → parse_map f (parse_map g o) ≡ parse_map (λ a. f (g a)) o
parse_map-twice f g None = refl
parse_map-twice f g (Some p) = refl

parse_map-same : {A : Type 0} (o : Option (A × List Token)) → o ≡ parse_map (λ a. a) o
parse_map-same None = refl
parse_map-same (Some p) = refl

-- the items from `start` on are those that were read before ts, put by `before` in front of those in ts
abbrev pub ItemsWalk : ((Items → Items) → Type 0) → ℕ → List Token → List Token → Type 0
ItemsWalk says depth start ts =
    (n : ℕ) × (before : Items → Items) × (length ts ≤ n) × (items_at depth (length start) start ≡ parse_map before (items_at depth n ts)) × (length ts ≤ length start) × says before

pub items_start : (says : (Items → Items) → Type 0) (depth : ℕ) (start : List Token) → says (λ ds. ds) → ItemsWalk says depth start start
items_start says depth start h = (length start, (λ ds. ds), omega arith, parse_map-same _, omega arith, h)

pub items_turn : {R : Type 0} (says now_says : (Items → Items) → Type 0) (f : Data → R) (r : R) (depth : ℕ) (start ts new : List Token)
    → ((before : Items → Items) (d : Data) → says before → f d ≡ r → now_says (λ ds. before (item d ds)))
    → ItemsWalk says depth start ts → after_end_array ts ≡ None → ReadsAs r f (value_at depth ts) new → length new < length ts → ItemsWalk now_says depth start new
items_turn says now_says f r depth start ts new step w going p less =
    let turn = item_read (value depth) w.0 ts new p.0 (omega (arith, w.2, less)) going p.1 in
    (w.0 - 1, (λ ds. w.1 (item p.0 ds)), omega (arith, w.2, less), w.3 ∙ ap (parse_map w.1) turn ∙ parse_map-twice w.1 (item p.0) _, omega (arith, w.4, less), step w.1 p.0 w.5 p.2)

pub items_refused : (says : (Items → Items) → Type 0) (depth : ℕ) (start ts : List Token) → ItemsWalk says depth start ts → after_end_array ts ≡ None → value_at depth ts ≡ None → items_at depth (length start) start ≡ None
items_refused says depth start ts w going e = w.3 ∙ ap (parse_map w.1) (item_refused (value depth) w.0 ts going e)

pub items_done : {R : Type 0} (says : (Items → Items) → Type 0) (f : Items → R) (r : R) (depth : ℕ) (start ts new : List Token) → ((before : Items → Items) → says before → f (before no_items) ≡ r)
    → ItemsWalk says depth start ts → after_end_array ts ≡ Some new → ReadsAs r f (items_at depth (length start) start) new
items_done says f r depth start ts new last w over = (w.1 no_items, w.3 ∙ ap (parse_map w.1) (items_over (value depth) w.0 ts new w.2 over), last w.1 w.5)

-- ---- the members of an object, one after another

-- the members from `start` on are those that were found before ts, and those in ts
abbrev pub MembersWalk : (Members → Type 0) → ℕ → List Token → List Token → Type 0
MembersWalk says depth start ts =
    (n : ℕ) × (found : Members) × (length ts ≤ n) × (members_at depth start ≡ members_into found depth n ts) × (length ts ≤ length start) × says found

pub members_start : (says : Members → Type 0) (depth : ℕ) (start : List Token) → says no_members → MembersWalk says depth start start
members_start says depth start h = (length start, no_members, omega arith, refl, omega arith, h)

pub members_turn : {R : Type 0} (says now_says : Members → Type 0) (f : Data → R) (r : R) (depth : ℕ) (k : List ℕ) (start ts s new : List Token)
    → ((found : Members) (d : Data) → says found → f d ≡ r → now_says (put k d found))
    → MembersWalk says depth start ts → read_key ts ≡ Some (Some k, s) → ReadsAs r f (value_at depth s) new → length new < length s → MembersWalk now_says depth start new
members_turn says now_says f r depth k start ts s new step w key p less =
    let shorter = read_key-shorter ts (Some k) s key in
    (w.0 - 1, put k p.0 w.1, omega (arith, w.2, less, shorter), w.3 ∙ member_read (value depth) w.1 w.0 k ts s new p.0 (omega (arith, w.2, less, shorter)) key p.1, omega (arith, w.4, less, shorter), step w.1 p.0 w.5 p.2)

pub members_stopped : (says : Members → Type 0) (depth : ℕ) (k : List ℕ) (start ts s : List Token) → MembersWalk says depth start ts → read_key ts ≡ Some (Some k, s) → value_at depth s ≡ None → members_at depth start ≡ None
members_stopped says depth k start ts s w key e = w.3 ∙ member_refused (value depth) w.1 w.0 k ts s key e

pub members_no_name : (says : Members → Type 0) (depth : ℕ) (start ts : List Token) → MembersWalk says depth start ts → read_key ts ≡ None → members_at depth start ≡ None
members_no_name says depth start ts w e = w.3 ∙ key_refused (value depth) w.1 w.0 ts e

pub members_done : {R : Type 0} (says : Members → Type 0) (f : Members → R) (r : R) (depth : ℕ) (start ts new : List Token) → ((found : Members) → says found → f found ≡ r)
    → MembersWalk says depth start ts → read_key ts ≡ Some (None, new) → ReadsAs r f (members_at depth start) new
members_done says f r depth start ts new last w over = (w.1, w.3 ∙ members_over (value depth) w.1 w.0 ts new w.2 over, last w.1 w.5)

-- ---- numbers

in_range : (s : List ℕ) (r : List Token) (n : Option Num) → is_some n ≡ true → (d : Data) × (option_map {U = Data × List Token} (λ d. (d, r)) (option_map number n) ≡ Some (d, r))
in_range s r None e = absurd (cc)
in_range s r (Some n) e = (number n, refl)

out_of_range : (s : List ℕ) (r : List Token) (n : Option Num) → is_some n ≡ false → option_map {U = Data × List Token} (λ d. (d, r)) (option_map number n) ≡ None
out_of_range s r None e = refl
out_of_range s r (Some n) e = absurd (cc)

pub number_in_range : (s : List ℕ) (depth : ℕ) (r : List Token) → is_some (number_of s) ≡ true → (d : Data) × (value_at depth (Token.number s ∷ r) ≡ Some (d, r))
number_in_range s depth r e =
    let read = in_range s r (number_of s) e in
    (read.0, ap (converted of_json) (value_is depth (Token.number s ∷ r)) ∙ read.1)

pub number_out_of_range : (s : List ℕ) (depth : ℕ) (r : List Token) → is_some (number_of s) ≡ false → value_at depth (Token.number s ∷ r) ≡ None
number_out_of_range s depth r e = ap (converted of_json) (value_is depth (Token.number s ∷ r)) ∙ out_of_range s r (number_of s) e
