-- What a walk over members or items keeps of those that it has read.
use Rattle.std.proofs.Common.{◌≡◌, ℕ, zero, suc, ◌<◌, ◌≤◌, List, [], ◌∷◌, ◌++◌, length, Bool, true, false, true≢false, bytes_eq, Option, Some, None, Result, Ok, Err, fold, option_and_then, refl, sym, ap, ◌∙◌, subst, arith, append_assoc, append-nil}
use Rattle.std.proofs.lemmas.Slice.Eq.{bytes_eq-Decides}
use Rattle.json.specs.Token.{Token}
use Rattle.json.specs.Json as json
use Rattle.json.specs.Json.{read_key, Parse, parse_map, after_end_array, items_step, items, value}
use Rattle.json.proofs.Grammar.{left, Takes, skip_value-shorter, after_end_array-shorter}
use Rattle.serde_json.specs.Data.{Data, Items, item, Members, put}
use Rattle.serde_json.specs.Find.{get_member}
use Rattle.serde_json.specs.Read.{of_items, converted}
use Rattle.serde_json.proofs.Views.{get_member-put, get_member-put_other}
use Rattle.interchange_io.specs.declared.member.Member.{Member}
use Rattle.interchange_io.specs.declared.fault.ReadFault.{ReadFault}
use Rattle.interchange_io.specs.Members.{name_of}
use Rattle.interchange_io.specs.Parts.{where_named}
use Rattle.interchange_io.specs.declared.halt.Halt.{Halt}
use Rattle.interchange_io.specs.Halts.{ReadsOrHalts}
use Rattle.interchange_io.proofs.HaltLemmas.{Halts-map}
use Rattle.interchange_io.specs.Steps.{◌>>=◌, each}
use Rattle.json_walk.specs.Walk.{value_at, items_at, ReadsAs, nothing_of}
use Rattle.json_walk.proofs.WalkLemmas.{MembersWalk, members_turn, ItemsWalk}

-- ---- members

apart : (a b : List ℕ) → bytes_eq a b ≡ false → a ≡ b → ⊥
apart a b e same = true≢false (sym ((bytes_eq-Decides a b).1 same) ∙ e)

-- the member that came last
put_here : {R : Type 0} (f : Option Data → R) (name k : List ℕ) (d : Data) (found : Members) (r : R) → k ≡ name → f (Some d) ≡ r → r ≡ f (get_member name (put k d found))
put_here f name k d found r same e = sym e ∙ ap f (sym (subst (λ q. get_member q (put k d found) ≡ Some d) same (get_member-put k d found)))

-- a member of another name
put_other : {R : Type 0} (f : Option Data → R) (name k : List ℕ) (d : Data) (found : Members) (r : R) → (name ≡ k → ⊥) → r ≡ f (get_member name found) → r ≡ f (get_member name (put k d found))
put_other f name k d found r other e = e ∙ ap f (sym (get_member-put_other name k d found other))

named : {R : Type 0} (says : Option Data → R) (m : Member) (name : List ℕ) (d : Data) (found : Members) (before : R) (b : Bool) → bytes_eq name (name_of m) ≡ b → before ≡ says (get_member (name_of m) found)
    → where_named m says name d before ≡ says (get_member (name_of m) (put name d found))
named says m name d found before true e h = rw e (put_here says (name_of m) name d found (says (Some d)) ((bytes_eq-Decides name (name_of m)).0 e) refl)
named says m name d found before false e h = rw e (put_other says (name_of m) name d found before (λ q. apart name (name_of m) e (sym q)) h)

-- one more member
pub kept : {R : Type 0} (says : Option Data → R) (m : Member) (name : List ℕ) (d : Data) (found : Members) (before : R) → before ≡ says (get_member (name_of m) found)
    → where_named m says name d before ≡ says (get_member (name_of m) (put name d found))
kept says m name d found before h = named says m name d found before (bytes_eq name (name_of m)) refl h

-- the walk, with one more member put into what was found
pub members_put : {P : Type 0} (says : P → Members → Type 0) (more : P → List ℕ → Data → P) (before now : P) (depth : ℕ) (name : List ℕ) (start ts s new : List Token)
    → ((found : Members) (d : Data) → says before found → says (more before name d) (put name d found))
    → MembersWalk (says before) depth start ts → read_key ts ≡ Some (Some name, s) → ReadsAs now (more before name) (value_at depth s) new → length new < length s → MembersWalk (says now) depth start new
members_put says more before now depth name start ts s new step =
    members_turn (says before) (says now) (more before name) now depth name start ts s new (λ found d h e. subst (λ parts. says parts (put name d found)) e (step found d h))

-- ---- items

-- what comes of `found` and of the elements that are still to be read
abbrev pub rest_of : {A B : Type 0} → (Data → Result A ReadFault) → (B → A → B) → B → Items → Result B ReadFault
rest_of f step found ds = do
  xs ← each f ds
  Ok (fold step found xs)

abbrev pub push : {A : Type 0} → List A → A → List A
push xs x = xs ++ x ∷ []

first_read : {A B : Type 0} (step : B → A → B) (found : B) (r : Result A ReadFault) (s : Result (List A) ReadFault)
    → ((r >>= λ x. s >>= λ xs. Ok (x ∷ xs)) >>= λ xs. Ok (fold step found xs)) ≡ (r >>= λ x. s >>= λ xs. Ok (fold step (step found x) xs))
first_read step found (Ok x) (Ok xs) = refl
first_read step found (Ok x) (Err e) = refl
first_read step found (Err e) s = refl

fold-push : {A : Type 0} (found xs : List A) → fold push found xs ≡ found ++ xs
fold-push found [] = sym (append-nil found)
fold-push found (x ∷ xs) = fold-push (push found x) xs ∙ append_assoc found (x ∷ []) xs

pushed : {A : Type 0} (r : Result (List A) ReadFault) → (r >>= λ xs. Ok (fold push [] xs)) ≡ r
pushed (Ok xs) = ap Ok (fold-push [] xs)
pushed (Err e) = refl

-- pushed one after another, they are the list
pub rest_of-push : {A : Type 0} (f : Data → Result A ReadFault) (ds : Items) → rest_of f push [] ds ≡ each f ds
rest_of-push f ds = pushed (each f ds)

-- the elements before are kept in `found`
abbrev pub Keeps : {A B : Type 0} → (Data → Result A ReadFault) → (B → A → B) → B → B → (Items → Items) → Type 0
Keeps f step start found before = (ds : Items) → rest_of f step start (before ds) ≡ rest_of f step found ds

pub keeps_one : {A B : Type 0} (f : Data → Result A ReadFault) (step : B → A → B) (start found : B) (x : A) (before : Items → Items) (d : Data) → Keeps f step start found before → f d ≡ Ok x
    → Keeps f step start (step found x) (λ ds. before (item d ds))
keeps_one f step start found x before d h e ds = h (item d ds) ∙ first_read step found (f d) (each f ds) ∙ ap (λ r. r >>= λ y. each f ds >>= λ xs. Ok (fold step (step found y) xs)) e

-- an element was refused
abbrev pub Refuses : {A B : Type 0} → (Data → Result A ReadFault) → (B → A → B) → B → ReadFault → (Items → Items) → Type 0
Refuses f step start fault before = (ds : Items) → rest_of f step start (before ds) ≡ Err fault

pub refuses_one : {A B : Type 0} (f : Data → Result A ReadFault) (step : B → A → B) (start found : B) (fault : ReadFault) (before : Items → Items) (d : Data) → Keeps f step start found before → f d ≡ Err fault
    → Refuses f step start fault (λ ds. before (item d ds))
refuses_one f step start found fault before d h e ds = h (item d ds) ∙ first_read step found (f d) (each f ds) ∙ ap (λ r. r >>= λ y. each f ds >>= λ xs. Ok (fold step (step found y) xs)) e

-- any count that is enough for the turns gives the same
none_here : (p : Parse json.Json) → Takes p → (more : Parse json.Items) (ts : List Token) → length ts ≤ 0 → (o : Option (json.Json × List Token)) → p ts ≡ o → option_and_then (λ q. parse_map (json.item q.0) (more q.1)) o ≡ None
none_here p takes more ts enough None e = refl
none_here p takes more ts enough (Some q) e = let less = takes ts q.1 (ap left e) in let never : ⊥ = omega (arith, less, enough) in absurd never

no_turn : (p : Parse json.Json) → Takes p → (more : Parse json.Items) (ts : List Token) → length ts ≤ 0 → (o : Option (List Token)) → after_end_array ts ≡ o → items_step p more ts o ≡ None
no_turn p takes more ts enough None e = none_here p takes more ts enough (p ts) refl
no_turn p takes more ts enough (Some r) e = let less = after_end_array-shorter ts r e in let never : ⊥ = omega (arith, less, enough) in absurd never

one_turn : (p : Parse json.Json) → Takes p → (more other : Parse json.Items) (ts : List Token) → ((r : List Token) → length r < length ts → more r ≡ other r) → (o : Option (List Token)) (q : Option (json.Json × List Token)) → p ts ≡ q
    → items_step p more ts o ≡ items_step p other ts o
one_turn p takes more other ts same (Some r) q e = refl
one_turn p takes more other ts same None None e = rw e
one_turn p takes more other ts same None (Some (j, r)) e = rw e (ap (parse_map (json.item j)) (same r (takes ts r (ap left e))))

items_same : (p : Parse json.Json) → Takes p → (n m : ℕ) (ts : List Token) → length ts ≤ n → length ts ≤ m → items p n ts ≡ items p m ts
unfolding items
items_same p takes zero zero ts a b = refl
items_same p takes zero (suc m) ts a b = sym (no_turn p takes (items p m) ts a (after_end_array ts) refl)
items_same p takes (suc n) zero ts a b = no_turn p takes (items p n) ts b (after_end_array ts) refl
items_same p takes (suc n) (suc m) ts a b = one_turn p takes (items p n) (items p m) ts (λ r less. items_same p takes n m r (omega (arith, less, a)) (omega (arith, less, b))) (after_end_array ts) (p ts) refl

items_at-same : (depth n m : ℕ) (ts : List Token) → length ts ≤ n → length ts ≤ m → items_at depth n ts ≡ items_at depth m ts
items_at-same depth n m ts a b = ap (converted of_items) (items_same (value depth) (skip_value-shorter depth) n m ts a b)

-- the items behind are passed over
pub items_passed : {R : Type 0} (says : (Items → Items) → Type 0) (f : Items → R) (r : R) (depth : ℕ) (start ts new : List Token) → ((before : Items → Items) (ds : Items) → says before → f (before ds) ≡ r)
    → ItemsWalk says depth start ts → ReadsAs tt nothing_of (items_at depth (length ts) ts) new → ReadsAs r f (items_at depth (length start) start) new
items_passed says f r depth start ts new last w p =
    (w.1 p.0, w.3 ∙ ap (parse_map w.1) (items_at-same depth w.0 (length ts) ts w.2 (omega arith) ∙ p.1), last w.1 p.0 w.5)

pub items_stuck : (says : (Items → Items) → Type 0) (depth : ℕ) (start ts : List Token) → ItemsWalk says depth start ts → items_at depth (length ts) ts ≡ None → items_at depth (length start) start ≡ None
items_stuck says depth start ts w e = w.3 ∙ ap (parse_map w.1) (items_at-same depth w.0 (length ts) ts w.2 (omega arith) ∙ e)

-- an item was refused, and those behind it are passed over
pub items_refuse : {B : Type 0} (r : Result (Result B ReadFault) Halt) (says : (Items → Items) → Type 0) (f : Items → Result B ReadFault) (fault : ReadFault) (depth : ℕ) (start ts new : List Token)
    → ((before : Items → Items) (ds : Items) → says before → f (before ds) ≡ Err fault) → ItemsWalk says depth start ts → ReadsOrHalts r (λ ds. Err fault) (items_at depth (length ts) ts) new → ReadsOrHalts r f (items_at depth (length start) start) new
items_refuse (Ok x) says f fault depth start ts new last w p =
    (w.1 p.0, w.3 ∙ ap (parse_map w.1) (items_at-same depth w.0 (length ts) ts w.2 (omega arith) ∙ p.1), last w.1 p.0 w.5 ∙ p.2)
items_refuse (Err e) says f fault depth start ts new last w p = Halts-map e (items_stuck says depth start ts w) p
