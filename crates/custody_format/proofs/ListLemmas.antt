-- Reading the elements of an array one after another.
use Rattle.std.proofs.Common.{◌≡◌, ◌∙◌, ℕ, ◌+◌, ◌<◌, List, [], ◌∷◌, ◌++◌, length, drop, get_or, drop-cons, add-one, Option, Some, None, refl, sym, ap, append_assoc}
use Rattle.std.specs.Prelude.{option_map}
use Rattle.serde_json.specs.Data.{Data}
use Rattle.serde_json.specs.View.{items_view, view}
use Rattle.serde_json.specs.declared.value.Value.{Value}
use Rattle.custody_format.specs.Lists.{each}

-- what comes of `found` and of the elements that are still to be read
abbrev pub rest_of : {A : Type 0} → (Data → Option A) → List A → List Value → Option (List A)
rest_of f found values = option_map (λ xs. found ++ xs) (each f (items_view values))

rest_of-some : {A : Type 0} (f : Data → Option A) (found : List A) (v : Value) (vs : List Value) (x : A) → f (view v) ≡ Some x
    → rest_of f found (v ∷ vs) ≡ rest_of f (found ++ x ∷ []) vs
rest_of-some {A} f found v vs x one = rw one (go (each f (items_view vs)))
  where
    go : (o : Option (List A)) → option_map (λ xs. found ++ xs) (option_map (λ xs. x ∷ xs) o) ≡ option_map (λ xs. (found ++ x ∷ []) ++ xs) o
    go None = refl
    go (Some xs) = ap Some (sym (append_assoc found (x ∷ []) xs))

-- the element at the next place is read
pub rest_of-next : {A : Type 0} (f : Data → Option A) (found next : List A) (values : List Value) (i : ℕ) (v : Value) (x : A)
    → i < length values → v ≡ get_or values i v → f (view v) ≡ Some x → next ≡ found ++ x ∷ []
    → rest_of f found (drop i values) ≡ rest_of f [] values → rest_of f next (drop (i + 1) values) ≡ rest_of f [] values
rest_of-next f found next values i v x within is one grown so_far =
    let cut : drop i values ≡ get_or values i v ∷ drop (i + 1) values = rw add-one (drop-cons values i v within) in
    let here : drop i values ≡ v ∷ drop (i + 1) values = cut ∙ ap (λ w. w ∷ drop (i + 1) values) (sym is) in
    ap (λ all. rest_of f all (drop (i + 1) values)) grown ∙ (sym (rest_of-some f found v (drop (i + 1) values) x one)
    ∙ (sym (ap (λ vs. rest_of f found vs) here) ∙ so_far))
