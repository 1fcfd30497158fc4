-- What a stop says, carried outwards.
use Rattle.std.proofs.Common.{◌≡◌, List, Option, None, Result, Ok, Err, sym, ap, ◌∙◌, subst}
use Rattle.json.specs.Token.{Token}
use Rattle.json.specs.Json.{parse_map}
use Rattle.json_walk.proofs.WalkLemmas.{ReadsAs-inside}
use Rattle.interchange_io.specs.declared.halt.Halt.{Halt}
use Rattle.interchange_io.specs.declared.halt.Halt.TheVariants as halt
use Rattle.interchange_io.specs.Halts.{Halts, ReadsOrHalts}

pub Halts-map : (e : Halt) {P Q : Type 0} → (P → Q) → Halts e P → Halts e Q
Halts-map halt.Memory f h = tt
Halts-map halt.Json f h = f h

pub Halts-Err : {A R : Type 0} (r : Result R Halt) (e : Halt) (f : A → R) (reading : Option (A × List Token)) (new : List Token) → r ≡ Err e → Halts e (reading ≡ None) → ReadsOrHalts r f reading new
Halts-Err r e f reading new is h = subst (λ x. ReadsOrHalts x f reading new) (sym is) h

-- what was read inside, under the brackets
pub Halts-inside : {A B R : Type 0} (r : Result R Halt) (wrap : A → B) (f : B → R) (inside : Option (A × List Token)) (whole : Option (B × List Token)) (new : List Token)
    → whole ≡ parse_map wrap inside → ReadsOrHalts r (λ a. f (wrap a)) inside new → ReadsOrHalts r f whole new
Halts-inside (Ok r) wrap f inside whole new e h = ReadsAs-inside r wrap f inside whole new e h
Halts-inside (Err x) wrap f inside whole new e h = Halts-map x (λ none. e ∙ ap (parse_map wrap) none) h
