-- What a function gives that may stop at a refusal.
use Rattle.std.specs.Prelude.{◌≡◌, Result, Ok, Err}
use Rattle.keymanager_routes.specs.declared.refusal.Refusal.{Refusal}
use Rattle.keymanager_routes.specs.declared.refusal.Stop.{Stop}
use Rattle.keymanager_routes.specs.declared.refusal.Stop.TheVariants as stop

-- want of memory says nothing, and a refusal is the reading's own
abbrev pub IsStop : {A : Type 0} → Stop → Result A Refusal → Type 0
IsStop stop.Memory reading = Unit {0}
IsStop (stop.Refused r) reading = reading ≡ Err r

-- what a function gives, seen so, is what the reading gives, unless memory ran out
abbrev pub GivesAs : {V A : Type 0} → (V → A) → Result V Stop → Result A Refusal → Type 0
GivesAs seen (Ok x) reading = reading ≡ Ok (seen x)
GivesAs seen (Err e) reading = IsStop e reading

abbrev pub Gives : {A : Type 0} → Result A Stop → Result A Refusal → Type 0
Gives result reading = GivesAs (λ x. x) result reading
