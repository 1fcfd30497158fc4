-- Steps of reading that may be refused.
use Rattle.std.specs.Prelude.{◌≡◌, List, [], ◌∷◌, Result, Ok, Err}
use Rattle.serde_json.specs.Data.{Data, Items, no_items, item}
use Rattle.interchange_io.specs.declared.fault.ReadFault.{ReadFault}
use Rattle.interchange_io.specs.declared.fault.Stop.{Stop}
use Rattle.interchange_io.specs.declared.fault.Stop.TheVariants as stop

-- the next reading, where this one gave a value
infixl 10 ◌>>=◌
abbrev pub ◌>>=◌ : {A B : Type 0} → Result A ReadFault → (A → Result B ReadFault) → Result B ReadFault
(Ok x) >>= f = f x
(Err e) >>= f = Err e

-- each element of an array, up to the first that is refused
abbrev pub each : {A : Type 0} → (Data → Result A ReadFault) → Items → Result (List A) ReadFault
each f no_items = Ok []
each f (item d ds) = do
  x ← f d
  xs ← each f ds
  Ok (x ∷ xs)

-- a stop for want of memory says nothing, and a refusal is the reading's own
abbrev pub IsRefusal : {A : Type 0} → Stop → Result A ReadFault → Type 0
IsRefusal stop.Memory reading = Unit {0}
IsRefusal (stop.Fault fault) reading = reading ≡ Err fault

-- what a function gives is what the reading gives, unless memory ran out
abbrev pub Gives : {A : Type 0} → Result A Stop → Result A ReadFault → Type 0
Gives (Ok x) reading = reading ≡ Ok x
Gives (Err e) reading = IsRefusal e reading
