-- Reading that may also stop for want of memory, of which nothing is said.
use Rattle.std.specs.Prelude.{◌≡◌, List, Option, None, Result, Ok, Err}
use Rattle.json.specs.Token.{Token}
use Rattle.json_walk.specs.Walk.{ReadsAs}
use Rattle.interchange_io.specs.declared.halt.Halt.{Halt}
use Rattle.interchange_io.specs.declared.halt.Halt.TheVariants as halt

-- what a stop says
abbrev pub Halts : Halt → Type 0 → Type 0
Halts halt.Memory p = Unit {0}
Halts halt.Json p = p

-- r is what f gives of what was read, and new is what follows it; where nothing can be read the stop says so
abbrev pub ReadsOrHalts : {A R : Type 0} → Result R Halt → (A → R) → Option (A × List Token) → List Token → Type 0
ReadsOrHalts (Ok r) f reading new = ReadsAs r f reading new
ReadsOrHalts (Err e) f reading new = Halts e (reading ≡ None)
