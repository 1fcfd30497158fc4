-- Where a value stands, and the fault of one that has no reading there.
use Rattle.std.specs.Prelude.{Option, Some, None, Result, Ok, Err}
use Rattle.phase0_types.specs.declared.member.Member.{Member}
use Rattle.phase0_types.specs.declared.fault.ReadFault.{ReadFault}
use Rattle.phase0_types.specs.declared.fault.ReadFault.TheVariants as fault

-- at a member, the fault names it; a document of its own is no JSON of that shape
abbrev pub fault_at : (Member → ReadFault) → Option Member → ReadFault
fault_at of_member None = fault.Json
fault_at of_member (Some member) = of_member member

-- the next reading, where this one gave a value
infixl 10 ◌>>=◌
abbrev pub ◌>>=◌ : {A B : Type 0} → Result A ReadFault → (A → Result B ReadFault) → Result B ReadFault
(Ok x) >>= f = f x
(Err e) >>= f = Err e

-- what a value that was read stands for
abbrev pub read_as : {A B : Type 0} → (A → B) → Result A ReadFault → Result B ReadFault
read_as value (Ok x) = Ok (value x)
read_as value (Err e) = Err e
