-- Steps of reading that may stop at a refusal.
use Rattle.std.specs.Prelude.{◌≡◌, Result, Ok, Err}
use Rattle.signing_requests.specs.declared.refusal.SigningRefusal.{SigningRefusal}
use Rattle.signing_requests.specs.declared.refusal.SigningStop.{SigningStop}
use Rattle.signing_requests.specs.declared.refusal.SigningStop.TheVariants as stop

-- the next step, where this one gave a value
infixl 10 ◌>>=◌
abbrev pub ◌>>=◌ : {A B : Type 0} → Result A SigningRefusal → (A → Result B SigningRefusal) → Result B SigningRefusal
(Ok x) >>= f = f x
(Err e) >>= f = Err e

-- want of memory says nothing, and a refusal is the reading's own
abbrev pub IsStop : {A : Type 0} → SigningStop → Result A SigningRefusal → Type 0
IsStop stop.Memory reading = Unit {0}
IsStop (stop.Refused r) reading = reading ≡ Err r

-- what a function gives, seen so, is what the reading gives, unless memory ran out
abbrev pub GivesAs : {V A : Type 0} → (V → A) → Result V SigningStop → Result A SigningRefusal → Type 0
GivesAs seen (Ok x) reading = reading ≡ Ok (seen x)
GivesAs seen (Err e) reading = IsStop e reading

-- the same of a function that takes no memory
abbrev pub ReadsAs : {V A : Type 0} → (V → A) → Result V SigningRefusal → Result A SigningRefusal → Type 0
ReadsAs seen (Ok x) reading = reading ≡ Ok (seen x)
ReadsAs seen (Err e) reading = reading ≡ Err e
