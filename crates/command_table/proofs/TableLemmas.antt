-- What a shape says of its command.
use Rattle.std.proofs.Common.{◌≡◌, Bool, true, false, not, ◌&&◌, refl}

-- of tests that hold together, the third holds
pub third_holds : (a b g rest : Bool) → (a && (b && (not g && rest))) ≡ true → g ≡ false
third_holds true true false rest e = refl
third_holds true true true rest e = absurd (cc)
third_holds true false g rest e = absurd (cc)
third_holds false b g rest e = absurd (cc)
