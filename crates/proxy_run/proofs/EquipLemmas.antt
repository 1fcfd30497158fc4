-- What lanes are made of.
use Rattle.std.proofs.Common.{ℕ, zero, suc, All, List, [], ◌∷◌, map, Option, arith}
use Rattle.signer_link.specs.declared.reply.Told.{Told}
use Rattle.client_calls.specs.Seats.{signer_seen}
use Rattle.serve_run.specs.Ends.{IsTwin}
use Rattle.proxy_run.specs.Ends.{IsMadeOf}

-- other accesses to a signing service, as they are seen
pub twins_of : {S : Type 0} (told : S → Option (List Told)) (faults denials : S → ℕ) (signer : S) (twins : List S) → All (IsMadeOf told faults denials signer) twins
    → All (IsTwin (signer_seen told faults denials signer)) (map (signer_seen told faults denials) twins)
twins_of told faults denials signer [] made k d lt = absurd (omega (arith, lt))
twins_of told faults denials signer (x ∷ xs) made zero d lt = let one = made 0 x (omega arith) in record { told = one.told_is; faults = one.unfailed; denials = one.undenied }
twins_of told faults denials signer (x ∷ xs) made (suc k) d lt = twins_of told faults denials signer xs (λ j e le. made (suc j) e (omega (arith, le))) k d (omega (arith, lt))
