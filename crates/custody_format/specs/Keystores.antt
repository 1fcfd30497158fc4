-- Keystores with their passwords, of two lists.
use Rattle.std.specs.Prelude.{ℕ, ◌==◌, List, length, Option, Some, None, if◌then◌else◌}
use Rattle.key_custody.specs.Plans.{paired}

-- each keystore with the password at its place, where the lists have one length
abbrev pub keystores_of : {A : Type 0} → (A → List ℕ) → List A → List A → Option (List (List ℕ × List ℕ))
keystores_of text keystores passwords = if length keystores == length passwords then Some (paired text keystores passwords) else None
