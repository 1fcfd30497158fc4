-- Calls of a desk, one after another.
use Rattle.std.specs.Prelude.{◌≡◌, ◌⊎◌, ℕ, List, [], ◌∷◌}
use Rattle.desk_machine.specs.declared.call.DeskCall.{DeskCall}
use Rattle.desk_machine.specs.declared.call.DeskReply.{DeskReply}
use Rattle.check_sign.specs.Contents.{Seen, disks_in}
use Rattle.check_sign.specs.Crashes.{Moments, NotAfter, now_of}
use Rattle.check_sign.specs.Calls.{IsCallOf}

-- these calls, with these replies, lead from the one desk to the other
abbrev pub Path : {D : Type 0} → (D → ℕ) → (D → ℕ → List ℕ → Type 0) → (D → ℕ) → Seen D → List (DeskCall × DeskReply) → Seen D → Type 0
Path moment leaves faults d [] e = e ≡ d
Path {D} moment leaves faults d (x ∷ xs) e = (m : Seen D) × IsCallOf moment leaves faults d m x.0 x.1 × Path moment leaves faults m xs e

-- the moments of both disks after each of these calls
abbrev pub moments_behind : {D : Type 0} (moment : D → ℕ) (leaves : D → ℕ → List ℕ → Type 0) (faults : D → ℕ) (d : Seen D) (made : List (DeskCall × DeskReply)) (e : Seen D) → Path moment leaves faults d made e → List Moments
moments_behind moment leaves faults d [] e path = []
moments_behind moment leaves faults d (x ∷ xs) e path = now_of moment (disks_in path.0) ∷ moments_behind moment leaves faults path.0 xs e path.2

-- a moment of each disk, both within one of these calls or after the last
abbrev pub IsDuring : {D : Type 0} (moment : D → ℕ) (leaves : D → ℕ → List ℕ → Type 0) (faults : D → ℕ) (d : Seen D) (made : List (DeskCall × DeskReply)) (e : Seen D) → Path moment leaves faults d made e → Moments → Type 0
IsDuring moment leaves faults d [] e path k = NotAfter (now_of moment (disks_in d)) k × NotAfter k (now_of moment (disks_in e))
IsDuring moment leaves faults d (x ∷ xs) e path k = (NotAfter (now_of moment (disks_in d)) k × NotAfter k (now_of moment (disks_in path.0))) ⊎ IsDuring moment leaves faults path.0 xs e path.2 k
