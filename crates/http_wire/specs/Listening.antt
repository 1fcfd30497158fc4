-- What a call that only listens leaves of a link.
use Rattle.std.specs.Prelude.{ℕ, ◌<◌, ◌≤◌, List, Option, length, take}
use Rattle.std.specs.Io.KnownBytes.{Appends}
use Rattle.edge_kit.specs.Links.{Stays}

-- nothing was sent and no connection begun, and the count of faults has not fallen
pub record OnlyListens (held_before held_now : Option (List ℕ)) (coming_before coming_now : Option (List (List ℕ))) (faults_before faults_now : ℕ) : Type 0 where
  pub held : Stays held_before held_now
  pub coming : Stays coming_before coming_now
  pub later : faults_before ≤ faults_now

-- no byte was read and no connection begun, and the count of faults has not fallen
pub record OnlySpeaks (left_before left_now : Option (List ℕ)) (coming_before coming_now : Option (List (List ℕ))) (faults_before faults_now : ℕ) : Type 0 where
  pub left : Stays left_before left_now
  pub coming : Stays coming_before coming_now
  pub later : faults_before ≤ faults_now

-- a front of the text was sent, and not all of it
abbrev pub AppendsFront : Option (List ℕ) → Option (List ℕ) → List ℕ → Type 0
AppendsFront held_before held_now text = (n : ℕ) × (n < length text) × Appends held_before held_now (take n text)
