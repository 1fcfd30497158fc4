-- Disks by their meaning: what a read sees, and what a crash at each moment may leave.
use Rattle.std.specs.Prelude.{◌≡◌, ℕ, zero, suc, ◌+◌, ◌-◌, ◌<◌, ◌≤◌, min, max, List, [], ◌∷◌, ◌++◌, length, take, drop, replicate}

-- old with these bytes at the offset: zeros fill a gap behind its end, and no bytes change nothing (POSIX, pwrite)
unfoldable pub overwrite : ℕ → List ℕ → List ℕ → List ℕ
overwrite at [] old = old
overwrite at (b ∷ bytes) old = take at old ++ replicate (at - length old) 0 ++ b ∷ bytes ++ drop (at + length (b ∷ bytes)) old

-- where a write of so many bytes ends: one of none reaches nowhere
unfoldable pub reach : ℕ → ℕ → ℕ
reach at zero = 0
reach at (suc n) = at + suc n

-- what a write of n bytes may leave that isn't synced: any bytes in its range and behind the old end, the same elsewhere
pub record Torn (at n : ℕ) (old new : List ℕ) : Type 0 where
  pub before : (k : ℕ) → k ≤ at → k ≤ length old → take k new ≡ take k old
  pub after : drop (at + n) new ≡ drop (at + n) old
  pub no_shorter : length old ≤ length new
  pub no_longer : length new ≤ max (length old) (reach at n)

-- what a cut to n bytes may leave that isn't synced: some length between, and any bytes behind the new end
pub record Cut (n : ℕ) (old new : List ℕ) : Type 0 where
  pub front : (k : ℕ) → k ≤ n → k ≤ length old → take k new ≡ take k old
  pub no_shorter : min n (length old) ≤ length new
  pub no_longer : length new ≤ length old

-- no change
abbrev pub Same : List ℕ → List ℕ → Type 0
Same old new = new ≡ old

-- the same contents
pub record Alike (old new : List ℕ → Type 0) : Type 0 where
  pub forth : (c : List ℕ) → old c → new c
  pub back : (c : List ℕ) → new c → old c

-- each new outcome is an old outcome after a step
abbrev pub Follows : (List ℕ → List ℕ → Type 0) → (List ℕ → Type 0) → (List ℕ → Type 0) → Type 0
Follows step old new = (c : List ℕ) → new c → (d : List ℕ) × old d × step d c

-- One call: time goes on, what a crash might have left before stays, and what it may leave from now on
-- is what it might have left at the call's beginning, after a step.
pub record Elapses (step : List ℕ → List ℕ → Type 0) (before now : ℕ) (past since : ℕ → List ℕ → Type 0) : Type 0 where
  pub later : before ≤ now
  pub past_stays : (k : ℕ) (c : List ℕ) → k ≤ before → since k c → past k c
  pub steps : (k : ℕ) → before < k → k ≤ now → Follows step (past before) (since k)

-- A crash at any moment since old leaves bytes that have P; and what one before might have left stays.
pub record LeavesOnly {D : Type 0} (moment : D → ℕ) (leaves : D → ℕ → List ℕ → Type 0) (old new : D) (P : List ℕ → Type 0) : Type 0 where
  pub later : moment old ≤ moment new
  pub past_stays : (k : ℕ) (c : List ℕ) → k ≤ moment old → leaves new k c → leaves old k c
  pub each : (k : ℕ) (c : List ℕ) → moment old ≤ k → k ≤ moment new → leaves new k c → P c

-- A crash now leaves bytes that have P, and so does a read see.
pub record Holds {D : Type 0} (shows : D → List ℕ → Type 0) (moment : D → ℕ) (leaves : D → ℕ → List ℕ → Type 0) (disk : D) (P : List ℕ → Type 0) : Type 0 where
  pub seen : (c : List ℕ) → shows disk c → P c
  pub left : (c : List ℕ) → leaves disk (moment disk) c → P c

-- a read at this offset of a buffer gives so many bytes of the content, up to its end
pub record ReadsAt (content : List ℕ) (at : ℕ) (buffer : List ℕ) (n : ℕ) : Type 0 where
  pub count : n ≡ min (length buffer) (length content - at)
  pub bytes : take n buffer ≡ take n (drop at content)
