-- What an object in memory keeps of its calls, and what a call makes of that.
use Rattle.std.specs.Prelude.{◌≡◌, ◌≤◌, ℕ, ◌==◌, Bool, List, Result, Ok, Err}
use Rattle.std.specs.List.{list_any}
use Rattle.edge_kit.specs.declared.calls.Calls.{Calls}
use Rattle.edge_kit.specs.Causes.{next_count, HasCause}

-- no call has come, none has failed, and these are to fail
pub record AreNew (calls : Calls) (to_fail : List ℕ) : Type 0 where
  pub count : calls.count ≡ 0
  pub failing : calls.failing.items ≡ to_fail
  pub faults : calls.faults ≡ 0

-- the next call is in the list of those that are to fail
abbrev pub fails_next : Calls → Bool
fails_next calls = list_any (λ k. k == calls.count) calls.failing.items

-- the count of faults after a call of this result: one more at an `Err`, and else the same
abbrev pub faults_after : {T E : Type 0} → Result T E → ℕ → ℕ
faults_after (Ok x) faults = faults
faults_after (Err e) faults = next_count faults

-- a call is counted, and nothing else
pub record IsBegun (old new : Calls) : Type 0 where
  pub count : new.count ≡ next_count old.count
  pub failing : new.failing.items ≡ old.failing.items
  pub faults : new.faults ≡ old.faults

-- a failure is counted, and nothing else
pub record IsFailed (old new : Calls) : Type 0 where
  pub count : new.count ≡ old.count
  pub failing : new.failing.items ≡ old.failing.items
  pub faults : new.faults ≡ next_count old.faults
  pub later : old.faults ≤ new.faults

-- one call of this result has come, and the list of those that are to fail stays
pub record IsCounted {T E : Type 0} (old new : Calls) (result : Result T E) : Type 0 where
  pub count : new.count ≡ next_count old.count
  pub failing : new.failing.items ≡ old.failing.items
  pub faults : new.faults ≡ faults_after result old.faults
  pub cause : HasCause old.faults new.faults result
