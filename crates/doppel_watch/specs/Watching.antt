-- The watch of a key before it may sign, by all that was told of the key.
use Rattle.std.specs.Prelude.{◌≡◌, ℕ, suc, ◌+◌, ◌==◌, ◌&&◌, not, nat_lt, max, Bool, true, false, List, [], ◌∷◌, ◌++◌, take, map, Option, Some, None, if◌then◌else◌}
use Rattle.std.specs.List.{list_any}
use Rattle.doppel_watch.specs.Notes.{liveness}
use Rattle.doppel_watch.specs.declared.kept.KeptAnswer.{KeptAnswer}
use Rattle.doppel_watch.specs.declared.kept.KeptAnswers.{KeptAnswers}
use Rattle.doppel_watch.specs.declared.watch.Watch.{Watch}
use Rattle.doppel_watch.specs.declared.watch.WatchState.{WatchState}
use Rattle.doppel_watch.specs.declared.watch.WatchState.TheVariants.{Allowed, Missing, Live}

-- what was told of a key: whether it was live in an epoch, and the moment (an epoch) at which it was told
pub record Telling : Type 0 where
  pub epoch : ℕ
  pub live : Bool
  pub moment : ℕ

-- the latest moment that was seen
abbrev pub latest : ℕ → List Telling → ℕ
latest start [] = start
latest start (t ∷ ts) = latest (max start t.moment) ts

-- each with its moment as it counts: the greatest of the start and the moments up to it
abbrev pub counted : ℕ → List Telling → List Telling
counted start [] = []
counted start (t ∷ ts) = record t { moment = max start t.moment } ∷ counted (max start t.moment) ts

-- the key was told live in this epoch, at whatever moment
abbrev pub was_live : ℕ → List Telling → Bool
was_live epoch ts = list_any (λ t. t.live && t.epoch == epoch) ts

-- the key was told not live in this epoch, once it was over
abbrev pub was_absent : ℕ → ℕ → List Telling → Bool
was_absent start epoch ts = list_any (λ t. not t.live && t.epoch == epoch && nat_lt epoch t.moment) (counted start ts)

-- this epoch, where neither answer counted
abbrev pub missing : ℕ → ℕ → List Telling → List ℕ
missing start epoch ts = if was_absent start epoch ts then [] else epoch ∷ []

abbrev pub by_missing : List ℕ → WatchState
by_missing [] = Allowed
by_missing (e ∷ []) = Missing e None
by_missing (e ∷ (f ∷ _)) = Missing e (Some f)

-- how the watch of a key stands that became active at `start`: the epochs start + 1 and start + 2 are watched
abbrev pub watch_state : ℕ → List Telling → WatchState
watch_state start ts =
    if was_live (start + 1) ts
    then Live (start + 1)
    else (if was_live (start + 2) ts
    then Live (start + 2)
    else by_missing (missing start (start + 1) ts ++ missing start (start + 2) ts))

-- the key was told live in neither watched epoch, and not live in each once it was over
pub record IsSeenSilent (start : ℕ) (ts : List Telling) : Type 0 where
  pub first_not_live : was_live (start + 1) ts ≡ false
  pub second_not_live : was_live (start + 2) ts ≡ false
  pub first_absent : was_absent start (start + 1) ts ≡ true
  pub second_absent : was_absent start (start + 2) ts ≡ true

-- whether two states are the same
abbrev pub same_epoch : Option ℕ → Option ℕ → Bool
same_epoch None None = true
same_epoch None (Some f) = false
same_epoch (Some e) None = false
same_epoch (Some e) (Some f) = e == f

abbrev pub is_same : WatchState → WatchState → Bool
is_same Allowed Allowed = true
is_same Allowed (Missing f g) = false
is_same Allowed (Live f) = false
is_same (Missing e d) Allowed = false
is_same (Missing e d) (Missing f g) = e == f && same_epoch d g
is_same (Missing e d) (Live f) = false
is_same (Live e) Allowed = false
is_same (Live e) (Missing f g) = false
is_same (Live e) (Live f) = e == f

-- the telling at this place changed the state of the watch
abbrev pub has_changed : ℕ → List Telling → ℕ → Bool
has_changed start ts i = not (is_same (watch_state start (take i ts)) (watch_state start (take (suc i) ts)))

-- those tellings of a list at whose place this holds
abbrev pub picked : (ℕ → Bool) → List Telling → List Telling
picked holds [] = []
picked holds (t ∷ ts) = if holds 0 then t ∷ picked (λ i. holds (suc i)) ts else picked (λ i. holds (suc i)) ts

-- the tellings that changed the state of the watch, each with its moment as it counts
abbrev pub kept : ℕ → List Telling → List Telling
kept start ts = picked (has_changed start ts) (counted start ts)

-- an answer that is kept, and several, as what was told
abbrev pub telling_of : KeptAnswer → Telling
telling_of answer = record { epoch = answer.epoch; live = answer.live; moment = answer.moment }

abbrev pub tellings_of : KeptAnswers → List Telling
tellings_of answers = map telling_of (take answers.count answers.answers)

-- what a watch notes of what was told since it began at `start`: the start, the latest moment, and what counts of each
-- watched epoch
pub record IsNoted (watch : Watch) (start : ℕ) (ts : List Telling) : Type 0 where
  pub begun : watch.start ≡ start
  pub seen : watch.latest ≡ latest start ts
  pub first : watch.first ≡ liveness (was_live (start + 1) ts) (was_absent start (start + 1) ts)
  pub second : watch.second ≡ liveness (was_live (start + 2) ts) (was_absent start (start + 2) ts)

-- a watch stands for what was told since it began at `start`: it notes that, and keeps what changed its state
pub record Stands (watch : Watch) (start : ℕ) (ts : List Telling) : Type 0 where
  pub noted : IsNoted watch start ts
  pub remembered : tellings_of watch.kept ≡ kept start ts
