-- What one more telling makes of a watch and of its state.
use Rattle.std.proofs.Common.{◌≡◌, ◌↔◌, ◌≢◌, if◌then◌else◌, ◌≤◌, ◌⊎◌, inl, inr, ℕ, ◌+◌, ◌==◌, ◌||◌, ◌&&◌, not, nat_lt, max, Bool, true, false, List, [], ◌∷◌, ◌++◌, refl, sym, ap, ◌∙◌, arith}
use Rattle.std.proofs.lemmas.Bool.{cases_Bool, or_left}
use Rattle.std.proofs.lemmas.List.Folds.{list_any-append}
use Rattle.doppel_watch.specs.Notes.{liveness}
use Rattle.doppel_watch.specs.Watching.{Telling, IsNoted, IsSeenSilent, by_missing, latest, was_live, was_absent, watch_state}
use Rattle.doppel_watch.specs.declared.liveness.Liveness.{Liveness}
use Rattle.doppel_watch.specs.declared.watch.Watch.{Watch}
use Rattle.doppel_watch.specs.declared.watch.WatchState.TheVariants as state
use Rattle.doppel_watch.proofs.TellingLemmas.{latest-push, was_live-push, was_live-push_other, was_live-push_not, was_absent-push, was_absent-push_other, was_absent-push_early}

-- what is noted of an epoch
abbrev noted : ℕ → ℕ → List Telling → Liveness
noted s e ts = liveness (was_live e ts) (was_absent s e ts)

noted-push_other : (s e : ℕ) (ts : List Telling) (t : Telling) → t.epoch ≢ e → noted s e (ts ++ t ∷ []) ≡ noted s e ts
noted-push_other s e ts t other = let live = was_live-push_other e ts t other in let absent = was_absent-push_other s e ts t other in cc

-- what a note becomes after an answer at a moment
abbrev pub Notes : Liveness → Liveness → Telling → ℕ → Type 0
Notes old new t moment = (was_live was_absent : Bool) → old ≡ liveness was_live was_absent
    → new ≡ liveness (was_live || t.live) (was_absent || (not t.live && nat_lt t.epoch moment))

noted-push : (s e : ℕ) (ts : List Telling) (t : Telling) (old new : Liveness) (moment : ℕ) → t.epoch ≡ e → moment ≡ max (latest s ts) t.moment
    → old ≡ noted s e ts → Notes old new t moment → new ≡ noted s e (ts ++ t ∷ [])
noted-push s e ts t old new moment is seen was notes =
    let live = was_live-push e ts t is in
    let absent = was_absent-push s e ts t is in
    let after = notes (was_live e ts) (was_absent s e ts) was in
    cc

pub IsNoted-first : (old new : Watch) (s : ℕ) (ts : List Telling) (t : Telling) → IsNoted old s ts → t.epoch ≡ old.start + 1
    → new.start ≡ old.start → new.latest ≡ max old.latest t.moment → Notes old.first new.first t new.latest → new.second ≡ old.second → IsNoted new s (ts ++ t ∷ [])
IsNoted-first old new s ts t stands is same_start seen notes same = record {
  begun = same_start ∙ stands.begun;
  seen = seen ∙ ap (λ m. max m t.moment) stands.seen ∙ sym (latest-push s ts t);
  first = noted-push s (s + 1) ts t old.first new.first new.latest (omega (arith, stands.begun)) (seen ∙ ap (λ m. max m t.moment) stands.seen) stands.first notes;
  second = same ∙ stands.second ∙ sym (noted-push_other s (s + 2) ts t (omega (arith, stands.begun)));
}

pub IsNoted-second : (old new : Watch) (s : ℕ) (ts : List Telling) (t : Telling) → IsNoted old s ts → t.epoch ≡ old.start + 2
    → new.start ≡ old.start → new.latest ≡ max old.latest t.moment → new.first ≡ old.first → Notes old.second new.second t new.latest → IsNoted new s (ts ++ t ∷ [])
IsNoted-second old new s ts t stands is same_start seen same notes = record {
  begun = same_start ∙ stands.begun;
  seen = seen ∙ ap (λ m. max m t.moment) stands.seen ∙ sym (latest-push s ts t);
  first = same ∙ stands.first ∙ sym (noted-push_other s (s + 1) ts t (omega (arith, stands.begun)));
  second = noted-push s (s + 2) ts t old.second new.second new.latest (omega (arith, stands.begun)) (seen ∙ ap (λ m. max m t.moment) stands.seen) stands.second notes;
}

pub IsNoted-neither : (old new : Watch) (s : ℕ) (ts : List Telling) (t : Telling) → IsNoted old s ts → t.epoch ≢ old.start + 1 → t.epoch ≢ old.start + 2
    → new.start ≡ old.start → new.latest ≡ max old.latest t.moment → new.first ≡ old.first → new.second ≡ old.second → IsNoted new s (ts ++ t ∷ [])
IsNoted-neither old new s ts t stands not_first not_second same_start seen first second = record {
  begun = same_start ∙ stands.begun;
  seen = seen ∙ ap (λ m. max m t.moment) stands.seen ∙ sym (latest-push s ts t);
  first = first ∙ stands.first ∙ sym (noted-push_other s (s + 1) ts t (omega (arith, stands.begun)));
  second = second ∙ stands.second ∙ sym (noted-push_other s (s + 2) ts t (omega (arith, stands.begun)));
}

-- the state goes by what counts of the two epochs
same_state : (s : ℕ) (ts us : List Telling)
    → was_live (s + 1) us ≡ was_live (s + 1) ts → was_absent s (s + 1) us ≡ was_absent s (s + 1) ts
    → was_live (s + 2) us ≡ was_live (s + 2) ts → was_absent s (s + 2) us ≡ was_absent s (s + 2) ts
    → watch_state s us ≡ watch_state s ts
same_state s ts us a b c d = cc

pub state_not_watched : (s : ℕ) (ts : List Telling) (t : Telling) → t.epoch ≢ s + 1 → t.epoch ≢ s + 2 → watch_state s (ts ++ t ∷ []) ≡ watch_state s ts
state_not_watched s ts t not_first not_second =
    same_state s ts (ts ++ t ∷ [])
    (was_live-push_other (s + 1) ts t not_first) (was_absent-push_other s (s + 1) ts t not_first)
    (was_live-push_other (s + 2) ts t not_second) (was_absent-push_other s (s + 2) ts t not_second)

pub state_not_over : (s : ℕ) (ts : List Telling) (t : Telling) → t.live ≡ false → latest s (ts ++ t ∷ []) ≤ t.epoch → watch_state s (ts ++ t ∷ []) ≡ watch_state s ts
state_not_over s ts t absent early =
    let within : max (latest s ts) t.moment ≤ t.epoch = omega (arith, latest-push s ts t) in
    same_state s ts (ts ++ t ∷ [])
    (was_live-push_not (s + 1) ts t absent) (was_absent-push_early s (s + 1) ts t within)
    (was_live-push_not (s + 2) ts t absent) (was_absent-push_early s (s + 2) ts t within)

-- once live, always so
was_live-append : (e : ℕ) (ts later : List Telling) → was_live e ts ≡ true → was_live e (ts ++ later) ≡ true
was_live-append e ts later live = list_any-append (λ t. t.live && t.epoch == e) ts later ∙ or_left (was_live e ts) (was_live e later) live

pub state_first : (s : ℕ) (ts later : List Telling) → was_live (s + 1) ts ≡ true → watch_state s (ts ++ later) ≡ state.Live (s + 1)
state_first s ts later live = let still = was_live-append (s + 1) ts later live in rw still refl

pub state_second : (s : ℕ) (ts later : List Telling) → was_live (s + 2) ts ≡ true
    → (watch_state s (ts ++ later) ≡ state.Live (s + 1)) ⊎ (watch_state s (ts ++ later) ≡ state.Live (s + 2))
state_second s ts later live = let still = was_live-append (s + 2) ts later live in
    elim (cases_Bool (was_live (s + 1) (ts ++ later))) [
      | inl first ↦ inl (rw first refl)
      | inr none ↦ inr (rw none (rw still refl))
    ]

-- ---- allowed

allowed_silent : (a b c d : Bool) (e f : ℕ) → (if a then state.Live e else (if b then state.Live f else by_missing ((if c then [] else e ∷ []) ++ (if d then [] else f ∷ [])))) ≡ state.Allowed → (a ≡ false) × (b ≡ false) × (c ≡ true) × (d ≡ true)
allowed_silent true b c d e f h = absurd (cc)
allowed_silent false true c d e f h = absurd (cc)
allowed_silent false false true true e f h = (refl, refl, refl, refl)
allowed_silent false false true false e f h = absurd (cc)
allowed_silent false false false true e f h = absurd (cc)
allowed_silent false false false false e f h = absurd (cc)

pub state_allowed : (s : ℕ) (ts : List Telling) → (watch_state s ts ≡ state.Allowed) ↔ IsSeenSilent s ts
state_allowed s ts = (to, from) where
  to : watch_state s ts ≡ state.Allowed → IsSeenSilent s ts
  to h =
      let parts = allowed_silent (was_live (s + 1) ts) (was_live (s + 2) ts) (was_absent s (s + 1) ts) (was_absent s (s + 2) ts) (s + 1) (s + 2) h in
      record { first_not_live = parts.0; second_not_live = parts.1; first_absent = parts.2; second_absent = parts.3 }

  from : IsSeenSilent s ts → watch_state s ts ≡ state.Allowed
  from silent = rw (silent.first_not_live, silent.second_not_live, silent.first_absent, silent.second_absent)
