-- Watches that stand for others, where one of them begins, is told more or ends.
use Rattle.std.proofs.Common.{◌≡◌, ℕ, Bool, true, false, cond, List, [], ◌∷◌, ◌++◌, Some, None, Option, refl, sym, ◌∙◌, ap, subst}
use Rattle.std.specs.BTreeMap.{is_at}
use Rattle.std.specs.Map.{remove_entry}
use Rattle.std.specs.List.{AllByRecursion}
use Rattle.std.specs.Ordering.{match_ordering}
use Rattle.std.specs.declared.cmp.Ordering.{Ordering}
use Rattle.std.specs.declared.cmp.Ordering.TheVariants.{Less, Equal, Greater}
use Rattle.edge_kit.specs.declared.bytes.PubKey.{PubKey}
use Rattle.doppel_watch.specs.Watching.{Stands, Telling}
use Rattle.doppel_watch.specs.declared.watch.Watch.{Watch}
use Rattle.record_codec.specs.Spelling.{Fits, MomentFits}
use Rattle.record_codec.specs.declared.item.JournalItem.{JournalItem}
use Rattle.record_codec.specs.declared.item.JournalItem.TheVariants as item
use Rattle.record_join.specs.Keys.{key_cmp, kept_of, with_key, with_kept, EachKey}
use Rattle.record_join.specs.EachKeyLaws.{each_found, each_none}
use Rattle.record_replay.specs.Watches.{AreWatchesOf, IsWatchOf, Watched, fresh_watch, told_more, with_telling, with_telling_at, without_watch}

-- ---- things that fit at each key

pub each_put : {X Y : Type 0} (R : X → Y → Type 0) (xs : List (PubKey × X)) (ys : List (PubKey × Y)) (k : PubKey) (x : X) (y : Y) → EachKey R xs ys → R x y → EachKey R (with_key xs k x) (with_key ys k y)
each_put R [] [] k x y each fits = (refl, fits, tt)
each_put R [] (b ∷ bs) k x y each fits = absurd each
each_put R (a ∷ more) [] k x y each fits = absurd each
each_put {X} {Y} R (a ∷ more) (b ∷ bs) k x y each fits = at (key_cmp k a.0) (key_cmp k b.0) (ap (λ q. key_cmp k q) each.0) (each_put R more bs k x y each.2 fits) where
  at : (o p : Ordering) → o ≡ p → EachKey R (with_key more k x) (with_key bs k y)
      → EachKey R (match_ordering o ((k, x) ∷ a ∷ more) ((a.0, x) ∷ more) (a ∷ with_key more k x)) (match_ordering p ((k, y) ∷ b ∷ bs) ((b.0, y) ∷ bs) (b ∷ with_key bs k y))
  at Less Less same rest = (refl, fits, each)
  at Equal Equal same rest = (each.0, fits, each.2)
  at Greater Greater same rest = (each.0, each.1, rest)
  at Less Equal same rest = absurd (cc)
  at Less Greater same rest = absurd (cc)
  at Equal Less same rest = absurd (cc)
  at Equal Greater same rest = absurd (cc)
  at Greater Less same rest = absurd (cc)
  at Greater Equal same rest = absurd (cc)

pub each_set : {X Y : Type 0} (R : X → Y → Type 0) (xs : List (PubKey × X)) (ys : List (PubKey × Y)) (k : PubKey) (x : X) (y : Y) → EachKey R xs ys → R x y → EachKey R (with_kept xs k x) (with_kept ys k y)
each_set R [] [] k x y each fits = tt
each_set R [] (b ∷ bs) k x y each fits = absurd each
each_set R (a ∷ more) [] k x y each fits = absurd each
each_set {X} {Y} R (a ∷ more) (b ∷ bs) k x y each fits = at (is_at (key_cmp k) a.0) (is_at (key_cmp k) b.0) (ap (λ q. is_at (key_cmp k) q) each.0) (each_set R more bs k x y each.2 fits) where
  at : (t u : Bool) → t ≡ u → EachKey R (with_kept more k x) (with_kept bs k y)
      → EachKey R (cond t ((a.0, x) ∷ more) (a ∷ with_kept more k x)) (cond u ((b.0, y) ∷ bs) (b ∷ with_kept bs k y))
  at true true same rest = (each.0, fits, each.2)
  at false false same rest = (each.0, each.1, rest)
  at true false same rest = absurd (cc)
  at false true same rest = absurd (cc)

pub each_removed : {X Y : Type 0} (R : X → Y → Type 0) (xs : List (PubKey × X)) (ys : List (PubKey × Y)) (k : PubKey) → EachKey R xs ys → EachKey R (remove_entry (is_at (key_cmp k)) xs) (remove_entry (is_at (key_cmp k)) ys)
each_removed R [] [] k each = tt
each_removed R [] (b ∷ bs) k each = absurd each
each_removed R (a ∷ more) [] k each = absurd each
each_removed {X} {Y} R (a ∷ more) (b ∷ bs) k each = at (is_at (key_cmp k) a.0) (is_at (key_cmp k) b.0) (ap (λ q. is_at (key_cmp k) q) each.0) (each_removed R more bs k each.2) where
  at : (t u : Bool) → t ≡ u → EachKey R (remove_entry (is_at (key_cmp k)) more) (remove_entry (is_at (key_cmp k)) bs)
      → EachKey R (cond t more (a ∷ remove_entry (is_at (key_cmp k)) more)) (cond u bs (b ∷ remove_entry (is_at (key_cmp k)) bs))
  at true true same rest = each.2
  at false false same rest = (each.0, each.1, rest)
  at true false same rest = absurd (cc)
  at false true same rest = absurd (cc)

-- ---- watches

pub begun : (old new : List (PubKey × Watch)) (key : PubKey) (epoch : ℕ) (watch : Watch) → new ≡ with_key old key watch → Stands watch epoch [] → (watched : List (PubKey × Watched)) → AreWatchesOf old watched
    → AreWatchesOf new (with_key watched key (fresh_watch epoch))
begun old new key epoch watch is stands watched each =
    let P : List (PubKey × Watch) → Type 0 = λ l. AreWatchesOf l (with_key watched key (fresh_watch epoch)) in
    subst P (sym is) (each_put IsWatchOf old watched key watch (fresh_watch epoch) each stands)

pub told : (old new : List (PubKey × Watch)) (key : PubKey) (was watch : Watch) (telling : Telling) → kept_of old key ≡ Some was → new ≡ with_kept old key watch
    → ((s : ℕ) (ts : List Telling) → Stands was s ts → IsWatchOf watch (record { start = s; told = ts ++ telling ∷ [] })) → (watched : List (PubKey × Watched)) → AreWatchesOf old watched → AreWatchesOf new (with_telling watched key telling)
told old new key was watch telling found is stands watched each =
    let P : List (PubKey × Watch) → Type 0 = λ l. AreWatchesOf l (with_telling watched key telling) in
    let other = each_found IsWatchOf old watched key was each found in
    let Q : Option Watched → Type 0 = λ o. AreWatchesOf (with_kept old key watch) (with_telling_at watched key telling o) in
    subst P (sym is) (subst Q (sym other.1) (each_set IsWatchOf old watched key watch (told_more other.0 telling) each (stands other.0.start other.0.told other.2)))

pub told_none : (old new : List (PubKey × Watch)) (key : PubKey) (telling : Telling) → kept_of old key ≡ None → new ≡ old → (watched : List (PubKey × Watched)) → AreWatchesOf old watched → AreWatchesOf new (with_telling watched key telling)
told_none old new key telling none is watched each =
    let P : List (PubKey × Watch) → Type 0 = λ l. AreWatchesOf l (with_telling watched key telling) in
    let Q : Option Watched → Type 0 = λ o. AreWatchesOf old (with_telling_at watched key telling o) in
    subst P (sym is) (subst Q (sym (each_none IsWatchOf old watched key each none)) each)

pub ended : (old new : List (PubKey × Watch)) (key : PubKey) → new ≡ remove_entry (is_at (key_cmp key)) old → (watched : List (PubKey × Watched)) → AreWatchesOf old watched → AreWatchesOf new (without_watch watched key)
ended old new key is watched each =
    let P : List (PubKey × Watch) → Type 0 = λ l. AreWatchesOf l (without_watch watched key) in
    subst P (sym is) (each_removed IsWatchOf old watched key each)

-- ---- moments of items that are read

one_fits : (i : JournalItem) → Fits i → MomentFits i
one_fits (item.Block key entry) fits = tt
one_fits (item.Vote key entry) fits = tt
one_fits (item.Floors key block vote) fits = tt
one_fits (item.ActivateUndated key) fits = tt
one_fits (item.Activate key epoch) fits = fits.1
one_fits (item.Answer key epoch live moment) fits = fits.2
one_fits (item.Close key) fits = tt

pub moments_fit : (items : List JournalItem) → AllByRecursion Fits items → AllByRecursion MomentFits items
moments_fit [] fits = tt
moments_fit (i ∷ items) fits = (one_fits i fits.0, moments_fit items fits.1)
