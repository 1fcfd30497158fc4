-- The watches of keys where one of them is changed.
use Rattle.std.proofs.Common.{◌≡◌, ℕ, Bool, true, false, List, [], ◌∷◌, ◌++◌, Option, Some, None, refl, sym, ◌∙◌, ap, subst}
use Rattle.std.specs.Prelude.{IsSome, unwrap_or}
use Rattle.std.specs.BTreeMap.{is_at}
use Rattle.edge_kit.specs.declared.bytes.PubKey.{PubKey}
use Rattle.record_join.specs.Keys.{key_cmp, kept_of, with_key, with_kept}
use Rattle.record_join.specs.KeyLaws.{changed, kept_apart, kept_here, same_key, at_itself}
use Rattle.doppel_watch.specs.Watching.{Stands, Telling, watch_state}
use Rattle.doppel_watch.specs.declared.watch.Watch.{Watch}
use Rattle.doppel_watch.specs.declared.watch.WatchState.{WatchState}
use Rattle.doppel_watch.specs.declared.watch.WatchState.TheVariants.{Allowed}
use Rattle.record_replay.specs.Watches.{Watched, fresh_watch, told_more}
use Rattle.desk_machine.specs.Watches.{IsOneWatch, IsOwnWatch, KeptWatches, Watching, WatchesStand, fresh_watching, standing_of, standing_under, watch_of, with_begun, with_told}

-- ---- how a watch stands

pub off_standing : (on : Bool) (x : Watched) → on ≡ false → Allowed ≡ standing_under on x
off_standing on x off = rw off refl

pub on_standing : (on : Bool) (x : Watched) (r : WatchState) → on ≡ true → r ≡ watch_state x.start x.told → r ≡ standing_under on x
on_standing on x r is e = rw is e

pub kept_watch : (opened : ℕ) (o : Option Watch) (watch : Watch) (x : Watched) → o ≡ Some watch → IsOneWatch opened o x → Stands watch x.start x.told
kept_watch opened o watch x e own = let P : Option Watch → Type 0 = λ p. IsOneWatch opened p x in subst P e own

pub no_watch : (opened : ℕ) (o : Option Watch) (x : Watched) → o ≡ None → IsOneWatch opened o x → x ≡ fresh_watch opened
no_watch opened o x e own = let P : Option Watch → Type 0 = λ p. IsOneWatch opened p x in subst P e own

pub by_fresh : (opened : ℕ) (r : WatchState) (x : Watched) → r ≡ watch_state opened [] → x ≡ fresh_watch opened → r ≡ watch_state x.start x.told
by_fresh opened r x e is = let P : Watched → Type 0 = λ y. r ≡ watch_state y.start y.told in subst P (sym is) e

pub standing_at : (k : KeptWatches) (key : PubKey) (r : WatchState) → ((x : Watched) → IsOwnWatch k key x → r ≡ standing_under k.on x) → (w : Watching) → WatchesStand k w → r ≡ standing_of w key
standing_at k key r own w s = own (watch_of w key) (s.each key) ∙ ap (λ b. standing_under b (watch_of w key)) s.on

-- ---- one key's watch is another, and each other key's is the same

pub one_changed : (k new : KeptWatches) (w v : Watching) (key : PubKey) → new.on ≡ v.on → new.opened ≡ v.opened → new.opened ≡ k.opened → WatchesStand k w
    → IsOwnWatch new key (watch_of v key) → ((q : PubKey) → is_at (key_cmp key) q ≡ false → kept_of new.kept q ≡ kept_of k.kept q) → ((q : PubKey) → is_at (key_cmp key) q ≡ false → watch_of v q ≡ watch_of w q)
    → WatchesStand new v
one_changed k new w v key on opened same s here kept watched = record {
  on = on;
  opened = opened;
  each = λ q. at q (is_at (key_cmp key) q) refl;
} where
  at : (q : PubKey) (b : Bool) → is_at (key_cmp key) q ≡ b → IsOwnWatch new q (watch_of v q)
  at q true is = let P : PubKey → Type 0 = λ x. IsOwnWatch new x (watch_of v x) in subst P (same_key key q is) here
  at q false is =
      let O : ℕ → Type 0 = λ n. IsOneWatch n (kept_of k.kept q) (watch_of w q) in
      let K : Option Watch → Type 0 = λ o. IsOneWatch new.opened o (watch_of w q) in
      let W : Watched → Type 0 = λ x. IsOneWatch new.opened (kept_of new.kept q) x in
      subst W (sym (watched q is)) (subst K (sym (kept q is)) (subst O (sym same) (s.each q)))

-- the same watch of each other key
watch_apart : (w : Watching) (key q : PubKey) (x : Watched) → is_at (key_cmp key) q ≡ false → watch_of (record { on = w.on; opened = w.opened; kept = with_key w.kept key x }) q ≡ watch_of w q
watch_apart w key q x apart = ap (λ o. unwrap_or o (fresh_watch w.opened)) (kept_apart w.kept key q x apart)

watch_here : (w : Watching) (key : PubKey) (x : Watched) → watch_of (record { on = w.on; opened = w.opened; kept = with_key w.kept key x }) key ≡ x
watch_here w key x = ap (λ o. unwrap_or o (fresh_watch w.opened)) (kept_here w.kept key x)

-- room is made for a key of which nothing is kept
pub reserved : (k new : KeptWatches) (key : PubKey) (watch : Watch) → kept_of k.kept key ≡ None → Stands watch k.opened [] → new ≡ record { on = k.on; opened = k.opened; kept = with_key k.kept key watch }
    → (w : Watching) → WatchesStand k w → WatchesStand new w
reserved k new key watch none stands is w s =
    let made : KeptWatches = record { on = k.on; opened = k.opened; kept = with_key k.kept key watch } in
    let P : KeptWatches → Type 0 = λ n. WatchesStand n w in
    let O : Option Watch → Type 0 = λ o. IsOneWatch k.opened o (watch_of w key) in
    let W : Watched → Type 0 = λ x. Stands watch x.start x.told in
    subst P (sym is) (one_changed k made w w key s.on s.opened refl s
    (subst O (sym (kept_here k.kept key watch)) (subst W (sym (no_watch k.opened _ (watch_of w key) none (s.each key))) stands))
    (λ q apart. kept_apart k.kept key q watch apart) (λ q apart. refl))

-- the watch that is kept of a key is another
kept_changed : (k : KeptWatches) (key q : PubKey) (watch : Watch) → IsSome (kept_of k.kept key) → is_at (key_cmp key) q ≡ false → kept_of (with_kept k.kept key watch) q ≡ kept_of k.kept q
kept_changed k key q watch some apart = changed k.kept key q watch some ∙ (rw apart refl)

changed_here : (k : KeptWatches) (key : PubKey) (watch : Watch) → IsSome (kept_of k.kept key) → kept_of (with_kept k.kept key watch) key ≡ Some watch
changed_here k key watch some = changed k.kept key key watch some ∙ (rw (at_itself key) refl)

watch_set : (k new : KeptWatches) (key : PubKey) (watch : Watch) (w : Watching) (x : Watched) → IsSome (kept_of k.kept key) → Stands watch x.start x.told
    → new ≡ record { on = k.on; opened = k.opened; kept = with_kept k.kept key watch } → WatchesStand k w → WatchesStand new (record { on = w.on; opened = w.opened; kept = with_key w.kept key x })
watch_set k new key watch w x some stands is s =
    let made : KeptWatches = record { on = k.on; opened = k.opened; kept = with_kept k.kept key watch } in
    let v : Watching = record { on = w.on; opened = w.opened; kept = with_key w.kept key x } in
    let P : KeptWatches → Type 0 = λ n. WatchesStand n v in
    let O : Option Watch → Type 0 = λ o. IsOneWatch k.opened o (watch_of v key) in
    let W : Watched → Type 0 = λ y. Stands watch y.start y.told in
    subst P (sym is) (one_changed k made w v key s.on s.opened refl s (subst O (sym (changed_here k key watch some)) (subst W (sym (watch_here w key x)) stands))
    (λ q apart. kept_changed k key q watch some apart) (λ q apart. watch_apart w key q x apart))

pub begun : (k new : KeptWatches) (key : PubKey) (watch : Watch) (now : ℕ) → IsSome (kept_of k.kept key) → Stands watch now [] → new ≡ record { on = k.on; opened = k.opened; kept = with_kept k.kept key watch }
    → (w : Watching) → WatchesStand k w → WatchesStand new (with_begun w key now)
begun k new key watch now some stands is w s = watch_set k new key watch w (fresh_watch now) some stands is s

pub told : (k new : KeptWatches) (key : PubKey) (before watch : Watch) (telling : Telling) → kept_of k.kept key ≡ Some before → ((s : ℕ) (ts : List Telling) → Stands before s ts → Stands watch s (ts ++ telling ∷ []))
    → new ≡ record { on = k.on; opened = k.opened; kept = with_kept k.kept key watch } → (w : Watching) → WatchesStand k w → WatchesStand new (with_told w key telling)
told k new key before watch telling found answers is w s =
    let x = watch_of w key in
    watch_set k new key watch w (told_more x telling) (rw found refl) (answers x.start x.told (kept_watch k.opened (kept_of k.kept key) before x found (s.each key))) is s

pub some_found : {X : Type 0} (o : Option X) (x : X) → o ≡ Some x → IsSome o
some_found o x e = rw e refl

-- nothing is kept yet
pub new_stands : (on : Bool) (opened : ℕ) (kept : List (PubKey × Watch)) → kept ≡ [] → WatchesStand (record { on = on; opened = opened; kept = kept }) (fresh_watching on opened)
new_stands on opened kept none =
    let P : List (PubKey × Watch) → Type 0 = λ l. WatchesStand (record { on = on; opened = opened; kept = l }) (fresh_watching on opened) in
    subst P (sym none) (record { on = refl; opened = refl; each = λ key. refl })
