-- The watches of a desk's keys.
use Rattle.std.specs.Prelude.{◌≡◌, ℕ, Bool, List, [], Option, None, Some, unwrap_or, if◌then◌else◌}
use Rattle.edge_kit.specs.declared.bytes.PubKey.{PubKey}
use Rattle.record_join.specs.Keys.{kept_of, with_key}
use Rattle.record_replay.specs.Watches.{Watched, fresh_watch, told_more}
use Rattle.doppel_watch.specs.Watching.{Stands, Telling, watch_state}
use Rattle.doppel_watch.specs.declared.watch.Watch.{Watch}
use Rattle.doppel_watch.specs.declared.watch.WatchState.{WatchState}
use Rattle.doppel_watch.specs.declared.watch.WatchState.TheVariants.{Allowed}

-- whether keys are watched; the moment of the desk's opening; and the watch of each key that became active since, or of which
-- something was told since, in key order
pub record Watching : Type 0 where
  pub on : Bool
  pub opened : ℕ
  pub kept : List (PubKey × Watched)

-- a desk is opened at this moment: each key that is active then is watched from then on
abbrev pub fresh_watching : Bool → ℕ → Watching
fresh_watching on opened = record { on = on; opened = opened; kept = [] }

-- the watch of a key that is active
abbrev pub watch_of : Watching → PubKey → Watched
watch_of w key = unwrap_or (kept_of w.kept key) (fresh_watch w.opened)

-- how a watch stands; where keys are not watched each may sign
abbrev pub standing_under : Bool → Watched → WatchState
standing_under on watch = if on then watch_state watch.start watch.told else Allowed

abbrev pub standing_of : Watching → PubKey → WatchState
standing_of w key = standing_under w.on (watch_of w key)

-- a key becomes active at this moment: its watch begins
abbrev pub with_begun : Watching → PubKey → ℕ → Watching
with_begun w key now = record { on = w.on; opened = w.opened; kept = with_key w.kept key (fresh_watch now) }

-- something is told of a key: it joins its watch
abbrev pub with_told : Watching → PubKey → Telling → Watching
with_told w key telling = record { on = w.on; opened = w.opened; kept = with_key w.kept key (told_more (watch_of w key) telling) }

-- ---- what a desk keeps of them

pub record KeptWatches : Type 0 where
  pub on : Bool
  pub opened : ℕ
  pub kept : List (PubKey × Watch)

-- what is kept of a key stands for this watch; of a key of which nothing is kept, for one that began at opening
abbrev pub IsOneWatch : ℕ → Option Watch → Watched → Type 0
IsOneWatch opened None x = x ≡ fresh_watch opened
IsOneWatch opened (Some watch) x = Stands watch x.start x.told

abbrev pub IsOwnWatch : KeptWatches → PubKey → Watched → Type 0
IsOwnWatch k key x = IsOneWatch k.opened (kept_of k.kept key) x

-- each key's watch is what is kept of it
pub record WatchesStand (k : KeptWatches) (w : Watching) : Type 0 where
  pub on : k.on ≡ w.on
  pub opened : k.opened ≡ w.opened
  pub each : (key : PubKey) → IsOwnWatch k key (watch_of w key)
