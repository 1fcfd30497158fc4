-- The watches that items make of keys, and which watches stand for them.
use Rattle.std.specs.Prelude.{ℕ, List, [], ◌∷◌, ◌++◌, fold, Option, None, Some}
use Rattle.std.specs.BTreeMap.{is_at}
use Rattle.std.specs.Map.{remove_entry}
use Rattle.edge_kit.specs.declared.bytes.PubKey.{PubKey}
use Rattle.doppel_watch.specs.Watching.{Stands, Telling}
use Rattle.doppel_watch.specs.declared.watch.Watch.{Watch}
use Rattle.record_codec.specs.declared.item.JournalItem.{JournalItem}
use Rattle.record_codec.specs.declared.item.JournalItem.TheVariants as item
use Rattle.record_join.specs.Keys.{key_cmp, kept_of, with_key, with_kept, EachKey}

-- the watch of a key: the moment at which it began, and what was told of the key since
pub record Watched : Type 0 where
  pub start : ℕ
  pub told : List Telling

-- a watch that begins at this moment
abbrev pub fresh_watch : ℕ → Watched
fresh_watch start = record { start = start; told = [] }

-- the watch with one thing more that was told
abbrev pub told_more : Watched → Telling → Watched
told_more watch telling = record { start = watch.start; told = watch.told ++ telling ∷ [] }

-- what is told of a key joins its watch; of a key that has none nothing is kept
abbrev pub with_telling_at : List (PubKey × Watched) → PubKey → Telling → Option Watched → List (PubKey × Watched)
with_telling_at watched key telling None = watched
with_telling_at watched key telling (Some watch) = with_kept watched key (told_more watch telling)

abbrev pub with_telling : List (PubKey × Watched) → PubKey → Telling → List (PubKey × Watched)
with_telling watched key telling = with_telling_at watched key telling (kept_of watched key)

-- the watch of a key ends, where it has one
abbrev pub without_watch : List (PubKey × Watched) → PubKey → List (PubKey × Watched)
without_watch watched key = remove_entry (is_at (key_cmp key)) watched

-- Where a key becomes active at an epoch its watch begins, whatever was there; where the epoch isn't said it has none, and
-- so where it is closed. An answer joins the watch of its key.
abbrev pub with_watch : List (PubKey × Watched) → JournalItem → List (PubKey × Watched)
with_watch watched (item.ActivateUndated key) = without_watch watched key
with_watch watched (item.Activate key epoch) = with_key watched key (fresh_watch epoch)
with_watch watched (item.Answer key epoch live moment) = with_telling watched key (record { epoch = epoch; live = live; moment = moment })
with_watch watched (item.Close key) = without_watch watched key
with_watch watched other = watched

-- the watches that the items make, in key order
abbrev pub watches_in : List JournalItem → List (PubKey × Watched)
watches_in items = fold with_watch [] items

-- a watch stands for a start and what was told since
abbrev pub IsWatchOf : Watch → Watched → Type 0
IsWatchOf watch watched = Stands watch watched.start watched.told

-- just these keys have watches, and that of each stands for its start and what was told since
abbrev pub AreWatchesOf : List (PubKey × Watch) → List (PubKey × Watched) → Type 0
AreWatchesOf watches watched = EachKey IsWatchOf watches watched
