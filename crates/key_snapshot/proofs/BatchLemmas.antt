-- Each batch of a snapshot is a batch of a journal, of items that the first version has.
use Rattle.std.proofs.Common.{◌≡◌, ℕ, zero, suc, false, true, List, [], ◌∷◌, ◌++◌, map, fold, take, drop, length, refl}
use Rattle.std.specs.List.{AllByRecursion}
use Rattle.edge_kit.specs.declared.bytes.PubKey.{PubKey}
use Rattle.slash_defs.specs.declared.entry.BlockEntry.{BlockEntry}
use Rattle.slash_defs.specs.declared.entry.VoteEntry.{VoteEntry}
use Rattle.protect_record.specs.Parts.{Parts}
use Rattle.record_codec.specs.Spelling.{IsBatch, IsOf, is_record}
use Rattle.record_codec.specs.declared.version.JournalVersion.TheVariants.{One, Two}
use Rattle.record_codec.specs.declared.item.JournalItem.{JournalItem}
use Rattle.record_codec.specs.declared.item.JournalItem.TheVariants as item
use Rattle.record_replay.specs.Watches.{with_watch}
use Rattle.record_replay.specs.declared.state.KeyState.{KeyState}
use Rattle.record_replay.specs.declared.state.KeyState.TheVariants.{Known, Active, Closing, Closed}
use Rattle.key_snapshot.specs.Cuts.{cut, cut_by}
use Rattle.key_snapshot.specs.Snapshots.{entry_items, items_of, snapshot_of, state_batches}

-- items that stand with others
abbrev AreRecords : List JournalItem → Type 0
AreRecords items = AllByRecursion (λ i. is_record i ≡ true) items

records_taken : (n : ℕ) (items : List JournalItem) → AreRecords items → AreRecords (take n items)
records_taken zero items all = tt
records_taken (suc n) [] all = tt
records_taken (suc n) (i ∷ items) all = (all.0, records_taken n items all.1)

records_left : (n : ℕ) (items : List JournalItem) → AreRecords items → AreRecords (drop n items)
records_left zero items all = all
records_left (suc n) [] all = tt
records_left (suc n) (i ∷ items) all = records_left n items all.1

batch_of_records : (i : JournalItem) (items : List JournalItem) → AreRecords (i ∷ items) → IsBatch (i ∷ items)
batch_of_records i [] all = tt
batch_of_records i (j ∷ items) all = all

first_part : (limit : ℕ) (i : JournalItem) (items : List JournalItem) → AreRecords (i ∷ items) → IsBatch (take (suc limit) (i ∷ items))
first_part limit i items all = batch_of_records i (take limit items) (records_taken (suc limit) (i ∷ items) all)

cut_batches : (fuel limit : ℕ) (items : List JournalItem) → AreRecords items → AllByRecursion IsBatch (cut_by fuel (suc limit) items)
cut_batches zero limit items all = tt
cut_batches (suc fuel) limit [] all = tt
cut_batches (suc fuel) limit (i ∷ items) all = (first_part limit i items all, cut_batches fuel limit (drop (suc limit) (i ∷ items)) (records_left (suc limit) (i ∷ items) all))

votes_are : (key : PubKey) (votes : List VoteEntry) → AreRecords (map (item.Vote key) votes)
votes_are key [] = tt
votes_are key (v ∷ votes) = (refl, votes_are key votes)

entries_are : (key : PubKey) (blocks : List BlockEntry) (votes : List VoteEntry) → AreRecords (map (item.Block key) blocks ++ map (item.Vote key) votes)
entries_are key [] votes = votes_are key votes
entries_are key (b ∷ blocks) votes = (refl, entries_are key blocks votes)

all_append : (batches more : List (List JournalItem)) → AllByRecursion IsBatch batches → AllByRecursion IsBatch more → AllByRecursion IsBatch (batches ++ more)
all_append [] more all also = also
all_append (batch ∷ batches) more all also = (all.0, all_append batches more all.1 also)

state_batch : (key : PubKey) (state : KeyState) → AllByRecursion IsBatch (state_batches key state)
state_batch key Known = tt
state_batch key Active = (tt, tt)
state_batch key Closing = (tt, tt)
state_batch key Closed = (tt, tt)

entry_batches : (limit : ℕ) (key : PubKey) (parts : Parts) → AllByRecursion IsBatch (cut (suc limit) (entry_items key parts))
unfolding cut
entry_batches limit key parts = cut_batches (length (entry_items key parts)) limit (entry_items key parts) (entries_are key parts.blocks parts.votes)

pub snapshot_batches_are : (key : PubKey) (state : KeyState) (parts : Parts) → AllByRecursion IsBatch (snapshot_of key state parts)
snapshot_batches_are key state parts = all_append (cut 4096 (entry_items key parts)) _ (entry_batches 4095 key parts) (tt, state_batch key state)

-- ---- items of the first version

abbrev pub AreOld : List JournalItem → Type 0
AreOld items = AllByRecursion (IsOf One) items

record_old : (i : JournalItem) → is_record i ≡ true → IsOf One i
record_old (item.Block key entry) is = tt
record_old (item.Vote key entry) is = tt
record_old (item.Floors key block vote) is = tt
record_old (item.ActivateUndated key) is = refl
record_old (item.Activate key epoch) is = absurd (let bad : false ≡ true = is in cc)
record_old (item.Answer key epoch live moment) is = absurd (let bad : false ≡ true = is in cc)
record_old (item.Close key) is = tt

pub records_old : (items : List JournalItem) → AreRecords items → AreOld items
records_old [] all = tt
records_old (i ∷ items) all = (record_old i all.0, records_old items all.1)

cut_old : (fuel limit : ℕ) (items : List JournalItem) → AreRecords items → AllByRecursion AreOld (cut_by fuel (suc limit) items)
cut_old zero limit items all = tt
cut_old (suc fuel) limit [] all = tt
cut_old (suc fuel) limit (i ∷ items) all = (records_old (take (suc limit) (i ∷ items)) (records_taken (suc limit) (i ∷ items) all), cut_old fuel limit (drop (suc limit) (i ∷ items)) (records_left (suc limit) (i ∷ items) all))

old_append : (batches more : List (List JournalItem)) → AllByRecursion AreOld batches → AllByRecursion AreOld more → AllByRecursion AreOld (batches ++ more)
old_append [] more all also = also
old_append (batch ∷ batches) more all also = (all.0, old_append batches more all.1 also)

state_old : (key : PubKey) (state : KeyState) → AllByRecursion AreOld (state_batches key state)
state_old key Known = tt
state_old key Active = ((refl, tt), tt)
state_old key Closing = ((refl, tt), tt)
state_old key Closed = ((tt, tt), tt)

entry_old : (limit : ℕ) (key : PubKey) (parts : Parts) → AllByRecursion AreOld (cut (suc limit) (entry_items key parts))
unfolding cut
entry_old limit key parts = cut_old (length (entry_items key parts)) limit (entry_items key parts) (entries_are key parts.blocks parts.votes)

pub snapshot_versions_are : (key : PubKey) (state : KeyState) (parts : Parts) → AllByRecursion AreOld (snapshot_of key state parts)
snapshot_versions_are key state parts = old_append (cut 4096 (entry_items key parts)) _ (entry_old 4095 key parts) ((tt, tt), state_old key state)

-- the same of their items one after another
old_joined : (items more : List JournalItem) → AreOld items → AreOld more → AreOld (items ++ more)
old_joined [] more all also = also
old_joined (i ∷ items) more all also = (all.0, old_joined items more all.1 also)

pub all_old : (batches : List (List JournalItem)) → AllByRecursion AreOld batches → AreOld (items_of batches)
all_old [] all = tt
all_old (batch ∷ batches) all = old_joined batch (items_of batches) all.0 (all_old batches all.1)

-- such items begin no watch
pub none_watched : (items : List JournalItem) → AreOld items → fold with_watch [] items ≡ []
none_watched [] all = refl
none_watched (item.Block key entry ∷ items) all = none_watched items all.1
none_watched (item.Vote key entry ∷ items) all = none_watched items all.1
none_watched (item.Floors key block vote ∷ items) all = none_watched items all.1
none_watched (item.ActivateUndated key ∷ items) all = none_watched items all.1
none_watched (item.Activate key epoch ∷ items) all = absurd (let bad : One ≡ Two = all.0 in cc)
none_watched (item.Answer key epoch live moment ∷ items) all = absurd (let bad : One ≡ Two = all.0 in cc)
none_watched (item.Close key ∷ items) all = none_watched items all.1
