-- What the replay of a key's snapshot brings back.
use Rattle.std.proofs.Common.{◌≡◌, Bool, true, false, ◌||◌, List, [], ◌∷◌, ◌++◌, map, fold, None, Some, refl, sym, ◌∙◌, ap, subst, append-nil, append_assoc, arith, Contains}
use Rattle.std.specs.Prelude.{ℕ, is_some}
use Rattle.std.specs.BTreeMap.{is_at}
use Rattle.std.specs.BTreeSet.{insert_key}
use Rattle.std.specs.Cmp.{IsTotalOrder}
use Rattle.std.specs.List.Sorted.{IsStrictlySortedBy}
use Rattle.std.specs.Ordering.{match_ordering}
use Rattle.std.specs.declared.cmp.Ordering.{Ordering}
use Rattle.std.specs.declared.cmp.Ordering.TheVariants.{Less, Equal, Greater}
use Rattle.std.proofs.lemmas.Grind.{flat_map-append}
use Rattle.std.proofs.lemmas.List.Elements.{All-contains}
use Rattle.std.proofs.lemmas.List.Sums.{fold-append}
use Rattle.edge_kit.specs.declared.bytes.PubKey.{PubKey}
use Rattle.slash_defs.specs.declared.entry.BlockEntry.{BlockEntry}
use Rattle.slash_defs.specs.declared.entry.VoteEntry.{VoteEntry}
use Rattle.slash_defs.specs.FileOrder.{block_cmp, vote_cmp, blocks_total, votes_total}
use Rattle.protect_record.specs.declared.floors.Floors.{Floors}
use Rattle.protect_record.specs.Floors.{greater_floors, IsDeadBlock, IsDeadVote}
use Rattle.protect_record.specs.Gathering.{HasDropped, IsWellKept, SameEntries}
use Rattle.protect_record.specs.Parts.{Parts, no_floors}
use Rattle.protect_record.specs.Pasts.{Past}
use Rattle.protect_record.specs.Standing.{Stands}
use Rattle.protect_record.proofs.FloorLemmas.{some-injective}
use Rattle.protect_record.proofs.UniteLemmas.{same_in_order}
use Rattle.record_codec.specs.declared.version.JournalVersion.TheVariants.{One}
use Rattle.record_codec.specs.declared.item.JournalItem.{JournalItem}
use Rattle.record_codec.specs.declared.item.JournalItem.TheVariants as item
use Rattle.record_join.specs.Keys.{key_cmp, kept_of, with_key}
use Rattle.record_join.specs.KeyLaws.{apart_back, at_itself, kept_apart, kept_here, same_key}
use Rattle.record_replay.specs.Batches.{floors_item}
use Rattle.record_replay.specs.Items.{blocks_in, floors_in, items_in, items_or_none, key_of, named_keys, states_in, votes_in, with_state}
use Rattle.record_replay.specs.Replaying.{IsReplayed, ItemsStand, KeyStands, lasting_state, lasting_states}
use Rattle.record_replay.specs.Watches.{with_watch}
use Rattle.record_replay.specs.declared.state.KeyState.{KeyState}
use Rattle.record_replay.specs.declared.state.KeyState.TheVariants.{Known, Active, Closing, Closed}
use Rattle.record_replay.proofs.NamedLemmas.{has, has_kept, has_named, inserted_same, keys_with, named_more, named_sorted, or_none}
use Rattle.record_replay.proofs.ItemLemmas.{blocks_more, floors-none, floors_more, no_blocks_in, no_floors_in, no_votes_in, votes_more}
use Rattle.record_replay.proofs.GrowLemmas.{unnamed_stands}
use Rattle.key_snapshot.specs.Cuts.{cut}
use Rattle.key_snapshot.specs.Snapshots.{entry_items, items_of, snapshot_of, state_batches}
use Rattle.key_snapshot.specs.Restoring.{AreRead, with_held}
use Rattle.key_snapshot.proofs.BatchLemmas.{all_old, none_watched, snapshot_versions_are}
use Rattle.key_snapshot.proofs.CutLemmas.{cut_joined}

-- ---- the items of the batches

-- what says the state of a key
abbrev pub state_items : PubKey → KeyState → List JournalItem
state_items key Known = []
state_items key Active = item.ActivateUndated key ∷ []
state_items key Closing = item.ActivateUndated key ∷ []
state_items key Closed = item.Close key ∷ []

state_joined : (key : PubKey) (state : KeyState) → items_of (state_batches key state) ≡ state_items key state
state_joined key Known = refl
state_joined key Active = refl
state_joined key Closing = refl
state_joined key Closed = refl

-- a snapshot's items: blocks, votes, floors, state
abbrev pub snapshot_items : PubKey → KeyState → Parts → List JournalItem
snapshot_items key state parts = entry_items key parts ++ floors_item key parts.floors ∷ state_items key state

pub items_of_snapshot : (key : PubKey) (state : KeyState) (parts : Parts) → items_of (snapshot_of key state parts) ≡ snapshot_items key state parts
items_of_snapshot key state parts =
    flat_map-append (λ batch. batch) (cut 4096 (entry_items key parts)) ((floors_item key parts.floors ∷ []) ∷ state_batches key state)
    ∙ ap (λ l. l ++ floors_item key parts.floors ∷ items_of (state_batches key state)) (cut_joined 4096 (entry_items key parts) (omega arith))
    ∙ ap (λ l. entry_items key parts ++ floors_item key parts.floors ∷ l) (state_joined key state)

pub items_read : (payloads : List (List ℕ)) (batches : List (List JournalItem)) → AreRead payloads batches → items_in One payloads ≡ items_of batches
items_read [] [] read = refl
items_read [] (batch ∷ batches) read = absurd read
items_read (payload ∷ payloads) [] read = absurd read
items_read (payload ∷ payloads) (batch ∷ batches) read =
    ap (λ r. items_or_none r ++ items_in One payloads) read.0 ∙ ap (λ l. batch ++ l) (items_read payloads batches read.1)

-- ---- what they name: the key alone

or_same : (a b : Bool) → b ≡ a → (a || b) ≡ a
or_same true b e = refl
or_same false b e = e

-- the floors, which name it, and its state
end_names : (q key : PubKey) (state : KeyState) (floors : Floors) → has q (map key_of (floors_item key floors ∷ state_items key state)) ≡ is_at (key_cmp q) key
end_names q key Known floors = or_none (is_at (key_cmp q) key)
end_names q key Active floors = or_same (is_at (key_cmp q) key) _ (or_none (is_at (key_cmp q) key))
end_names q key Closing floors = or_same (is_at (key_cmp q) key) _ (or_none (is_at (key_cmp q) key))
end_names q key Closed floors = or_same (is_at (key_cmp q) key) _ (or_none (is_at (key_cmp q) key))

blocks_name : (q key : PubKey) (blocks : List BlockEntry) (more : List JournalItem) → has q (map key_of more) ≡ is_at (key_cmp q) key → has q (map key_of (map (item.Block key) blocks ++ more)) ≡ is_at (key_cmp q) key
blocks_name q key [] more rest = rest
blocks_name q key (b ∷ blocks) more rest = or_same (is_at (key_cmp q) key) _ (blocks_name q key blocks more rest)

votes_name : (q key : PubKey) (votes : List VoteEntry) (more : List JournalItem) → has q (map key_of more) ≡ is_at (key_cmp q) key → has q (map key_of (map (item.Vote key) votes ++ more)) ≡ is_at (key_cmp q) key
votes_name q key [] more rest = rest
votes_name q key (v ∷ votes) more rest = or_same (is_at (key_cmp q) key) _ (votes_name q key votes more rest)

-- the items with their lists one behind another
abbrev grouped : PubKey → KeyState → Parts → List JournalItem
grouped key state parts = map (item.Block key) parts.blocks ++ (map (item.Vote key) parts.votes ++ floors_item key parts.floors ∷ state_items key state)

grouped_same : (key : PubKey) (state : KeyState) (parts : Parts) → snapshot_items key state parts ≡ grouped key state parts
grouped_same key state parts = append_assoc (map (item.Block key) parts.blocks) (map (item.Vote key) parts.votes) (floors_item key parts.floors ∷ state_items key state)

pub snapshot_names : (q key : PubKey) (state : KeyState) (parts : Parts) → has q (map key_of (snapshot_items key state parts)) ≡ is_at (key_cmp q) key
snapshot_names q key state parts =
    ap (λ l. has q (map key_of l)) (grouped_same key state parts)
    ∙ blocks_name q key parts.blocks _ (votes_name q key parts.votes (floors_item key parts.floors ∷ state_items key state) (end_names q key state parts.floors))

-- the same key inserted again and again is there once
inserted_once : (found : List PubKey) (key : PubKey) (items : List JournalItem) → IsStrictlySortedBy key_cmp found → ((q : PubKey) → has q (map key_of items) ≡ is_at (key_cmp q) key) → fold (insert_key key_cmp) found (map key_of items) ≡ insert_key key_cmp found key
inserted_once found key items sorted names = inserted_same found (map key_of items) (key ∷ []) sorted (λ q. names q ∙ sym (or_none (is_at (key_cmp q) key)))

pub named_alone : (key : PubKey) (state : KeyState) (parts : Parts) → named_keys (items_of (snapshot_of key state parts)) ≡ key ∷ []
named_alone key state parts =
    ap named_keys (items_of_snapshot key state parts) ∙ inserted_once [] key (snapshot_items key state parts) (named_sorted []) (λ q. snapshot_names q key state parts)

-- ---- what they give the key

here_blocks : (key : PubKey) (blocks : List BlockEntry) → blocks_in (map (item.Block key) blocks) key ≡ blocks
here_blocks key [] = refl
here_blocks key (b ∷ blocks) = rw (at_itself key) (ap (λ l. b ∷ l) (here_blocks key blocks))

here_votes : (key : PubKey) (votes : List VoteEntry) → votes_in (map (item.Vote key) votes) key ≡ votes
here_votes key [] = refl
here_votes key (v ∷ votes) = rw (at_itself key) (ap (λ l. v ∷ l) (here_votes key votes))

no_blocks_of_votes : (q key : PubKey) (votes : List VoteEntry) → blocks_in (map (item.Vote key) votes) q ≡ []
no_blocks_of_votes q key [] = refl
no_blocks_of_votes q key (v ∷ votes) = no_blocks_of_votes q key votes

no_votes_of_blocks : (q key : PubKey) (blocks : List BlockEntry) → votes_in (map (item.Block key) blocks) q ≡ []
no_votes_of_blocks q key [] = refl
no_votes_of_blocks q key (b ∷ blocks) = no_votes_of_blocks q key blocks

-- entries set no floor
no_floors_of_votes : (q key : PubKey) (votes : List VoteEntry) → floors_in (map (item.Vote key) votes) q ≡ no_floors
no_floors_of_votes q key [] = refl
no_floors_of_votes q key (v ∷ votes) = no_floors_of_votes q key votes

no_floors_of_blocks : (q key : PubKey) (blocks : List BlockEntry) → floors_in (map (item.Block key) blocks) q ≡ no_floors
no_floors_of_blocks q key [] = refl
no_floors_of_blocks q key (b ∷ blocks) = no_floors_of_blocks q key blocks

end_blocks : (q key : PubKey) (state : KeyState) (floors : Floors) → blocks_in (floors_item key floors ∷ state_items key state) q ≡ []
end_blocks q key Known floors = refl
end_blocks q key Active floors = refl
end_blocks q key Closing floors = refl
end_blocks q key Closed floors = refl

end_votes : (q key : PubKey) (state : KeyState) (floors : Floors) → votes_in (floors_item key floors ∷ state_items key state) q ≡ []
end_votes q key Known floors = refl
end_votes q key Active floors = refl
end_votes q key Closing floors = refl
end_votes q key Closed floors = refl

end_floors : (key : PubKey) (state : KeyState) (floors : Floors) → floors_in (floors_item key floors ∷ state_items key state) key ≡ floors
end_floors key Known floors = rw (at_itself key) refl
end_floors key Active floors = rw (at_itself key) (floors-none floors)
end_floors key Closing floors = rw (at_itself key) (floors-none floors)
end_floors key Closed floors = rw (at_itself key) (floors-none floors)

pub given_blocks : (key : PubKey) (state : KeyState) (parts : Parts) → blocks_in (snapshot_items key state parts) key ≡ parts.blocks
given_blocks key state parts =
    let behind : List JournalItem = floors_item key parts.floors ∷ state_items key state in
    blocks_more (entry_items key parts) behind key
    ∙ ap (λ l. blocks_in (entry_items key parts) key ++ l) (end_blocks key key state parts.floors) ∙ append-nil (blocks_in (entry_items key parts) key)
    ∙ blocks_more (map (item.Block key) parts.blocks) (map (item.Vote key) parts.votes) key
    ∙ ap (λ l. blocks_in (map (item.Block key) parts.blocks) key ++ l) (no_blocks_of_votes key key parts.votes) ∙ append-nil (blocks_in (map (item.Block key) parts.blocks) key)
    ∙ here_blocks key parts.blocks

pub given_votes : (key : PubKey) (state : KeyState) (parts : Parts) → votes_in (snapshot_items key state parts) key ≡ parts.votes
given_votes key state parts =
    let behind : List JournalItem = floors_item key parts.floors ∷ state_items key state in
    votes_more (entry_items key parts) behind key
    ∙ ap (λ l. votes_in (entry_items key parts) key ++ l) (end_votes key key state parts.floors) ∙ append-nil (votes_in (entry_items key parts) key)
    ∙ votes_more (map (item.Block key) parts.blocks) (map (item.Vote key) parts.votes) key
    ∙ ap (λ l. l ++ votes_in (map (item.Vote key) parts.votes) key) (no_votes_of_blocks key key parts.blocks)
    ∙ here_votes key parts.votes

pub given_floors : (key : PubKey) (state : KeyState) (parts : Parts) → floors_in (snapshot_items key state parts) key ≡ parts.floors
given_floors key state parts =
    let behind : List JournalItem = floors_item key parts.floors ∷ state_items key state in
    floors_more (entry_items key parts) behind key
    ∙ ap (λ f. greater_floors f (floors_in behind key)) (floors_more (map (item.Block key) parts.blocks) (map (item.Vote key) parts.votes) key
    ∙ ap (λ f. greater_floors f (floors_in (map (item.Vote key) parts.votes) key)) (no_floors_of_blocks key key parts.blocks)
    ∙ ap (λ f. greater_floors no_floors f) (no_floors_of_votes key key parts.votes))
    ∙ end_floors key state parts.floors

-- ---- the record that is replayed

pub brought_back : (key : PubKey) (state : KeyState) (parts : Parts) → IsWellKept parts.floors parts.blocks parts.votes → IsReplayed (items_of (snapshot_of key state parts)) key parts
brought_back key state parts kept = subst (λ (items : List JournalItem). IsReplayed items key parts) (sym (items_of_snapshot key state parts)) (record {
  floors = sym (given_floors key state parts);
  blocks = subst (λ (bs : List BlockEntry). HasDropped block_cmp (IsDeadBlock parts.floors) bs parts.blocks) (sym (given_blocks key state parts)) (record {
    elements = λ e. (λ h. (h, All-contains (λ e. ¬ (IsDeadBlock parts.floors e)) parts.blocks e kept.live_blocks h), λ p. p.0);
    in_order = kept.blocks_in_order;
  });
  votes = subst (λ (vs : List VoteEntry). HasDropped vote_cmp (IsDeadVote parts.floors) vs parts.votes) (sym (given_votes key state parts)) (record {
    elements = λ e. (λ h. (h, All-contains (λ e. ¬ (IsDeadVote parts.floors e)) parts.votes e kept.live_votes h), λ p. p.0);
    in_order = kept.votes_in_order;
  });
})

dropped_same : {X : Type 0} (cmp : X → X → Ordering) → IsTotalOrder cmp → (Dead : X → Type 0) (all one other : List X) → HasDropped cmp Dead all one → HasDropped cmp Dead all other → one ≡ other
dropped_same cmp total Dead all one other first second =
    same_in_order cmp total one other first.in_order second.in_order (λ e has. (second.elements e).1 ((first.elements e).0 has)) (λ e has. (first.elements e).1 ((second.elements e).0 has))

-- what is replayed of the same items is one record
replayed_same : (items : List JournalItem) (key : PubKey) (one other : Parts) → IsReplayed items key one → IsReplayed items key other → SameEntries one other
replayed_same items key one other first second =
    let same : other.floors ≡ one.floors = second.floors ∙ sym first.floors in record {
      floors = sym same;
      blocks = dropped_same block_cmp blocks_total (IsDeadBlock one.floors) (blocks_in items key) one.blocks other.blocks first.blocks (subst (λ (f : Floors). HasDropped block_cmp (IsDeadBlock f) (blocks_in items key) other.blocks) same second.blocks);
      votes = dropped_same vote_cmp votes_total (IsDeadVote one.floors) (votes_in items key) one.votes other.votes first.votes (subst (λ (f : Floors). HasDropped vote_cmp (IsDeadVote f) (votes_in items key) other.votes) same second.votes);
    }

pub nothing_else : (key : PubKey) (state : KeyState) (parts other : Parts) → IsWellKept parts.floors parts.blocks parts.votes → IsReplayed (items_of (snapshot_of key state parts)) key other → SameEntries parts other
nothing_else key state parts other kept replayed = replayed_same (items_of (snapshot_of key state parts)) key parts other (brought_back key state parts kept) replayed

-- ---- the states

entries_say_nothing : (key : PubKey) (states : List (PubKey × KeyState)) (blocks : List BlockEntry) (votes : List VoteEntry) (more : List JournalItem)
    → fold with_state states (map (item.Block key) blocks ++ (map (item.Vote key) votes ++ more)) ≡ fold with_state states more
entries_say_nothing key states [] [] more = refl
entries_say_nothing key states [] (v ∷ votes) more = entries_say_nothing key states [] votes more
entries_say_nothing key states (b ∷ blocks) votes more = entries_say_nothing key states blocks votes more

lasting_with : (states : List (PubKey × KeyState)) (k : PubKey) (s : KeyState) → lasting_states (with_key states k s) ≡ with_key (lasting_states states) k (lasting_state s)
lasting_with [] k s = refl
lasting_with (a ∷ more) k s = at (key_cmp k a.0) (lasting_with more k s) where
  at : (o : Ordering) → lasting_states (with_key more k s) ≡ with_key (lasting_states more) k (lasting_state s)
      → lasting_states (match_ordering o ((k, s) ∷ a ∷ more) ((a.0, s) ∷ more) (a ∷ with_key more k s))
      ≡ match_ordering o ((k, lasting_state s) ∷ (a.0, lasting_state a.1) ∷ lasting_states more) ((a.0, lasting_state s) ∷ lasting_states more) ((a.0, lasting_state a.1) ∷ with_key (lasting_states more) k (lasting_state s))
  at Less rest = refl
  at Equal rest = refl
  at Greater rest = ap (λ l. (a.0, lasting_state a.1) ∷ l) rest

end_says : (key : PubKey) (state : KeyState) (floors : Floors) (held : List (PubKey × KeyState)) → fold with_state (lasting_states held) (floors_item key floors ∷ state_items key state) ≡ lasting_states (with_held held key state)
end_says key Known floors held = refl
end_says key Active floors held = sym (lasting_with held key Active)
end_says key Closing floors held = sym (lasting_with held key Closing)
end_says key Closed floors held = sym (lasting_with held key Closed)

snapshot_says : (key : PubKey) (state : KeyState) (parts : Parts) (held : List (PubKey × KeyState)) → fold with_state (lasting_states held) (items_of (snapshot_of key state parts)) ≡ lasting_states (with_held held key state)
snapshot_says key state parts held =
    ap (λ l. fold with_state (lasting_states held) l) (items_of_snapshot key state parts ∙ grouped_same key state parts)
    ∙ entries_say_nothing key (lasting_states held) parts.blocks parts.votes (floors_item key parts.floors ∷ state_items key state)
    ∙ end_says key state parts.floors held

pub states_alone : (key : PubKey) (state : KeyState) (parts : Parts) → states_in (items_of (snapshot_of key state parts)) ≡ lasting_states (with_held [] key state)
states_alone key state parts = snapshot_says key state parts []

-- ---- behind the items of other keys

module _ (items : List JournalItem) (keys : List (PubKey × Past)) (states : List (PubKey × KeyState)) (stand : ItemsStand items keys states [])
    (key : PubKey) (state : KeyState) (parts : Parts) (past : Past) (new : kept_of keys key ≡ None) (stands : Stands parts past) where
  abbrev snapshot : List JournalItem
  snapshot = snapshot_items key state parts

  unnamed : has key (map key_of items) ≡ false
  unnamed = sym (has_named items key) ∙ ap (λ ks. has key ks) (sym stand.named) ∙ sym (has_kept keys key) ∙ ap is_some new

  all_floors : floors_in (items ++ snapshot) key ≡ parts.floors
  all_floors = floors_more items snapshot key ∙ ap (λ f. greater_floors f (floors_in snapshot key)) (no_floors_in items key unnamed) ∙ given_floors key state parts

  all_blocks : blocks_in (items ++ snapshot) key ≡ parts.blocks
  all_blocks = blocks_more items snapshot key ∙ ap (λ l. l ++ blocks_in snapshot key) (no_blocks_in items key unnamed) ∙ given_blocks key state parts

  all_votes : votes_in (items ++ snapshot) key ≡ parts.votes
  all_votes = votes_more items snapshot key ∙ ap (λ l. l ++ votes_in snapshot key) (no_votes_in items key unnamed) ∙ given_votes key state parts

  key_stands : KeyStands (items ++ snapshot) key past
  key_stands = record {
    floors = all_floors ∙ stands.floors;
    blocks = λ e live. (
      λ h. ((stands.blocks e).0 (subst (λ (bs : List BlockEntry). Contains bs e) all_blocks h)).0,
      λ is. subst (λ (bs : List BlockEntry). Contains bs e) (sym all_blocks) ((stands.blocks e).1 (is, subst (λ (f : Floors). ¬ (IsDeadBlock f e)) all_floors live)),
    );
    votes = λ e live. (
      λ h. ((stands.votes e).0 (subst (λ (vs : List VoteEntry). Contains vs e) all_votes h)).0,
      λ is. subst (λ (vs : List VoteEntry). Contains vs e) (sym all_votes) ((stands.votes e).1 (is, subst (λ (f : Floors). ¬ (IsDeadVote f e)) all_floors live)),
    );
  }

  each_stands : (q : PubKey) (p : Past) → kept_of (with_key keys key past) q ≡ Some p → KeyStands (items ++ snapshot) q p
  each_stands q p = at (is_at (key_cmp key) q) refl where
    at : (b : Bool) → is_at (key_cmp key) q ≡ b → kept_of (with_key keys key past) q ≡ Some p → KeyStands (items ++ snapshot) q p
    at true e is =
        let same : key ≡ q = same_key key q e in
        let here : past ≡ p = some-injective past p (sym (kept_here keys key past) ∙ ap (λ k. kept_of (with_key keys key past) k) same ∙ is) in
        subst (λ (k : PubKey). KeyStands (items ++ snapshot) k p) same (subst (λ (one : Past). KeyStands (items ++ snapshot) key one) here key_stands)
    at false e is =
        unnamed_stands items snapshot q p (snapshot_names q key state parts ∙ apart_back key q e) (stand.each q p (sym (kept_apart keys key q past e) ∙ is))

  pub added_stands : ItemsStand (items ++ items_of (snapshot_of key state parts)) (with_key keys key past) (with_held states key state) []
  added_stands = subst (λ (more : List JournalItem). ItemsStand (items ++ more) (with_key keys key past) (with_held states key state) []) (sym (items_of_snapshot key state parts)) (record {
    named =
        keys_with keys key past
        ∙ ap (λ ks. insert_key key_cmp ks key) stand.named
        ∙ sym (named_more items snapshot ∙ inserted_once (named_keys items) key snapshot (named_sorted items) (λ q. snapshot_names q key state parts));
    each = each_stands;
    states =
        fold-append with_state [] items snapshot
        ∙ ap (λ said. fold with_state said snapshot) stand.states
        ∙ ap (λ l. fold with_state (lasting_states states) l) (sym (items_of_snapshot key state parts)) ∙ snapshot_says key state parts states;
    watches =
        fold-append with_watch [] items snapshot
        ∙ ap (λ watched. fold with_watch watched snapshot) stand.watches
        ∙ ap (λ l. fold with_watch [] l) (sym (items_of_snapshot key state parts))
        ∙ none_watched (items_of (snapshot_of key state parts)) (all_old (snapshot_of key state parts) (snapshot_versions_are key state parts));
  })
