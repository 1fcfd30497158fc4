-- What the batches of a compaction bring back: each kept key with its record, and the states as they outlast a stop.
use Rattle.std.proofs.Common.{◌≡◌, Bool, true, false, cond, ◌||◌, List, [], ◌∷◌, ◌++◌, map, fold, Option, None, Some, refl, sym, ◌∙◌, ap, subst, append-nil, append_assoc}
use Rattle.std.specs.Prelude.{flat_map, is_some, unwrap_or}
use Rattle.std.specs.BTreeMap.{is_at}
use Rattle.std.specs.List.{AllByRecursion}
use Rattle.std.specs.List.Sorted.{IsStrictlySortedBy}
use Rattle.std.specs.Map.{keys_of}
use Rattle.std.specs.Option.{option_map}
use Rattle.std.specs.Ordering.{ordering_reverse}
use Rattle.std.specs.declared.cmp.Ordering.TheVariants.{Less, Greater}
use Rattle.std.proofs.lemmas.Cmp.{eq_by_cmp_equiv}
use Rattle.std.proofs.lemmas.Grind.{flat_map-append}
use Rattle.std.proofs.lemmas.Map.{lookup-none}
use Rattle.std.proofs.lemmas.Map.Entries.{none_past_head}
use Rattle.std.proofs.lemmas.Map.Keys.{sorted_tail}
use Rattle.std.proofs.lemmas.Map.Made.{lookup-map_values}
use Rattle.edge_kit.specs.declared.bytes.PubKey.{PubKey}
use Rattle.slash_defs.specs.declared.entry.BlockEntry.{BlockEntry}
use Rattle.slash_defs.specs.declared.entry.VoteEntry.{VoteEntry}
use Rattle.protect_record.specs.declared.floors.Floors.{Floors}
use Rattle.protect_record.specs.Gathering.{SameEntries}
use Rattle.protect_record.specs.Parts.{Parts}
use Rattle.protect_record.specs.Pasts.{Past}
use Rattle.protect_record.specs.Standing.{Stands}
use Rattle.interchange_io.proofs.OnceLemmas.{nothing_sorted, sorted_inserted}
use Rattle.record_codec.specs.declared.item.JournalItem.{JournalItem}
use Rattle.record_codec.specs.declared.item.JournalItem.TheVariants as item
use Rattle.record_join.specs.Keys.{key_cmp, kept_of, with_key}
use Rattle.record_join.specs.KeyLaws.{apart_back, at_itself, distinct_ordered, kept_apart, kept_here, key_total, once_before, same_key}
use Rattle.record_join.specs.EachKeyLaws.{each_keys}
use Rattle.record_join.specs.BooksPasts.{BooksStand}
use Rattle.record_replay.specs.Items.{key_of, states_in, with_state}
use Rattle.record_replay.specs.Pruning.{record_of}
use Rattle.record_replay.specs.Replaying.{ItemsStand, lasting_state, lasting_states}
use Rattle.record_replay.specs.declared.state.KeyState.{KeyState}
use Rattle.record_replay.specs.declared.state.KeyState.TheVariants.{Known, Active, Closing, Closed}
use Rattle.record_replay.proofs.NamedLemmas.{has, has_kept, has_named, keys_with, named_sorted, sorted_same}
use Rattle.record_replay.proofs.PruningLemmas.{record_same}
use Rattle.key_snapshot.specs.Snapshots.{items_of, snapshot_of}
use Rattle.key_snapshot.specs.Restoring.{with_held}
use Rattle.key_snapshot.proofs.RestoreLemmas.{added_stands}
use Rattle.desk_machine.specs.States.{key_state}
use Rattle.check_sign.specs.DeskBatches.{desk_batches}

-- ---- the batches of records and of the pasts that they stand for

-- a key's batches look at nothing of its record but the floors and the entries
abbrev batches_from : PubKey → KeyState → Floors → List BlockEntry → List VoteEntry → List (List JournalItem)
batches_from key state floors blocks votes = snapshot_of key state (record { floors = floors; blocks = blocks; votes = votes; block_room = 0; vote_room = 0 })

same_batches : (key : PubKey) (state : KeyState) (one other : Parts) → SameEntries one other → snapshot_of key state one ≡ snapshot_of key state other
same_batches key state one other same =
    ap (λ f. batches_from key state f one.blocks one.votes) same.floors ∙ ap (λ bs. batches_from key state other.floors bs one.votes) same.blocks
    ∙ ap (λ vs. batches_from key state other.floors other.blocks vs) same.votes

pub batches_same : (states : List (PubKey × KeyState)) (records : List (PubKey × Parts)) (keys : List (PubKey × Past)) → BooksStand records keys
    → desk_batches states records ≡ flat_map (λ kept. snapshot_of kept.0 (key_state states kept.0) (record_of kept.1)) keys
batches_same states [] [] stand = refl
batches_same states [] (k ∷ keys) stand = absurd stand
batches_same states (r ∷ records) [] stand = absurd stand
batches_same states (r ∷ records) (k ∷ keys) stand =
    ap (λ key. snapshot_of key (key_state states key) r.1 ++ desk_batches states records) stand.0
    ∙ ap (λ batches. batches ++ desk_batches states records) (same_batches k.0 (key_state states k.0) r.1 (record_of k.1) (record_same r.1 k.1 stand.1))
    ∙ ap (λ more. snapshot_of k.0 (key_state states k.0) (record_of k.1) ++ more) (batches_same states records keys stand.2)

-- ---- key after key

-- a key above those that are there comes last
comes_last : (front : List (PubKey × Past)) (one : PubKey × Past) (rest : List (PubKey × Past)) → IsStrictlySortedBy key_cmp (keys_of (front ++ one ∷ rest)) → with_key front one.0 one.1 ≡ front ++ one ∷ []
unfolding IsStrictlySortedBy
comes_last [] one rest sorted = refl
comes_last (a ∷ more) one rest sorted =
    let above : key_cmp one.0 a.0 ≡ Greater = key_total.antisymm one.0 a.0 ∙ ap ordering_reverse (below more sorted.0) in
    rw above (ap (λ l. a ∷ l) (comes_last more one rest sorted.1)) where
      below : (xs : List (PubKey × Past)) → AllByRecursion (λ y. key_cmp a.0 y ≡ Less) (keys_of (xs ++ one ∷ rest)) → key_cmp a.0 one.0 ≡ Less
      below [] all = all.0
      below (x ∷ xs) all = below xs all.1

-- the states that the batches bring back, with those that are there
abbrev brought : List (PubKey × KeyState) → List (PubKey × KeyState) → List (PubKey × Parts) → List (PubKey × KeyState)
brought states held [] = held
brought states held (r ∷ records) = brought states (with_held held r.0 (key_state states r.0)) records

module _ (states : List (PubKey × KeyState)) where
  all_added : (items : List JournalItem) (done : List (PubKey × Past)) (held : List (PubKey × KeyState)) (records : List (PubKey × Parts)) (keys : List (PubKey × Past))
      → ItemsStand items done held [] → BooksStand records keys → IsStrictlySortedBy key_cmp (keys_of (done ++ keys))
      → ItemsStand (items ++ items_of (desk_batches states records)) (done ++ keys) (brought states held records) []
  all_added items done held [] [] stand each sorted =
      subst (λ (l : List JournalItem). ItemsStand l (done ++ []) held []) (sym (append-nil items)) (subst (λ (ks : List (PubKey × Past)). ItemsStand items ks held []) (sym (append-nil done)) stand)
  all_added items done held [] (k ∷ keys) stand each sorted = absurd each
  all_added items done held (r ∷ records) [] stand each sorted = absurd each
  all_added items done held (r ∷ records) (k ∷ keys) stand each sorted =
      let batches : List (List JournalItem) = snapshot_of r.0 (key_state states r.0) r.1 in
      let more : List (PubKey × KeyState) = with_held held r.0 (key_state states r.0) in
      let new : kept_of done r.0 ≡ None = ap (λ key. kept_of done key) each.0 ∙ once_before done k keys (distinct_ordered (done ++ k ∷ keys) sorted) in
      let last : with_key done r.0 k.1 ≡ done ++ k ∷ [] = ap (λ key. with_key done key k.1) each.0 ∙ comes_last done k keys sorted in
      let next : ItemsStand (items ++ items_of batches) (done ++ k ∷ []) more [] =
      subst (λ (ks : List (PubKey × Past)). ItemsStand (items ++ items_of batches) ks more []) last (added_stands items done held stand r.0 (key_state states r.0) r.1 k.1 new each.1) in
      let in_order : (done ++ k ∷ []) ++ keys ≡ done ++ k ∷ keys = append_assoc done (k ∷ []) keys in
      let joined : (items ++ items_of batches) ++ items_of (desk_batches states records) ≡ items ++ items_of (batches ++ desk_batches states records) =
      append_assoc items (items_of batches) (items_of (desk_batches states records)) ∙ ap (λ l. items ++ l) (sym (flat_map-append (λ batch. batch) batches (desk_batches states records))) in
      let rest = all_added (items ++ items_of batches) (done ++ k ∷ []) more records keys next each.2 (subst (λ (ks : List (PubKey × Past)). IsStrictlySortedBy key_cmp (keys_of ks)) (sym in_order) sorted) in
      subst (λ (l : List JournalItem). ItemsStand l (done ++ k ∷ keys) (brought states more records) []) joined
      (subst (λ (ks : List (PubKey × Past)). ItemsStand ((items ++ items_of batches) ++ items_of (desk_batches states records)) ks (brought states more records) []) in_order rest)

-- ---- the states that are brought back, key by key

kept_with : {X : Type 0} (xs : List (PubKey × X)) (k q : PubKey) (x : X) → kept_of (with_key xs k x) q ≡ cond (is_at (key_cmp q) k) (Some x) (kept_of xs q)
kept_with {X} xs k q x = at (is_at (key_cmp q) k) refl where
  at : (b : Bool) → is_at (key_cmp q) k ≡ b → kept_of (with_key xs k x) q ≡ cond b (Some x) (kept_of xs q)
  at true same = ap (λ key. kept_of (with_key xs k x) key) (same_key q k same) ∙ kept_here xs k x
  at false other = kept_apart xs k q x (apart_back q k other)

-- what is held of a key where this state is brought back
abbrev put : KeyState → Option KeyState → Option KeyState
put Known before = before
put Active before = Some Active
put Closing before = Some Closing
put Closed before = Some Closed

put_again : (s : KeyState) (before : Option KeyState) → put s (put s before) ≡ put s before
put_again Known before = refl
put_again Active before = refl
put_again Closing before = refl
put_again Closed before = refl

held_with : (held : List (PubKey × KeyState)) (k q : PubKey) (s : KeyState) → kept_of (with_held held k s) q ≡ cond (is_at (key_cmp q) k) (put s (kept_of held q)) (kept_of held q)
held_with held k q Known = at (is_at (key_cmp q) k) where
  at : (b : Bool) → kept_of held q ≡ cond b (kept_of held q) (kept_of held q)
  at true = refl
  at false = refl
held_with held k q Active = kept_with held k q Active
held_with held k q Closing = kept_with held k q Closing
held_with held k q Closed = kept_with held k q Closed

module _ (states : List (PubKey × KeyState)) (q : PubKey) where
  -- a record's key is q or another, and q is among the keys of the later records or not
  joins : (b later : Bool) (k : PubKey) (o first : Option KeyState) → (b ≡ true → q ≡ k) → first ≡ cond b (put (key_state states k) o) o
      → cond later (put (key_state states q) first) first ≡ cond (b || later) (put (key_state states q) o) o
  joins false true k o first same is = ap (λ f. put (key_state states q) f) is
  joins false false k o first same is = is
  joins true true k o first same is = ap (λ f. put (key_state states q) f) (is ∙ ap (λ key. put (key_state states key) o) (sym (same refl))) ∙ put_again (key_state states q) o
  joins true false k o first same is = is ∙ ap (λ key. put (key_state states key) o) (sym (same refl))

  brought_of : (held : List (PubKey × KeyState)) (records : List (PubKey × Parts))
      → kept_of (brought states held records) q ≡ cond (has q (keys_of records)) (put (key_state states q) (kept_of held q)) (kept_of held q)
  brought_of held [] = refl
  brought_of held (r ∷ records) =
      brought_of (with_held held r.0 (key_state states r.0)) records
      ∙ joins (is_at (key_cmp q) r.0) (has q (keys_of records)) r.0 (kept_of held q) (kept_of (with_held held r.0 (key_state states r.0)) q) (same_key q r.0) (held_with held r.0 q (key_state states r.0))

-- ---- the states that items say

step_sorted : (states : List (PubKey × KeyState)) (i : JournalItem) → IsStrictlySortedBy key_cmp (keys_of states) → IsStrictlySortedBy key_cmp (keys_of (with_state states i))
step_sorted states (item.ActivateUndated key) sorted = subst (IsStrictlySortedBy key_cmp) (sym (keys_with states key Active)) (sorted_inserted key_cmp key_total key (keys_of states) sorted)
step_sorted states (item.Activate key epoch) sorted = subst (IsStrictlySortedBy key_cmp) (sym (keys_with states key Active)) (sorted_inserted key_cmp key_total key (keys_of states) sorted)
step_sorted states (item.Answer key epoch live moment) sorted = sorted
step_sorted states (item.Close key) sorted = subst (IsStrictlySortedBy key_cmp) (sym (keys_with states key Closed)) (sorted_inserted key_cmp key_total key (keys_of states) sorted)
step_sorted states (item.Block key entry) sorted = sorted
step_sorted states (item.Vote key entry) sorted = sorted
step_sorted states (item.Floors key block vote) sorted = sorted

all_sorted : (states : List (PubKey × KeyState)) (items : List JournalItem) → IsStrictlySortedBy key_cmp (keys_of states) → IsStrictlySortedBy key_cmp (keys_of (fold with_state states items))
all_sorted states [] sorted = sorted
all_sorted states (i ∷ items) sorted = all_sorted (with_state states i) items (step_sorted states i sorted)

states_sorted : (items : List JournalItem) → IsStrictlySortedBy key_cmp (keys_of (states_in items))
states_sorted items = all_sorted [] items nothing_sorted

-- a key is active or closed if anything is said of it, and nothing is said of one that is not among these
abbrev IsSaid : Bool → Option KeyState → Type 0
IsSaid named None = Unit {0}
IsSaid named (Some Known) = ⊥
IsSaid named (Some Active) = named ≡ true
IsSaid named (Some Closing) = ⊥
IsSaid named (Some Closed) = named ≡ true

module _ (q : PubKey) where
  -- one key more may be among them
  wider : (b named : Bool) (o : Option KeyState) → IsSaid named o → IsSaid (named || b) o
  wider b named None said = tt
  wider b named (Some Known) said = absurd said
  wider b named (Some Active) said = ap (λ n. n || b) said
  wider b named (Some Closing) said = absurd said
  wider b named (Some Closed) said = ap (λ n. n || b) said

  one_set : (b named : Bool) (s : KeyState) (o : Option KeyState) → IsSaid true (Some s) → IsSaid named o → IsSaid (named || b) (cond b (Some s) o)
  one_set true false s o set said = set
  one_set true true s o set said = set
  one_set false named s o set said = wider false named o said

  step_said : (found : List (PubKey × KeyState)) (i : JournalItem) (named : Bool) → IsSaid named (kept_of found q) → IsSaid (named || is_at (key_cmp q) (key_of i)) (kept_of (with_state found i) q)
  step_said found (item.ActivateUndated key) named said =
      let b : Bool = is_at (key_cmp q) key in subst (λ (o : Option KeyState). IsSaid (named || b) o) (sym (kept_with found key q Active)) (one_set b named Active (kept_of found q) refl said)
  step_said found (item.Activate key epoch) named said =
      let b : Bool = is_at (key_cmp q) key in subst (λ (o : Option KeyState). IsSaid (named || b) o) (sym (kept_with found key q Active)) (one_set b named Active (kept_of found q) refl said)
  step_said found (item.Answer key epoch live moment) named said = wider (is_at (key_cmp q) key) named (kept_of found q) said
  step_said found (item.Close key) named said =
      let b : Bool = is_at (key_cmp q) key in subst (λ (o : Option KeyState). IsSaid (named || b) o) (sym (kept_with found key q Closed)) (one_set b named Closed (kept_of found q) refl said)
  step_said found (item.Block key entry) named said = wider (is_at (key_cmp q) key) named (kept_of found q) said
  step_said found (item.Vote key entry) named said = wider (is_at (key_cmp q) key) named (kept_of found q) said
  step_said found (item.Floors key block vote) named said = wider (is_at (key_cmp q) key) named (kept_of found q) said

  or_assoc : (a b c : Bool) → ((a || b) || c) ≡ (a || (b || c))
  or_assoc true b c = refl
  or_assoc false b c = refl

  or_nothing : (a : Bool) → a ≡ (a || false)
  or_nothing true = refl
  or_nothing false = refl

  all_said : (found : List (PubKey × KeyState)) (items : List JournalItem) (named : Bool) → IsSaid named (kept_of found q) → IsSaid (named || has q (map key_of items)) (kept_of (fold with_state found items) q)
  all_said found [] named said = subst (λ (b : Bool). IsSaid b (kept_of found q)) (or_nothing named) said
  all_said found (i ∷ items) named said =
      let b : Bool = is_at (key_cmp q) (key_of i) in
      let last : Option KeyState = kept_of (fold with_state (with_state found i) items) q in
      subst (λ (n : Bool). IsSaid n last) (or_assoc named b (has q (map key_of items))) (all_said (with_state found i) items (named || b) (step_said found i named said))

  -- what is brought back of a key's state is what outlasts a stop of it
  back : (named : Bool) (o : Option KeyState) → IsSaid named (option_map lasting_state o) → option_map lasting_state (cond named (put (unwrap_or o Known) None) None) ≡ option_map lasting_state o
  back true None said = refl
  back false None said = refl
  back named (Some Known) said = absurd said
  back true (Some Active) said = refl
  back true (Some Closing) said = refl
  back true (Some Closed) said = refl
  back false (Some Active) said = absurd (let bad : false ≡ true = said in cc)
  back false (Some Closing) said = absurd (let bad : false ≡ true = said in cc)
  back false (Some Closed) said = absurd (let bad : false ≡ true = said in cc)

-- ---- ascending lists in which the same is kept of each key are one

same_entries : {X : Type 0} (xs ys : List (PubKey × X)) → keys_of xs ≡ keys_of ys → IsStrictlySortedBy key_cmp (keys_of xs) → IsStrictlySortedBy key_cmp (keys_of ys) → ((q : PubKey) → kept_of xs q ≡ kept_of ys q) → xs ≡ ys
same_entries [] [] keys sorted also same = refl
same_entries [] (y ∷ ys) keys sorted also same = absurd (let bad : [] ≡ y.0 ∷ keys_of ys = keys in cc)
same_entries (x ∷ xs) [] keys sorted also same = absurd (let bad : x.0 ∷ keys_of xs ≡ [] = keys in cc)
same_entries {X} (x ∷ xs) (y ∷ ys) keys sorted also same =
    let first : x.0 ≡ y.0 = cc in
    let here : Some x.1 ≡ Some y.1 = sym (of_first x xs) ∙ same x.0 ∙ ap (λ k. kept_of (y ∷ ys) k) first ∙ of_first y ys in
    let value : x.1 ≡ y.1 = cc in
    let tail : keys_of xs ≡ keys_of ys = cc in
    let rest : xs ≡ ys = same_entries xs ys tail (sorted_tail key_cmp x.0 (keys_of xs) sorted) (sorted_tail key_cmp y.0 (keys_of ys) also) (λ q. behind first q (is_at (key_cmp q) x.0) refl) in
    ap (λ k. (k, x.1) ∷ xs) first ∙ ap (λ v. (y.0, v) ∷ xs) value ∙ ap (λ l. y ∷ l) rest where
      of_first : (a : PubKey × X) (more : List (PubKey × X)) → kept_of (a ∷ more) a.0 ≡ Some a.1
      of_first a more = ap (λ b. cond b (Some a.1) (kept_of more a.0)) (at_itself a.0)

      none : (a : PubKey × X) (more : List (PubKey × X)) (q : PubKey) → IsStrictlySortedBy key_cmp (keys_of (a ∷ more)) → is_at (key_cmp q) a.0 ≡ true → kept_of more q ≡ None
      none a more q up is = lookup-none (is_at (key_cmp q)) more (none_past_head (eq_by_cmp_equiv key_total) q a more (distinct_ordered (a ∷ more) up) is)

      behind : x.0 ≡ y.0 → (q : PubKey) (b : Bool) → is_at (key_cmp q) x.0 ≡ b → kept_of xs q ≡ kept_of ys q
      behind first q true is = none x xs q sorted is ∙ sym (none y ys q also (ap (λ k. is_at (key_cmp q) k) (sym first) ∙ is))
      behind first q false is =
          ap (λ b. cond b (Some x.1) (kept_of xs q)) (sym is) ∙ same q ∙ ap (λ b. cond b (Some y.1) (kept_of ys q)) (ap (λ k. is_at (key_cmp q) k) (sym first) ∙ is)

same_kept : {X : Type 0} (xs ys : List (PubKey × X)) → IsStrictlySortedBy key_cmp (keys_of xs) → IsStrictlySortedBy key_cmp (keys_of ys) → ((q : PubKey) → kept_of xs q ≡ kept_of ys q) → xs ≡ ys
same_kept xs ys sorted also same =
    same_entries xs ys (sorted_same (keys_of xs) (keys_of ys) sorted also (λ q. sym (has_kept xs q) ∙ ap is_some (same q) ∙ has_kept ys q)) sorted also same

-- ---- the keys and the states of the whole

nothing_stands : ItemsStand [] [] [] []
nothing_stands = record { named = refl; each = λ key past is. absurd (let bad : None ≡ Some past = is in cc); states = refl; watches = refl }

module _ (items : List JournalItem) (records : List (PubKey × Parts)) (keys : List (PubKey × Past)) (states : List (PubKey × KeyState)) (stand : ItemsStand items keys states []) (each : BooksStand records keys) where
  ascending : IsStrictlySortedBy key_cmp (keys_of keys)
  ascending = subst (IsStrictlySortedBy key_cmp) (sym stand.named) (named_sorted items)

  all_brought : ItemsStand (items_of (desk_batches states records)) keys (brought states [] records) []
  all_brought = all_added states [] [] [] records keys nothing_stands each ascending

  -- items name the keys of just the records
  named_same : (q : PubKey) → has q (map key_of items) ≡ has q (keys_of records)
  named_same q = sym (has_named items q) ∙ ap (λ ks. has q ks) (sym stand.named ∙ sym (each_keys Stands records keys each))

  said : (q : PubKey) → IsSaid (has q (keys_of records)) (option_map lasting_state (kept_of states q))
  said q = subst (λ (b : Bool). IsSaid b (option_map lasting_state (kept_of states q))) (named_same q)
      (subst (λ (o : Option KeyState). IsSaid (has q (map key_of items)) o) (ap (λ l. kept_of l q) stand.states ∙ lookup-map_values lasting_state (is_at (key_cmp q)) states) (all_said q [] items false tt))

  same_state : (q : PubKey) → kept_of (lasting_states (brought states [] records)) q ≡ kept_of (lasting_states states) q
  same_state q =
      lookup-map_values lasting_state (is_at (key_cmp q)) (brought states [] records) ∙ ap (λ o. option_map lasting_state o) (brought_of states q [] records)
      ∙ back q (has q (keys_of records)) (kept_of states q) (said q) ∙ sym (lookup-map_values lasting_state (is_at (key_cmp q)) states)

  lasting_sorted : (l : List JournalItem) (held : List (PubKey × KeyState)) → states_in l ≡ lasting_states held → IsStrictlySortedBy key_cmp (keys_of (lasting_states held))
  lasting_sorted l held is = subst (λ (ss : List (PubKey × KeyState)). IsStrictlySortedBy key_cmp (keys_of ss)) is (states_sorted l)

  same_states : lasting_states (brought states [] records) ≡ lasting_states states
  same_states = same_kept (lasting_states (brought states [] records)) (lasting_states states)
      (lasting_sorted (items_of (desk_batches states records)) (brought states [] records) all_brought.states) (lasting_sorted items states stand.states) same_state

  stands_again : ItemsStand (items_of (desk_batches states records)) keys states []
  stands_again = record { named = all_brought.named; each = all_brought.each; states = all_brought.states ∙ same_states; watches = all_brought.watches }

pub snapshot_stands : (items : List JournalItem) (records : List (PubKey × Parts)) (keys : List (PubKey × Past)) (states : List (PubKey × KeyState)) → ItemsStand items keys states [] → BooksStand records keys
    → ItemsStand (items_of (desk_batches states records)) keys states []
snapshot_stands items records keys states stand each = stands_again items records keys states stand each
