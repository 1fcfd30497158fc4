-- The batches of a snapshot take no more bytes than their records weigh.
use Rattle.std.proofs.Common.{◌≡◌, ℕ, zero, suc, ◌+◌, ◌*◌, ◌≤◌, List, [], ◌∷◌, ◌++◌, length, map, take, drop, Option, None, Some, refl, sym, ◌∙◌, ap, arith, length-append}
use Rattle.std.specs.Prelude.{flat_map, sum_by, IfSome}
use Rattle.std.specs.List.{AllByRecursion}
use Rattle.std.proofs.lemmas.List.{take-append-drop}
use Rattle.std.proofs.lemmas.List.Sums.{sum-map, sum_by-append, sum_by-cons}
use Rattle.edge_kit.specs.declared.bytes.PubKey.{PubKey}
use Rattle.edge_kit.specs.declared.bytes.Root.{Root}
use Rattle.slash_defs.specs.declared.entry.BlockEntry.{BlockEntry}
use Rattle.slash_defs.specs.declared.entry.VoteEntry.{VoteEntry}
use Rattle.protect_record.specs.Parts.{Parts}
use Rattle.record_codec.specs.Spelling.{item_bytes, number, optional_number, optional_pair, optional_root, spelling}
use Rattle.record_codec.specs.declared.item.JournalItem.{JournalItem}
use Rattle.record_codec.specs.declared.item.JournalItem.TheVariants as item
use Rattle.record_replay.specs.declared.state.KeyState.{KeyState}
use Rattle.record_replay.specs.declared.state.KeyState.TheVariants.{Known, Active, Closing, Closed}
use Rattle.key_snapshot.specs.Cuts.{cut, cut_by}
use Rattle.key_snapshot.specs.Snapshots.{entry_items, snapshot_of, state_batches}
use Rattle.key_snapshot.specs.Weights.{IsSized, framed_size, key_weight}

-- ---- the length of an item

number_length : (n : ℕ) → length (number n) ≡ 8
unfolding number
number_length n = refl

root_length : (root : Option Root) → IfSome root (λ r. length r.0 ≡ 32) → length (optional_root root) ≤ 33
root_length None sized = omega arith
root_length (Some r) sized = omega (arith, sized)

maybe_length : (n : Option ℕ) → length (optional_number n) ≤ 9
maybe_length None = omega arith
maybe_length (Some n) = omega (arith, number_length n)

pair_length : (pair : Option (ℕ × ℕ)) → length (optional_pair pair) ≤ 17
pair_length None = omega arith
pair_length (Some pair) = omega (arith, length-append (number pair.0) (number pair.1), number_length pair.0, number_length pair.1)

block_length : (key : PubKey) (entry : BlockEntry) → length key.0 ≡ 48 → IfSome entry.root (λ r. length r.0 ≡ 32) → length (item_bytes (item.Block key entry)) ≤ 90
block_length key entry long sized =
    omega (arith, length-append key.0 (number entry.slot ++ optional_root entry.root), length-append (number entry.slot) (optional_root entry.root), number_length entry.slot, root_length entry.root sized)

vote_length : (key : PubKey) (entry : VoteEntry) → length key.0 ≡ 48 → IfSome entry.root (λ r. length r.0 ≡ 32) → length (item_bytes (item.Vote key entry)) ≤ 98
vote_length key entry long sized =
    omega (
      arith,
      length-append key.0 (number entry.source ++ (number entry.target ++ optional_root entry.root)),
      length-append (number entry.source) (number entry.target ++ optional_root entry.root),
      length-append (number entry.target) (optional_root entry.root),
      number_length entry.source,
      number_length entry.target,
      root_length entry.root sized,
    )

floors_length : (key : PubKey) (block : Option ℕ) (vote : Option (ℕ × ℕ)) → length key.0 ≡ 48 → length (item_bytes (item.Floors key block vote)) ≤ 75
floors_length key block vote long = omega (arith, length-append key.0 (optional_number block ++ optional_pair vote), length-append (optional_number block) (optional_pair vote), maybe_length block, pair_length vote)

-- ---- batches

-- the bytes of a batch, and of an item in a batch of its own, with a frame
framed : List JournalItem → ℕ
framed batch = length (spelling batch) + 5

alone : JournalItem → ℕ
alone i = length (item_bytes i) + 5

abbrev framed_by : List (List JournalItem) → ℕ
framed_by batches = sum_by framed batches

framed_is : (batches : List (List JournalItem)) → framed_size batches ≡ framed_by batches
unfolding framed
framed_is batches = sum-map (λ batch. length (spelling batch) + 5) batches

spelled_length : (items : List JournalItem) → length (spelling items) ≤ sum_by alone items
unfolding alone
spelled_length [] = omega arith
spelled_length (i ∷ items) = omega (arith, length-append (item_bytes i) (spelling items), spelled_length items, sum_by-cons alone i items)

-- one frame for all takes no more than a frame for each
batch_length : (i : JournalItem) (items : List JournalItem) → framed (i ∷ items) ≤ sum_by alone (i ∷ items)
unfolding framed alone
batch_length i items = omega (arith, length-append (item_bytes i) (spelling items), spelled_length items, sum_by-cons alone i items)

cut_length : (fuel limit : ℕ) (items : List JournalItem) → framed_by (cut_by fuel (suc limit) items) ≤ sum_by alone items
cut_length zero limit items = omega arith
cut_length (suc fuel) limit [] = omega arith
cut_length (suc fuel) limit (i ∷ items) =
    let first : List JournalItem = i ∷ take limit items in
    let rest : List JournalItem = drop (suc limit) (i ∷ items) in
    let whole : sum_by alone (i ∷ items) ≡ sum_by alone first + sum_by alone rest = sym (ap (λ l. sum_by alone l) (take-append-drop (suc limit) (i ∷ items))) ∙ sum_by-append alone first rest in
    omega (arith, whole, batch_length i (take limit items), cut_length fuel limit rest, sum_by-cons framed first (cut_by fuel (suc limit) rest))

-- ---- the parts of a snapshot

blocks_weigh : (key : PubKey) (blocks : List BlockEntry) → length key.0 ≡ 48 → AllByRecursion (λ entry. IfSome entry.root (λ r. length r.0 ≡ 32)) blocks → sum_by alone (map (item.Block key) blocks) ≤ 95 * length blocks
unfolding alone
blocks_weigh key [] long sized = omega arith
blocks_weigh key (b ∷ blocks) long sized =
    omega (arith, sum_by-cons alone (item.Block key b) (map (item.Block key) blocks), block_length key b long sized.0, blocks_weigh key blocks long sized.1)

votes_weigh : (key : PubKey) (votes : List VoteEntry) → length key.0 ≡ 48 → AllByRecursion (λ entry. IfSome entry.root (λ r. length r.0 ≡ 32)) votes → sum_by alone (map (item.Vote key) votes) ≤ 103 * length votes
unfolding alone
votes_weigh key [] long sized = omega arith
votes_weigh key (v ∷ votes) long sized =
    omega (arith, sum_by-cons alone (item.Vote key v) (map (item.Vote key) votes), vote_length key v long sized.0, votes_weigh key votes long sized.1)

entries_weigh : (key : PubKey) (parts : Parts) → IsSized key parts → sum_by alone (entry_items key parts) ≤ 95 * length parts.blocks + 103 * length parts.votes
entries_weigh key parts sized =
    omega (arith, sum_by-append alone (map (item.Block key) parts.blocks) (map (item.Vote key) parts.votes), blocks_weigh key parts.blocks sized.key_length sized.block_roots, votes_weigh key parts.votes sized.key_length sized.vote_roots)

one_length : (i : JournalItem) → framed (i ∷ []) ≡ length (item_bytes i) + 5
unfolding framed
one_length i = omega (arith, length-append (item_bytes i) [])

state_weighs : (key : PubKey) (state : KeyState) → length key.0 ≡ 48 → framed_by (state_batches key state) ≤ 54
state_weighs key Known long = omega arith
state_weighs key Active long = omega (arith, sum_by-cons framed (item.ActivateUndated key ∷ []) [], one_length (item.ActivateUndated key))
state_weighs key Closing long = omega (arith, sum_by-cons framed (item.ActivateUndated key ∷ []) [], one_length (item.ActivateUndated key))
state_weighs key Closed long = omega (arith, sum_by-cons framed (item.Close key ∷ []) [], one_length (item.Close key))

snapshot_weighs : (key : PubKey) (state : KeyState) (parts : Parts) → IsSized key parts → framed_by (snapshot_of key state parts) ≤ key_weight parts
unfolding cut
snapshot_weighs key state parts sized =
    let floors : JournalItem = item.Floors key parts.floors.block parts.floors.vote in
    let more : List (List JournalItem) = (floors ∷ []) ∷ state_batches key state in
    omega (
      arith,
      sum_by-append framed (cut 4096 (entry_items key parts)) more,
      sum_by-cons framed (floors ∷ []) (state_batches key state),
      one_length floors,
      floors_length key parts.floors.block parts.floors.vote sized.key_length,
      state_weighs key state sized.key_length,
      cut_length (length (entry_items key parts)) 4095 (entry_items key parts),
      entries_weigh key parts sized,
    )

all_weigh : (state_of : PubKey → KeyState) (keys : List (PubKey × Parts)) → AllByRecursion (λ kept. IsSized kept.0 kept.1) keys
    → framed_by (flat_map (λ kept. snapshot_of kept.0 (state_of kept.0) kept.1) keys) ≤ sum_by (λ kept. key_weight kept.1) keys
all_weigh state_of [] sized = omega arith
all_weigh state_of (k ∷ keys) sized =
    let weigh : PubKey × Parts → ℕ = λ kept. key_weight kept.1 in
    let first : List (List JournalItem) = snapshot_of k.0 (state_of k.0) k.1 in
    let rest : List (List JournalItem) = flat_map (λ kept. snapshot_of kept.0 (state_of kept.0) kept.1) keys in
    omega (arith, sum_by-append framed first rest, sum_by-cons weigh k keys, snapshot_weighs k.0 (state_of k.0) k.1 sized.0, all_weigh state_of keys sized.1)

pub snapshots_weigh : (state_of : PubKey → KeyState) (keys : List (PubKey × Parts)) → AllByRecursion (λ kept. IsSized kept.0 kept.1) keys
    → framed_size (flat_map (λ kept. snapshot_of kept.0 (state_of kept.0) kept.1) keys) ≤ sum_by (λ kept. key_weight kept.1) keys
snapshots_weigh state_of keys sized =
    let batches : List (List JournalItem) = flat_map (λ kept. snapshot_of kept.0 (state_of kept.0) kept.1) keys in
    omega (arith, framed_is batches, all_weigh state_of keys sized)
