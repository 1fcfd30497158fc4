-- Entries that are taken off the front until a batch is full are the next part of the list that is cut.
use Rattle.std.proofs.Common.{◌≡◌, ◌⊎◌, inl, inr, ℕ, ◌+◌, ◌<◌, ◌≤◌, List, [], ◌∷◌, ◌++◌, length, map, take, drop, refl, sym, ◌∙◌, ap, append-nil, append_assoc, arith, length-append}
use Rattle.std.proofs.lemmas.List.{drop_at, map-append, take_at}
use Rattle.edge_kit.specs.declared.bytes.PubKey.{PubKey}
use Rattle.slash_defs.specs.declared.entry.BlockEntry.{BlockEntry}
use Rattle.slash_defs.specs.declared.entry.VoteEntry.{VoteEntry}
use Rattle.slash_defs.specs.declared.entry.Entry.{Entry}
use Rattle.slash_defs.specs.declared.entry.Entry.TheVariants as entry
use Rattle.protect_record.specs.Parts.{Parts}
use Rattle.record_codec.specs.declared.item.JournalItem.{JournalItem}
use Rattle.record_codec.specs.declared.item.JournalItem.TheVariants as item
use Rattle.key_snapshot.specs.Cuts.{cut}
use Rattle.key_snapshot.specs.Snapshots.{entry_items}
use Rattle.key_snapshot.specs.Taking.{Takes, item_of}
use Rattle.key_snapshot.proofs.CutLemmas.{cut-append, cut-nil}

-- ---- of one list, and then of the next

module _ (limit : ℕ) (key : PubKey) (first second left other : List Entry) (half batch : List JournalItem)
    (one : Takes limit (map (item_of key) first) half (map (item_of key) left)) (two : Takes limit (half ++ map (item_of key) second) batch (map (item_of key) other)) where
  abbrev items : List Entry → List JournalItem
  items entries = map (item_of key) entries

  whole : items (first ++ second) ≡ half ++ (items left ++ items second)
  whole = map-append (item_of key) first second ∙ ap (λ l. l ++ items second) one.split ∙ append_assoc half (items left) (items second)

  -- a batch that the first list fills takes nothing of the second
  as_long : length half ≡ limit → length batch ≡ length half
  as_long full = at two.full where
    lengths : length half + length (items second) ≡ length batch + length (items other)
    lengths = sym (length-append half (items second)) ∙ ap length two.split ∙ length-append batch (items other)

    at : (length batch ≡ limit) ⊎ (items other ≡ []) → length batch ≡ length half
    at (inl also) = also ∙ sym full
    at (inr none) = let nothing : length (items other) ≡ 0 = ap length none in let within : length batch ≤ limit = two.within in omega (arith, lengths, nothing, within, full)

  split_at : (length half ≡ limit) ⊎ (items left ≡ []) → items (first ++ second) ≡ batch ++ items (left ++ other)
  split_at (inl full) =
      let same : batch ≡ half = sym (take_at batch (items other) (length half) (as_long full)) ∙ ap (λ l. take (length half) l) (sym two.split) ∙ take_at half (items second) (length half) refl in
      let rest : items other ≡ items second = sym (drop_at batch (items other) (length half) (as_long full)) ∙ ap (λ l. drop (length half) l) (sym two.split) ∙ drop_at half (items second) (length half) refl in
      whole ∙ ap (λ l. l ++ (items left ++ items second)) (sym same) ∙ ap (λ l. batch ++ (items left ++ l)) (sym rest) ∙ ap (λ l. batch ++ l) (sym (map-append (item_of key) left other))
  split_at (inr none) =
      whole ∙ ap (λ l. half ++ (l ++ items second)) none ∙ two.split ∙ ap (λ l. batch ++ (l ++ items other)) (sym none) ∙ ap (λ l. batch ++ l) (sym (map-append (item_of key) left other))

  full_at : (length half ≡ limit) ⊎ (items left ≡ []) → (length batch ≡ limit) ⊎ (items other ≡ []) → (length batch ≡ limit) ⊎ (items (left ++ other) ≡ [])
  full_at (inl full) also = inl (as_long full ∙ full)
  full_at (inr none) (inl full) = inl full
  full_at (inr none) (inr also) = inr (map-append (item_of key) left other ∙ ap (λ l. l ++ items other) none ∙ also)

  pub took_both : Takes limit (items (first ++ second)) batch (items (left ++ other))
  took_both = record { split = split_at one.full; within = two.within; full = full_at one.full two.full }

-- ---- batch by batch

-- the items of a key's entries
items_of_blocks : (key : PubKey) (blocks : List BlockEntry) → map (item_of key) (map entry.Block blocks) ≡ map (item.Block key) blocks
items_of_blocks key [] = refl
items_of_blocks key (b ∷ blocks) = ap (λ l. item.Block key b ∷ l) (items_of_blocks key blocks)

items_of_votes : (key : PubKey) (votes : List VoteEntry) → map (item_of key) (map entry.Vote votes) ≡ map (item.Vote key) votes
items_of_votes key [] = refl
items_of_votes key (v ∷ votes) = ap (λ l. item.Vote key v ∷ l) (items_of_votes key votes)

pub all_items : (key : PubKey) (parts : Parts) (blocks votes : List Entry) → blocks ≡ map entry.Block parts.blocks → votes ≡ map entry.Vote parts.votes → map (item_of key) (blocks ++ votes) ≡ entry_items key parts
all_items key parts blocks votes first second =
    map-append (item_of key) blocks votes
    ∙ ap (λ l. l ++ map (item_of key) votes) (ap (λ l. map (item_of key) l) first ∙ items_of_blocks key parts.blocks)
    ∙ ap (λ l. map (item.Block key) parts.blocks ++ l) (ap (λ l. map (item_of key) l) second ∙ items_of_votes key parts.votes)

-- nothing was taken, so nothing is left
pub cut_ends : (limit : ℕ) (before taken left : List JournalItem) → 0 < limit → Takes limit before taken left → length taken ≡ 0 → cut limit before ≡ []
cut_ends limit before [] left some takes none = ap (λ l. cut limit l) (takes.split ∙ at takes.full) ∙ cut-nil limit where
  at : (0 ≡ limit) ⊎ (left ≡ []) → left ≡ []
  at (inl full) = absurd (omega arith)
  at (inr end) = end
cut_ends limit before (i ∷ taken) left some takes none = absurd (omega arith)

-- what was taken is the next part
pub cut_next : (limit : ℕ) (before taken left : List JournalItem) → 0 < limit → Takes limit before taken left → 0 < length taken → cut limit before ≡ taken ∷ cut limit left
cut_next limit before [] left some takes any = absurd (omega arith)
cut_next limit before (i ∷ taken) left some takes any = ap (λ l. cut limit l) takes.split ∙ cut-append limit i taken left some takes.within takes.full

-- ---- the steps of adding the batches behind others

pub begins : (done : List (List JournalItem)) (key : PubKey) (parts : Parts) (blocks votes : List Entry) → blocks ≡ map entry.Block parts.blocks → votes ≡ map entry.Vote parts.votes
    → done ++ cut 4096 (entry_items key parts) ≡ done ++ cut 4096 (map (item_of key) (blocks ++ votes))
begins done key parts blocks votes first second = ap (λ items. done ++ cut 4096 items) (sym (all_items key parts blocks votes first second))

pub goes_on : (all done pushed : List (List JournalItem)) (before taken left : List JournalItem) → all ≡ done ++ cut 4096 before → Takes 4096 before taken left → 0 < length taken → pushed ≡ done ++ taken ∷ []
    → all ≡ pushed ++ cut 4096 left
goes_on all done pushed before taken left so_far takes any push =
    so_far ∙ ap (λ l. done ++ l) (cut_next 4096 before taken left (omega arith) takes any) ∙ sym (append_assoc done (taken ∷ []) (cut 4096 left)) ∙ ap (λ l. l ++ cut 4096 left) (sym push)

pub ends : (all done : List (List JournalItem)) (before taken left : List JournalItem) → all ≡ done ++ cut 4096 before → Takes 4096 before taken left → length taken ≡ 0 → done ≡ all
ends all done before taken left so_far takes none = sym (so_far ∙ ap (λ l. done ++ l) (cut_ends 4096 before taken left (omega arith) takes none) ∙ append-nil done)
