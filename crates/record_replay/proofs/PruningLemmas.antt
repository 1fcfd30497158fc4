-- A record that stands for a past has the floors and the entries of the past's own record, so the same book prunes both.
use Rattle.std.proofs.Common.{◌≡◌, ◌⊎◌, inl, inr, Bool, true, not, List, [], ◌∷◌, fold, Some, refl, sym, ◌∙◌, ap, subst, arith, All, Contains, filter}
use Rattle.std.specs.Prelude.{◌↔◌, flat_map}
use Rattle.std.specs.BTreeSet.{insert_key}
use Rattle.std.specs.Cmp.{IsTotalOrder}
use Rattle.std.specs.List.Sorted.{IsStrictlySortedBy}
use Rattle.std.specs.Ordering.{match_ordering}
use Rattle.std.specs.declared.cmp.Ordering.{Ordering}
use Rattle.std.specs.declared.cmp.Ordering.TheVariants.{Less, Equal, Greater}
use Rattle.std.proofs.lemmas.List.Elements.{All-contains, All-contains_itself, All-from_recursion, All-head, All-tail, Contains-append_left, Contains-append_right, Contains-append_cases}
use Rattle.std.proofs.lemmas.List.Kept.{AllPairs-cons}
use Rattle.std.proofs.lemmas.Map.Lookups.{CmpEqualImpliesEq}
use Rattle.std.proofs.lemmas.Map.Views.{All-insert_key}
use Rattle.edge_kit.specs.declared.bytes.Root.{Root}
use Rattle.slash_defs.specs.declared.message.Message.{Message}
use Rattle.slash_defs.specs.declared.message.Message.TheVariants as message
use Rattle.slash_defs.specs.declared.entry.BlockEntry.{BlockEntry}
use Rattle.slash_defs.specs.declared.entry.VoteEntry.{VoteEntry}
use Rattle.slash_defs.specs.declared.book.Book.{Book}
use Rattle.slash_defs.specs.FileOrder.{block_cmp, vote_cmp, blocks_total, votes_total, exact_blocks, exact_votes}
use Rattle.protect_record.specs.declared.floors.Floors.{Floors}
use Rattle.protect_record.specs.Gathering.{SameEntries}
use Rattle.protect_record.specs.Order.{IsInOrder}
use Rattle.protect_record.specs.Parts.{Parts}
use Rattle.protect_record.specs.Pasts.{Past, IsPastBlock, IsPastVote}
use Rattle.protect_record.specs.Floors.{floors_of, IsDeadBlock, IsDeadVote, is_dead_block, is_dead_vote}
use Rattle.protect_record.specs.Standing.{Stands}
use Rattle.protect_record.specs.Exporting.{prune_book}
use Rattle.protect_record.proofs.LiveLemmas.{block_decides, vote_decides}
use Rattle.protect_record.proofs.MemberLemmas.{contains_first, contains_later, contains_cases, contains_none}
use Rattle.protect_record.proofs.UniteLemmas.{dropped, same_in_order}
use Rattle.interchange_io.proofs.OnceLemmas.{sorted_all}
use Rattle.record_replay.specs.Pruning.{own_blocks, own_votes, past_blocks, past_votes, pruning_of, record_of}

-- ---- elements that are inserted in order, each once

module _ {X : Type 0} (cmp : X → X → Ordering) where
  rises_strictly : (xs : List X) → IsStrictlySortedBy cmp xs → IsInOrder cmp xs
  unfolding IsStrictlySortedBy
  rises_strictly [] sorted = λ i j d lt within. absurd (omega arith)
  rises_strictly (x ∷ xs) sorted = AllPairs-cons (λ a b. cmp a b ≡ Less) x xs (All-from_recursion (λ y. cmp x y ≡ Less) xs sorted.0) (rises_strictly xs sorted.1)

  none_rises : IsStrictlySortedBy cmp []
  unfolding IsStrictlySortedBy
  none_rises = tt

  all_inserted : (P : X → Type 0) (found xs : List X) → All P found → All P xs → All P (fold (insert_key cmp) found xs)
  all_inserted P found [] before all = before
  all_inserted P found (x ∷ xs) before all = all_inserted P (insert_key cmp found x) xs (All-insert_key cmp x P found before (All-head P x xs all)) (All-tail P x xs all)

module _ {X : Type 0} (cmp : X → X → Ordering) (exact : CmpEqualImpliesEq cmp) where
  there_by : (o : Ordering) (k x y : X) (xs : List X) → cmp k x ≡ o → ((k ≡ y) ⊎ Contains xs y → Contains (insert_key cmp xs k) y) → (k ≡ y) ⊎ Contains (x ∷ xs) y
      → Contains (match_ordering o (k ∷ x ∷ xs) (x ∷ xs) (x ∷ insert_key cmp xs k)) y
  there_by Less k x y xs is later (inl same) = subst (Contains (k ∷ x ∷ xs)) same (contains_first k (x ∷ xs))
  there_by Less k x y xs is later (inr there) = contains_later k (x ∷ xs) y there
  there_by Equal k x y xs is later (inl same) = subst (Contains (x ∷ xs)) (sym (exact k x is) ∙ same) (contains_first x xs)
  there_by Equal k x y xs is later (inr there) = there
  there_by Greater k x y xs is later (inl same) = contains_later x (insert_key cmp xs k) y (later (inl same))
  there_by Greater k x y xs is later (inr there) = elim (contains_cases x xs y there) [
    | inl first ↦ subst (Contains (x ∷ insert_key cmp xs k)) first (contains_first x (insert_key cmp xs k))
    | inr rest ↦ contains_later x (insert_key cmp xs k) y (later (inr rest))
  ]

  inserted_there : (k y : X) (xs : List X) → (k ≡ y) ⊎ Contains xs y → Contains (insert_key cmp xs k) y
  inserted_there k y [] (inl same) = subst (Contains (k ∷ [])) same (contains_first k [])
  inserted_there k y [] (inr there) = contains_none y there
  inserted_there k y (x ∷ xs) h = there_by (cmp k x) k x y xs refl (inserted_there k y xs) h

  all_there : (y : X) (found xs : List X) → Contains found y ⊎ Contains xs y → Contains (fold (insert_key cmp) found xs) y
  all_there y found [] (inl there) = there
  all_there y found [] (inr there) = contains_none y there
  all_there y found (x ∷ xs) (inl there) = all_there y (insert_key cmp found x) xs (inl (inserted_there x y found (inr there)))
  all_there y found (x ∷ xs) (inr there) = elim (contains_cases x xs y there) [
    | inl first ↦ all_there y (insert_key cmp found x) xs (inl (inserted_there x y found (inl first)))
    | inr rest ↦ all_there y (insert_key cmp found x) xs (inr rest)
  ]

-- a list in order of those of a past that are not dead is what is left of them in order
kept_same : {X : Type 0} (cmp : X → X → Ordering) → IsTotalOrder cmp → CmpEqualImpliesEq cmp → (Of Dead : X → Type 0) (dead : X → Bool) → ((e : X) → (dead e ≡ true → Dead e) × (Dead e → dead e ≡ true))
    → (all kept : List X) → ((e : X) → Contains all e ↔ Of e) → IsInOrder cmp kept → ((e : X) → Contains kept e ↔ (Of e × ¬ (Dead e))) → kept ≡ filter (λ e. not (dead e)) (fold (insert_key cmp) [] all)
kept_same {X} cmp total exact Of Dead dead decides all kept of_past up each =
    let once : List X = fold (insert_key cmp) [] all in
    let drops = dropped cmp Dead dead decides once (filter (λ e. not (dead e)) once) (rises_strictly cmp once (sorted_all cmp total [] all (none_rises cmp))) refl in
    same_in_order cmp total kept (filter (λ e. not (dead e)) once) up drops.in_order
    (λ e has. let h = (each e).0 has in (drops.elements e).1 (all_there cmp exact e [] all (inr ((of_past e).1 h.0)), h.1))
    (λ e has. let h = (drops.elements e).0 has in
    (each e).1 ((of_past e).0 (All-contains (λ y. Contains all y) once e (all_inserted cmp (λ y. Contains all y) [] all (λ k d lt. absurd (omega arith)) (All-contains_itself all)) h.0), h.1))

-- ---- the entries of a past

module _ {X A : Type 0} (f : X → List A) where
  flat_to : (xs : List X) (a : A) → Contains (flat_map f xs) a → (x : X) × Contains xs x × Contains (f x) a
  flat_to [] a h = contains_none a h
  flat_to (x ∷ xs) a h = elim (Contains-append_cases (f x) (flat_map f xs) a h) [
    | inl here ↦ (x, contains_first x xs, here)
    | inr rest ↦ let one = flat_to xs a rest in (one.0, contains_later x xs one.0 one.1, one.2)
  ]

  flat_from : (xs : List X) (a : A) (x : X) → Contains xs x → Contains (f x) a → Contains (flat_map f xs) a
  flat_from [] a x has h = contains_none x has
  flat_from (y ∷ xs) a x has h = elim (contains_cases y xs x has) [
    | inl same ↦ Contains-append_left (f y) (flat_map f xs) a (subst (λ (z : X). Contains (f z) a) (sym same) h)
    | inr later ↦ Contains-append_right (f y) (flat_map f xs) a (flat_from xs a x later h)
  ]

own_block : (m : Message) (e : BlockEntry) → Contains (own_blocks m) e → (root : Root) × (e.root ≡ Some root) × (m ≡ message.Block e.slot root)
own_block (message.Block slot root) e h = at (contains_cases (record { slot = slot; root = Some root }) [] e h) where
  at : (record { slot = slot; root = Some root } ≡ e) ⊎ Contains [] e → (r : Root) × (e.root ≡ Some r) × (message.Block slot root ≡ message.Block e.slot r)
  at (inl same) = subst (λ (x : BlockEntry). (r : Root) × (x.root ≡ Some r) × (message.Block slot root ≡ message.Block x.slot r)) same (root, refl, refl)
  at (inr none) = contains_none e none
own_block (message.Vote source target root) e h = contains_none e h

own_vote : (m : Message) (e : VoteEntry) → Contains (own_votes m) e → (root : Root) × (e.root ≡ Some root) × (m ≡ message.Vote e.source e.target root)
own_vote (message.Vote source target root) e h = at (contains_cases (record { target = target; source = source; root = Some root }) [] e h) where
  at : (record { target = target; source = source; root = Some root } ≡ e) ⊎ Contains [] e → (r : Root) × (e.root ≡ Some r) × (message.Vote source target root ≡ message.Vote e.source e.target r)
  at (inl same) = subst (λ (x : VoteEntry). (r : Root) × (x.root ≡ Some r) × (message.Vote source target root ≡ message.Vote x.source x.target r)) same (root, refl, refl)
  at (inr none) = contains_none e none
own_vote (message.Block slot root) e h = contains_none e h

past_block_to : (past : Past) (e : BlockEntry) → Contains (past_blocks past) e → IsPastBlock past e
past_block_to past e h = at (Contains-append_cases (flat_map (λ b. b.blocks) past.books) (flat_map own_blocks past.own) e h) where
  at : Contains (flat_map (λ b. b.blocks) past.books) e ⊎ Contains (flat_map own_blocks past.own) e → IsPastBlock past e
  at (inl in_book) = inl (flat_to (λ (b : Book). b.blocks) past.books e in_book)
  at (inr own) =
      let one = flat_to own_blocks past.own e own in
      let its = own_block one.0 e one.2 in
      inr (its.0, its.1, subst (λ (m : Message). Contains past.own m) its.2 one.1)

past_block_from : (past : Past) (e : BlockEntry) → IsPastBlock past e → Contains (past_blocks past) e
past_block_from past e (inl book) =
    Contains-append_left (flat_map (λ b. b.blocks) past.books) (flat_map own_blocks past.own) e (flat_from (λ (b : Book). b.blocks) past.books e book.0 book.1 book.2)
past_block_from past e (inr own) = Contains-append_right (flat_map (λ b. b.blocks) past.books) (flat_map own_blocks past.own) e
    (flat_from own_blocks past.own e (message.Block e.slot own.0) own.2 (subst (λ o. Contains (record { slot = e.slot; root = o } ∷ []) e) own.1 (contains_first e [])))

past_vote_to : (past : Past) (e : VoteEntry) → Contains (past_votes past) e → IsPastVote past e
past_vote_to past e h = at (Contains-append_cases (flat_map (λ b. b.votes) past.books) (flat_map own_votes past.own) e h) where
  at : Contains (flat_map (λ b. b.votes) past.books) e ⊎ Contains (flat_map own_votes past.own) e → IsPastVote past e
  at (inl in_book) = inl (flat_to (λ (b : Book). b.votes) past.books e in_book)
  at (inr own) =
      let one = flat_to own_votes past.own e own in
      let its = own_vote one.0 e one.2 in
      inr (its.0, its.1, subst (λ (m : Message). Contains past.own m) its.2 one.1)

past_vote_from : (past : Past) (e : VoteEntry) → IsPastVote past e → Contains (past_votes past) e
past_vote_from past e (inl book) =
    Contains-append_left (flat_map (λ b. b.votes) past.books) (flat_map own_votes past.own) e (flat_from (λ (b : Book). b.votes) past.books e book.0 book.1 book.2)
past_vote_from past e (inr own) = Contains-append_right (flat_map (λ b. b.votes) past.books) (flat_map own_votes past.own) e
    (flat_from own_votes past.own e (message.Vote e.source e.target own.0) own.2 (subst (λ o. Contains (record { target = e.target; source = e.source; root = o } ∷ []) e) own.1 (contains_first e [])))

-- ---- the record of a past

blocks_kept : (parts : Parts) (past : Past) → Stands parts past → parts.blocks ≡ filter (λ e. not (is_dead_block (floors_of past.books) e)) (fold (insert_key block_cmp) [] (past_blocks past))
blocks_kept parts past stands = kept_same block_cmp blocks_total exact_blocks (IsPastBlock past) (IsDeadBlock (floors_of past.books)) (is_dead_block (floors_of past.books)) (block_decides (floors_of past.books)) (past_blocks past) parts.blocks
    (λ e. (past_block_to past e, past_block_from past e)) stands.blocks_in_order (λ e. subst (λ (f : Floors). Contains parts.blocks e ↔ (IsPastBlock past e × ¬ (IsDeadBlock f e))) stands.floors (stands.blocks e))

votes_kept : (parts : Parts) (past : Past) → Stands parts past → parts.votes ≡ filter (λ e. not (is_dead_vote (floors_of past.books) e)) (fold (insert_key vote_cmp) [] (past_votes past))
votes_kept parts past stands = kept_same vote_cmp votes_total exact_votes (IsPastVote past) (IsDeadVote (floors_of past.books)) (is_dead_vote (floors_of past.books)) (vote_decides (floors_of past.books)) (past_votes past) parts.votes
    (λ e. (past_vote_to past e, past_vote_from past e)) stands.votes_in_order (λ e. subst (λ (f : Floors). Contains parts.votes e ↔ (IsPastVote past e × ¬ (IsDeadVote f e))) stands.floors (stands.votes e))

pub record_same : (parts : Parts) (past : Past) → Stands parts past → SameEntries parts (record_of past)
record_same parts past stands = record { floors = stands.floors; blocks = blocks_kept parts past stands; votes = votes_kept parts past stands }

-- the book that prunes a record of these floors and entries
pruned_from : Floors → List BlockEntry → List VoteEntry → Book
pruned_from floors blocks votes = prune_book (record { floors = floors; blocks = blocks; votes = votes; block_room = 0; vote_room = 0 })

pub pruned_same : (parts : Parts) (past : Past) → Stands parts past → prune_book parts ≡ pruning_of past
unfolding pruning_of pruned_from
pruned_same parts past stands =
    let floors : Floors = floors_of past.books in
    ap (λ f. pruned_from f parts.blocks parts.votes) stands.floors ∙ ap (λ bs. pruned_from floors bs parts.votes) (blocks_kept parts past stands)
    ∙ ap (λ vs. pruned_from floors (filter (λ e. not (is_dead_block floors e)) (fold (insert_key block_cmp) [] (past_blocks past))) vs) (votes_kept parts past stands)
