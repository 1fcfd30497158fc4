-- Gaining the greatest floors and one vote is merging the book that prunes.
use Rattle.std.proofs.Common.{◌≡◌, ℕ, ◌⊎◌, inl, inr, ◌==◌, List, [], Option, Some, None, refl, sym, ◌∙◌, ap, Contains, filter}
use Rattle.std.specs.declared.cmp.Ordering.{Ordering}
use Rattle.std.proofs.lemmas.Bool.{eqb-true, eq-eqb}
use Rattle.slash_defs.specs.declared.entry.BlockEntry.{BlockEntry}
use Rattle.slash_defs.specs.declared.entry.VoteEntry.{VoteEntry}
use Rattle.slash_defs.specs.FileOrder.{block_cmp}
use Rattle.protect_record.specs.Parts.{Parts}
use Rattle.protect_record.specs.Floors.{least_by, least_pair_by, greatest_by, epochs, book_floors, IsDeadBlock}
use Rattle.protect_record.specs.Gathering.{HasGathered, Gathers, IsMerge}
use Rattle.protect_record.specs.Exporting.{blocks_at, pruned_vote, prune_book, greatest_epochs}
use Rattle.protect_record.proofs.MemberLemmas.{contains_none}
use Rattle.protect_record.proofs.BoundLemmas.{same_floors}
use Rattle.protect_record.proofs.FloorLemmas.{least_below, least_attained, greatest_attained, some-injective}
use Rattle.protect_record.proofs.UniteLemmas.{contains_filter, contains_from_filter}

-- the blocks at the greatest slot have that slot as their least
least_at : (blocks : List BlockEntry) (o : Option ℕ) → greatest_by (λ e. Some e.slot) blocks ≡ o → least_by (λ e. e.slot) (blocks_at o blocks) ≡ o
least_at blocks None is = refl
least_at blocks (Some slot) is =
    let top = greatest_attained (λ e. Some e.slot) blocks slot is in
    let there = contains_filter (λ e. e.slot == slot) blocks top.0 top.1 (eq-eqb top.0.slot slot (some-injective top.0.slot slot top.2)) in
    let least = least_below (λ e. e.slot) (filter (λ e. e.slot == slot) blocks) top.0 there in
    let one = least_attained (λ e. e.slot) (filter (λ e. e.slot == slot) blocks) least.0 least.1 in
    let same : one.0.slot ≡ slot = eqb-true one.0.slot slot (contains_from_filter (λ e. e.slot == slot) blocks one.0 one.1).1 in
    least.1 ∙ ap Some (sym one.2 ∙ same)

-- those blocks are kept already
kept_at : (blocks : List BlockEntry) (o : Option ℕ) (e : BlockEntry) → Contains (blocks_at o blocks) e → Contains blocks e
kept_at blocks None e has = contains_none e has
kept_at blocks (Some slot) e has = (contains_from_filter (λ x. x.slot == slot) blocks e has).0

-- the one vote sets the floors that it was made of
vote_sets : (o : Option (ℕ × ℕ)) (votes : List VoteEntry) → least_pair_by epochs (pruned_vote o votes) ≡ o
vote_sets None votes = refl
vote_sets (Some p) votes = refl

-- gaining kept blocks again changes nothing
gathered_again : {X : Type 0} (cmp : X → X → Ordering) (Dead : X → Type 0) (old more new : List X) → ((e : X) → Contains more e → Contains old e) → HasGathered cmp Dead old [] new → HasGathered cmp Dead old more new
gathered_again {X} cmp Dead old more new kept gathers = record {
  elements = λ e. (λ has. forth e ((gathers.elements e).0 has), λ h. (gathers.elements e).1 (inl (back e h.0), h.1));
  in_order = gathers.in_order;
} where
  forth : (e : X) → (Contains old e ⊎ Contains [] e) × ¬ (Dead e) → (Contains old e ⊎ Contains more e) × ¬ (Dead e)
  forth e (inl has, live) = (inl has, live)
  forth e (inr has, live) = contains_none e has

  back : (e : X) → Contains old e ⊎ Contains more e → Contains old e
  back e (inl has) = has
  back e (inr has) = kept e has

pub prune_sets : (parts : Parts) → book_floors (prune_book parts) ≡ record { block = greatest_by (λ e. Some e.slot) parts.blocks; vote = greatest_epochs parts.floors.vote parts.votes }
prune_sets parts = same_floors _ _ (least_at parts.blocks (greatest_by (λ e. Some e.slot) parts.blocks) refl) (vote_sets (greatest_epochs parts.floors.vote parts.votes) parts.votes)

pub pruned : (old new : Parts) → Gathers old new (book_floors (prune_book old)) [] (prune_book old).votes → IsMerge old (prune_book old) new
pruned old new gathers = record {
  floors = gathers.floors;
  blocks = gathered_again block_cmp (IsDeadBlock new.floors) old.blocks (prune_book old).blocks new.blocks (λ e has. kept_at old.blocks (greatest_by (λ x. Some x.slot) old.blocks) e has) gathers.blocks;
  votes = gathers.votes;
}
