-- What is merged to forget what is old refuses no message of a kept epoch that passed before.
use Rattle.std.proofs.Common.{◌≡◌, ◌≢◌, ℕ, ◌<◌, ◌≤◌, max, ◌⊎◌, inl, inr, ◌/◌, Bool, true, false, cond, List, [], ◌∷◌, length, Option, Some, None, refl, sym, ◌∙◌, ap, subst, arith, Contains, IfSome, IsSomeAnd, filter}
use Rattle.std.proofs.lemmas.Bool.{cases_lt, ltb-true}
use Rattle.std.proofs.lemmas.List.Elements.{All-contains, All-push}
use Rattle.edge_kit.specs.declared.bytes.Root.{Root}
use Rattle.slash_defs.specs.declared.message.Message.{Message}
use Rattle.slash_defs.specs.declared.message.Message.TheVariants as message
use Rattle.slash_defs.specs.declared.entry.BlockEntry.{BlockEntry}
use Rattle.slash_defs.specs.declared.entry.VoteEntry.{VoteEntry}
use Rattle.protect_record.specs.Parts.{Parts}
use Rattle.protect_record.specs.Pasts.{Past, with_book}
use Rattle.protect_record.specs.Passing.{Passes, BookRefuses}
use Rattle.protect_record.specs.Standing.{Stands}
use Rattle.slash_defs.specs.declared.entry.Entry.TheVariants as entry
use Rattle.slash_defs.specs.Slashing.{Conflict}
use Rattle.protect_record.specs.Floors.{epochs, greater_pair, greatest_pair_by}
use Rattle.protect_record.specs.declared.verdict.Verdict.TheVariants as verdict
use Rattle.protect_record.specs.Exporting.{export_of, exported_votes, greatest_epochs, is_regular_at, vote_without_root}
use Rattle.protect_record.proofs.BlockLemmas.{refused_block}
use Rattle.protect_record.proofs.VoteLemmas.{refused, vote_passed}
use Rattle.protect_record.proofs.FloorLemmas.{some-injective}
use Rattle.protect_record.proofs.MemberLemmas.{contains_cases, contains_first, contains_later, contains_none}
use Rattle.duty_pruning.specs.Pruning.{is_old_block, is_old_vote, kept_from_old, pruning_book}
use Rattle.pruning_law.specs.KeptEpochs.{IsOfKeptEpoch}
use Rattle.pruning_law.proofs.NewestLemmas.{has_old}

-- ---- blocks

block_kept : (parts : Parts) (past : Past) (few from slot : ℕ) (root : Root) → Stands parts past → from ≤ slot / 32 → Passes past (message.Block slot root)
    → ¬ (BookRefuses (pruning_book few from (export_of parts)) (message.Block slot root))
block_kept parts past few from slot root stands high passes (inl conflict) =
    refused_block past slot root conflict.0 passes conflict.2 ((stands.blocks conflict.0).0 ((has_old (is_old_block from) few parts.blocks).among conflict.0 conflict.1)).0
block_kept parts past few from slot root stands high passes (inr low) =
    let kept : List BlockEntry = kept_from_old few (length (filter (is_old_block from) parts.blocks)) parts.blocks in
    let one = (has_old (is_old_block from) few parts.blocks).one low.0 in
    let under : slot ≤ one.0.slot = All-contains (λ e. slot ≤ e.slot) kept one.0 low.1 one.1 in
    let old : one.0.slot / 32 < from = ltb-true (one.0.slot / 32) from one.2 in
    omega (arith, high, under, old)

-- ---- votes

-- the votes that are kept of these
abbrev kept_votes : ℕ → ℕ → List VoteEntry → List VoteEntry
kept_votes few from votes = kept_from_old few (length (filter (is_old_vote from) votes)) votes

-- one vote has the greatest source and no greater target than the greatest
abbrev HasTop : List VoteEntry → Option (ℕ × ℕ) → Type 0
HasTop votes top = IfSome top (λ q. (e : VoteEntry) × Contains votes e × (e.source ≡ q.0) × (e.target ≤ q.1))

has_top : (votes : List VoteEntry) → HasTop votes (greatest_pair_by (λ e. Some (epochs e)) votes)
has_top [] = tt
has_top (v ∷ vs) = at (greatest_pair_by (λ e. Some (epochs e)) vs) (has_top vs) where
  greater : (p : ℕ × ℕ) → HasTop vs (Some p) → (v.source < p.0) ⊎ (p.0 ≤ v.source) → HasTop (v ∷ vs) (Some (max v.source p.0, max v.target p.1))
  greater p (e, has, same, le) (inl lt) = (e, contains_later v vs e has, omega (arith, same, lt), omega (arith, le))
  greater p (e, has, same, le) (inr up) = (v, contains_first v vs, omega (arith, up), omega arith)

  at : (top : Option (ℕ × ℕ)) → HasTop vs top → HasTop (v ∷ vs) (greater_pair (Some (epochs v)) top)
  at None h = (v, contains_first v vs, refl, omega arith)
  at (Some p) h = greater p h (cases_lt v.source p.0)

-- what a vote without a root is of
of_one : (o : Option (ℕ × ℕ)) (e : VoteEntry) → Contains (vote_without_root o) e → o ≡ Some (epochs e)
of_one None e has = contains_none e has
of_one (Some p) e has = at (contains_cases (record { target = p.1; source = p.0; root = None }) [] e has) where
  at : (record { target = p.1; source = p.0; root = None } ≡ e) ⊎ Contains [] e → Some p ≡ Some (epochs e)
  at (inl same) = ap (λ x. Some (epochs x)) same
  at (inr none) = contains_none e none

-- of one vote all that is kept is old
one_is_old : (few from : ℕ) (o : Option (ℕ × ℕ)) (e : VoteEntry) → Contains (kept_votes few from (vote_without_root o)) e → e.target < from
one_is_old few from o e has =
    let old = has_old (is_old_vote from) few (vote_without_root o) in
    let one = old.one (λ none. contains_none e (subst (λ (vs : List VoteEntry). Contains vs e) none has)) in
    let same : epochs e ≡ epochs one.0 = some-injective (epochs e) (epochs one.0) (sym (of_one o e (old.among e has)) ∙ of_one o one.0 (old.among one.0 one.1)) in
    let lt : one.0.target < from = ltb-true one.0.target from one.2 in
    subst (λ (p : ℕ × ℕ). p.1 < from) (sym same) lt

module _ (parts : Parts) (past : Past) (few from s t : ℕ) (root : Root) (stands : Stands parts past) (high : from ≤ t) (passes : Passes past (message.Vote s t root)) where
  -- a vote of the record whose target is before this one's has no later source, and no floor is above the source
  source_below : (e : VoteEntry) → Contains parts.votes e → e.target < t → e.source ≤ s
  source_below e has before = at (cases_lt s e.source) where
    at : (s < e.source) ⊎ (e.source ≤ s) → e.source ≤ s
    at (inl inner) = absurd (refused past s t root e passes (inr (inr (inner, before))) ((stands.votes e).0 has).0)
    at (inr le) = le

  floor_below : (floor : ℕ × ℕ) → parts.floors.vote ≡ Some floor → floor.0 ≤ s
  floor_below floor is = at (cases_lt s floor.0) where
    at : (s < floor.0) ⊎ (floor.0 ≤ s) → floor.0 ≤ s
    at (inl lt) =
        let P : Option (ℕ × ℕ) → Type 0 = λ o. IsSomeAnd o (λ f. (floor.0 ≡ f.0) × (s < f.0)) in
        let here : P (Some floor) = (refl, lt) in
        let no = vote_passed parts past s t root stands passes (verdict.SourceBelow floor.0) (subst P (sym is) here) in cc
    at (inr le) = le

  -- so it is with the one vote that stands for all
  top_below : (floor : ℕ × ℕ) → floor.0 ≤ s → IfSome (greatest_epochs (Some floor) parts.votes) (λ p. p.1 < t → p.0 ≤ s)
  top_below floor le = at (greatest_pair_by (λ e. Some (epochs e)) parts.votes) (has_top parts.votes) where
    at : (top : Option (ℕ × ℕ)) → HasTop parts.votes top → IfSome (greater_pair (Some floor) top) (λ p. p.1 < t → p.0 ≤ s)
    at None h = λ lt. le
    at (Some q) (e, has, same, under) = λ lt. let source = source_below e has (omega (arith, under, lt)) in omega (arith, le, source, same)

  -- what is kept of votes does not refuse the vote, where it does not conflict with it, and each of them with a lesser target has no greater source
  kept_free : (votes : List VoteEntry) (blocks : List BlockEntry) → ((e : VoteEntry) → Contains (kept_votes few from votes) e → ¬ (Conflict (entry.Vote e) (message.Vote s t root)))
      → ((e : VoteEntry) → Contains votes e → e.target < t → e.source ≤ s) → ¬ (BookRefuses (record { blocks = blocks; votes = kept_votes few from votes }) (message.Vote s t root))
  kept_free votes blocks free below refuses = at refuses where
    old_one : kept_votes few from votes ≢ [] → (e : VoteEntry) × Contains (kept_votes few from votes) e × Contains votes e × (e.target < from)
    old_one some =
        let old = has_old (is_old_vote from) few votes in
        let one = old.one some in
        (one.0, one.1, old.among one.0 one.1, ltb-true one.0.target from one.2)

    at : BookRefuses (record { blocks = blocks; votes = kept_votes few from votes }) (message.Vote s t root) → ⊥
    at (inl conflict) = free conflict.0 conflict.1 conflict.2
    at (inr (inl low)) =
        let one = old_one low.0 in
        let inner : s < one.0.source = All-contains (λ e. s < e.source) (kept_votes few from votes) one.0 low.1 one.1 in
        let source = below one.0 one.2 (omega (arith, high, one.3)) in
        omega (arith, inner, source)
    at (inr (inr low)) =
        let one = old_one low.0 in
        let under : t ≤ one.0.target = All-contains (λ e. t ≤ e.target) (kept_votes few from votes) one.0 low.1 one.1 in
        omega (arith, high, under, one.3)

  -- all votes of the record are exported
  all_free : (blocks : List BlockEntry) → ¬ (BookRefuses (record { blocks = blocks; votes = kept_votes few from parts.votes }) (message.Vote s t root))
  all_free blocks =
      kept_free parts.votes blocks
      (λ e has conflict. refused past s t root e passes conflict ((stands.votes e).0 ((has_old (is_old_vote from) few parts.votes).among e has)).0)
      source_below

  -- one vote is exported that stands for all
  one_free : (o : Option (ℕ × ℕ)) (blocks : List BlockEntry) → IfSome o (λ p. p.1 < t → p.0 ≤ s)
      → ¬ (BookRefuses (record { blocks = blocks; votes = kept_votes few from (vote_without_root o) }) (message.Vote s t root))
  one_free o blocks below = kept_free (vote_without_root o) blocks free under where
    under : (e : VoteEntry) → Contains (vote_without_root o) e → e.target < t → e.source ≤ s
    under e has = subst (λ (x : Option (ℕ × ℕ)). IfSome x (λ p. p.1 < t → p.0 ≤ s)) (of_one o e has) below

    free : (e : VoteEntry) → Contains (kept_votes few from (vote_without_root o)) e → ¬ (Conflict (entry.Vote e) (message.Vote s t root))
    free e has (inl double) = let old = one_is_old few from o e has in omega (arith, high, old, double.0)
    free e has (inr (inl around)) = let old = one_is_old few from o e has in omega (arith, high, old, around.1)
    free e has (inr (inr inner)) = let source = under e ((has_old (is_old_vote from) few (vote_without_root o)).among e has) inner.1 in omega (arith, source, inner.0)

  exported_free : (o : Option (ℕ × ℕ)) → parts.floors.vote ≡ o → ¬ (BookRefuses (record { blocks = (pruning_book few from (export_of parts)).blocks; votes = kept_votes few from (exported_votes o parts.votes) }) (message.Vote s t root))
  exported_free None is = all_free (pruning_book few from (export_of parts)).blocks
  exported_free (Some floor) is = at (is_regular_at floor parts.votes) where
    at : (b : Bool)
        → ¬ (BookRefuses (record { blocks = (pruning_book few from (export_of parts)).blocks; votes = kept_votes few from (cond b parts.votes (vote_without_root (greatest_epochs (Some floor) parts.votes))) }) (message.Vote s t root))
    at true = all_free (pruning_book few from (export_of parts)).blocks
    at false = one_free (greatest_epochs (Some floor) parts.votes) (pruning_book few from (export_of parts)).blocks (top_below floor (floor_below floor is))

  vote_kept : ¬ (BookRefuses (pruning_book few from (export_of parts)) (message.Vote s t root))
  vote_kept = exported_free parts.floors.vote refl

-- ---- both

refuses_none : (parts : Parts) (past : Past) (few from : ℕ) (m : Message) → Stands parts past → IsOfKeptEpoch from m → Passes past m → ¬ (BookRefuses (pruning_book few from (export_of parts)) m)
refuses_none parts past few from (message.Block slot root) stands high passes = block_kept parts past few from slot root stands high passes
refuses_none parts past few from (message.Vote s t root) stands high passes = vote_kept parts past few from s t root stands high passes

pub book_kept : (parts : Parts) (past : Past) (few from : ℕ) (m : Message) → Stands parts past → IsOfKeptEpoch from m → Passes past m → Passes (with_book past (pruning_book few from (export_of parts))) m
book_kept parts past few from m stands high passes =
    let book = pruning_book few from (export_of parts) in
    (All-push (λ b. ¬ (BookRefuses b m)) past.books book passes.0 (refuses_none parts past few from m stands high passes), passes.1)
