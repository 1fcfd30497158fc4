-- What a record that stands for a past says, and what it stands for after a message is added.
use Rattle.std.proofs.Common.{◌≡◌, ℕ, ◌⊎◌, ◌↔◌, inl, inr, List, [], ◌∷◌, Some, refl, sym, ◌∙◌, ap, subst, arith, Contains}
use Rattle.std.proofs.lemmas.List.Elements.{All-contains, Contains-append_left, Contains-push, Contains-push_cases}
use Rattle.edge_kit.specs.declared.bytes.Root.{Root}
use Rattle.slash_defs.specs.declared.message.Message.{Message}
use Rattle.slash_defs.specs.declared.message.Message.TheVariants as message
use Rattle.slash_defs.specs.declared.entry.BlockEntry.{BlockEntry}
use Rattle.slash_defs.specs.declared.entry.VoteEntry.{VoteEntry}
use Rattle.slash_defs.specs.FileOrder.{block_cmp, vote_cmp}
use Rattle.protect_record.specs.Order.{IsInOrder}
use Rattle.protect_record.specs.Parts.{Parts}
use Rattle.protect_record.specs.Pasts.{Past, with_own, IsPastBlock, IsPastVote}
use Rattle.protect_record.specs.Passing.{Passes}
use Rattle.protect_record.specs.Floors.{IsDeadBlock, IsDeadVote}
use Rattle.protect_record.specs.Standing.{Stands}
use Rattle.protect_record.specs.Verdicts.{IsVerdict, IsBlockVerdict, IsVoteVerdict}
use Rattle.protect_record.specs.Changes.{HasJoined, HasAdded}
use Rattle.protect_record.specs.declared.floors.Floors.{Floors}
use Rattle.protect_record.specs.declared.verdict.Verdict.{Verdict}
use Rattle.protect_record.specs.declared.verdict.Verdict.TheVariants as verdict
use Rattle.protect_record.specs.Gathering.{IsWellKept}
use Rattle.protect_record.proofs.MemberLemmas.{All-from_contains}
use Rattle.protect_record.proofs.BlockLemmas.{block_passes, block_passed, lives}
use Rattle.protect_record.proofs.VoteLemmas.{vote_passes, vote_passed, vote_lives}

-- the verdict is Pass exactly where the past lets the message pass
pub check_law : (parts : Parts) (past : Past) (m : Message) (v : Verdict) → IsVerdict parts m v → Stands parts past → (v ≡ verdict.Pass) ↔ Passes past m
check_law parts past (message.Block slot root) v is stands =
    (λ e. block_passes parts past slot root stands (subst (λ (w : Verdict). IsBlockVerdict parts.floors.block parts.blocks slot root w) e is), λ passes. block_passed parts past slot root stands passes v is)
check_law parts past (message.Vote s t root) v is stands =
    (λ e. vote_passes parts past s t root stands (subst (λ (w : Verdict). IsVoteVerdict parts.floors.vote parts.votes s t root w) e is), λ passes. vote_passed parts past s t root stands passes v is)

-- an entry of the past stays one
more_blocks : (past : Past) (m : Message) (e : BlockEntry) → IsPastBlock past e → IsPastBlock (with_own past m) e
more_blocks past m e (inl in_book) = inl in_book
more_blocks past m e (inr own) = inr (own.0, own.1, Contains-append_left past.own (m ∷ []) _ own.2)

more_votes : (past : Past) (m : Message) (e : VoteEntry) → IsPastVote past e → IsPastVote (with_own past m) e
more_votes past m e (inl in_book) = inl in_book
more_votes past m e (inr own) = inr (own.0, own.1, Contains-append_left past.own (m ∷ []) _ own.2)

-- which blocks the past with one more message has
blocks_of : (past : Past) (m : Message) (e : BlockEntry) → IsPastBlock (with_own past m) e → IsPastBlock past e ⊎ ((root : Root) × (e.root ≡ Some root) × (m ≡ message.Block e.slot root))
blocks_of past m e (inl in_book) = inl (inl in_book)
blocks_of past m e (inr own) = at (Contains-push_cases past.own m (message.Block e.slot own.0) own.2) where
  at : Contains past.own (message.Block e.slot own.0) ⊎ (m ≡ message.Block e.slot own.0) → IsPastBlock past e ⊎ ((root : Root) × (e.root ≡ Some root) × (m ≡ message.Block e.slot root))
  at (inl has) = inl (inr (own.0, own.1, has))
  at (inr same) = inr (own.0, own.1, same)

votes_of : (past : Past) (m : Message) (e : VoteEntry) → IsPastVote (with_own past m) e → IsPastVote past e ⊎ ((root : Root) × (e.root ≡ Some root) × (m ≡ message.Vote e.source e.target root))
votes_of past m e (inl in_book) = inl (inl in_book)
votes_of past m e (inr own) = at (Contains-push_cases past.own m (message.Vote e.source e.target own.0) own.2) where
  at : Contains past.own (message.Vote e.source e.target own.0) ⊎ (m ≡ message.Vote e.source e.target own.0) → IsPastVote past e ⊎ ((root : Root) × (e.root ≡ Some root) × (m ≡ message.Vote e.source e.target root))
  at (inl has) = inl (inr (own.0, own.1, has))
  at (inr same) = inr (own.0, own.1, same)

same_block : (e : BlockEntry) (slot : ℕ) (root r : Root) → e.root ≡ Some r → message.Block slot root ≡ message.Block e.slot r → e ≡ record { slot = slot; root = Some root }
same_block e slot root r is same = let at : e.slot ≡ slot = cc in let one : e.root ≡ Some root = cc in ap (λ n. record { slot = n; root = e.root }) at ∙ ap (λ o. record { slot = slot; root = o }) one

same_vote : (e : VoteEntry) (s t : ℕ) (root r : Root) → e.root ≡ Some r → message.Vote s t root ≡ message.Vote e.source e.target r → e ≡ record { target = t; source = s; root = Some root }
same_vote e s t root r is same =
    let from : e.source ≡ s = cc in
    let at : e.target ≡ t = cc in
    let one : e.root ≡ Some root = cc in
    ap (λ n. record { target = n; source = e.source; root = e.root }) at ∙ ap (λ n. record { target = t; source = n; root = e.root }) from ∙ ap (λ o. record { target = t; source = s; root = o }) one

no_block : {A : Type 0} (s t slot : ℕ) (root r : Root) → message.Vote s t root ≡ message.Block slot r → A
no_block {A} s t slot root r e = cc

no_vote : {A : Type 0} (s t slot : ℕ) (root r : Root) → message.Block slot root ≡ message.Vote s t r → A
no_vote {A} s t slot root r e = cc

-- a past with one more own message that passed
pub added_stands : (old new : Parts) (past : Past) (m : Message) → IsVerdict old m verdict.Pass → HasAdded old new m → Stands old past → Stands new (with_own past m)
added_stands old new past (message.Block slot root) pass added stands = record {
  floors = added.2 ∙ stands.floors;
  blocks = λ e. (forth e, back e);
  votes = λ e. (votes_forth e, votes_back e);
  blocks_in_order = added.0.in_order;
  votes_in_order = subst (λ (xs : List VoteEntry). IsInOrder vote_cmp xs) (sym added.1) stands.votes_in_order;
} where
  forth : (e : BlockEntry) → Contains new.blocks e → IsPastBlock (with_own past (message.Block slot root)) e × ¬ (IsDeadBlock new.floors e)
  forth e has = at ((added.0.elements e).0 has) where
    at : Contains old.blocks e ⊎ (e ≡ record { slot = slot; root = Some root }) → IsPastBlock (with_own past (message.Block slot root)) e × ¬ (IsDeadBlock new.floors e)
    at (inl had) = let h = (stands.blocks e).0 had in (more_blocks past (message.Block slot root) e h.0, subst (λ (f : Floors). ¬ (IsDeadBlock f e)) (sym added.2) h.1)
    at (inr same) = subst (λ (x : BlockEntry). IsPastBlock (with_own past (message.Block slot root)) x × ¬ (IsDeadBlock new.floors x)) (sym same) (
      inr (root, refl, Contains-push past.own (message.Block slot root)),
      subst (λ (f : Floors). ¬ (IsDeadBlock f (record { slot = slot; root = Some root }))) (sym added.2) (lives old.floors.block slot slot pass.0 (omega arith)),
    )

  back : (e : BlockEntry) → IsPastBlock (with_own past (message.Block slot root)) e × ¬ (IsDeadBlock new.floors e) → Contains new.blocks e
  back e h = at (blocks_of past (message.Block slot root) e h.0) where
    at : IsPastBlock past e ⊎ ((r : Root) × (e.root ≡ Some r) × (message.Block slot root ≡ message.Block e.slot r)) → Contains new.blocks e
    at (inl is) = (added.0.elements e).1 (inl ((stands.blocks e).1 (is, subst (λ (f : Floors). ¬ (IsDeadBlock f e)) added.2 h.1)))
    at (inr one) = (added.0.elements e).1 (inr (same_block e slot root one.0 one.1 one.2))

  votes_forth : (e : VoteEntry) → Contains new.votes e → IsPastVote (with_own past (message.Block slot root)) e × ¬ (IsDeadVote new.floors e)
  votes_forth e has =
      let h = (stands.votes e).0 (subst (λ (xs : List VoteEntry). Contains xs e) added.1 has) in
      (more_votes past (message.Block slot root) e h.0, subst (λ (f : Floors). ¬ (IsDeadVote f e)) (sym added.2) h.1)

  votes_back : (e : VoteEntry) → IsPastVote (with_own past (message.Block slot root)) e × ¬ (IsDeadVote new.floors e) → Contains new.votes e
  votes_back e h = at (votes_of past (message.Block slot root) e h.0) where
    at : IsPastVote past e ⊎ ((r : Root) × (e.root ≡ Some r) × (message.Block slot root ≡ message.Vote e.source e.target r)) → Contains new.votes e
    at (inl is) = subst (λ (xs : List VoteEntry). Contains xs e) (sym added.1) ((stands.votes e).1 (is, subst (λ (f : Floors). ¬ (IsDeadVote f e)) added.2 h.1))
    at (inr one) = no_vote e.source e.target slot root one.0 one.2
added_stands old new past (message.Vote s t root) pass added stands = record {
  floors = added.2 ∙ stands.floors;
  blocks = λ e. (blocks_forth e, blocks_back e);
  votes = λ e. (forth e, back e);
  blocks_in_order = subst (λ (xs : List BlockEntry). IsInOrder block_cmp xs) (sym added.1) stands.blocks_in_order;
  votes_in_order = added.0.in_order;
} where
  forth : (e : VoteEntry) → Contains new.votes e → IsPastVote (with_own past (message.Vote s t root)) e × ¬ (IsDeadVote new.floors e)
  forth e has = at ((added.0.elements e).0 has) where
    at : Contains old.votes e ⊎ (e ≡ record { target = t; source = s; root = Some root }) → IsPastVote (with_own past (message.Vote s t root)) e × ¬ (IsDeadVote new.floors e)
    at (inl had) = let h = (stands.votes e).0 had in (more_votes past (message.Vote s t root) e h.0, subst (λ (f : Floors). ¬ (IsDeadVote f e)) (sym added.2) h.1)
    at (inr same) = subst (λ (x : VoteEntry). IsPastVote (with_own past (message.Vote s t root)) x × ¬ (IsDeadVote new.floors x)) (sym same) (
      inr (root, refl, Contains-push past.own (message.Vote s t root)),
      subst (λ (f : Floors). ¬ (IsDeadVote f (record { target = t; source = s; root = Some root }))) (sym added.2) (vote_lives old.floors.vote s t (record { target = t; source = s; root = Some root }) pass.0 (inl (omega arith))),
    )

  back : (e : VoteEntry) → IsPastVote (with_own past (message.Vote s t root)) e × ¬ (IsDeadVote new.floors e) → Contains new.votes e
  back e h = at (votes_of past (message.Vote s t root) e h.0) where
    at : IsPastVote past e ⊎ ((r : Root) × (e.root ≡ Some r) × (message.Vote s t root ≡ message.Vote e.source e.target r)) → Contains new.votes e
    at (inl is) = (added.0.elements e).1 (inl ((stands.votes e).1 (is, subst (λ (f : Floors). ¬ (IsDeadVote f e)) added.2 h.1)))
    at (inr one) = (added.0.elements e).1 (inr (same_vote e s t root one.0 one.1 one.2))

  blocks_forth : (e : BlockEntry) → Contains new.blocks e → IsPastBlock (with_own past (message.Vote s t root)) e × ¬ (IsDeadBlock new.floors e)
  blocks_forth e has =
      let h = (stands.blocks e).0 (subst (λ (xs : List BlockEntry). Contains xs e) added.1 has) in
      (more_blocks past (message.Vote s t root) e h.0, subst (λ (f : Floors). ¬ (IsDeadBlock f e)) (sym added.2) h.1)

  blocks_back : (e : BlockEntry) → IsPastBlock (with_own past (message.Vote s t root)) e × ¬ (IsDeadBlock new.floors e) → Contains new.blocks e
  blocks_back e h = at (blocks_of past (message.Vote s t root) e h.0) where
    at : IsPastBlock past e ⊎ ((r : Root) × (e.root ≡ Some r) × (message.Vote s t root ≡ message.Block e.slot r)) → Contains new.blocks e
    at (inl is) = subst (λ (xs : List BlockEntry). Contains xs e) (sym added.1) ((stands.blocks e).1 (is, subst (λ (f : Floors). ¬ (IsDeadBlock f e)) added.2 h.1))
    at (inr one) = no_block s t e.slot root one.0 one.2

-- a record stays well kept with one more entry that passed
pub block_kept : (floors : Floors) (blocks new : List BlockEntry) (votes : List VoteEntry) (slot : ℕ) (root : Root) → IsWellKept floors blocks votes
    → HasJoined block_cmp blocks new (record { slot = slot; root = Some root }) → IsBlockVerdict floors.block blocks slot root verdict.Pass → IsWellKept floors new votes
block_kept floors blocks new votes slot root kept joins pass = record {
  blocks_in_order = joins.in_order;
  votes_in_order = kept.votes_in_order;
  live_blocks = All-from_contains (λ e. ¬ (IsDeadBlock floors e)) new (λ e has. live e ((joins.elements e).0 has));
  live_votes = kept.live_votes;
} where
  live : (e : BlockEntry) → Contains blocks e ⊎ (e ≡ record { slot = slot; root = Some root }) → ¬ (IsDeadBlock floors e)
  live e (inl has) = All-contains (λ x. ¬ (IsDeadBlock floors x)) blocks e kept.live_blocks has
  live e (inr same) = lives floors.block slot e.slot pass.0 (let at : e.slot ≡ slot = ap (λ (x : BlockEntry). x.slot) same in omega (arith, at))

pub vote_kept : (floors : Floors) (blocks : List BlockEntry) (votes new : List VoteEntry) (s t : ℕ) (root : Root) → IsWellKept floors blocks votes
    → HasJoined vote_cmp votes new (record { target = t; source = s; root = Some root }) → IsVoteVerdict floors.vote votes s t root verdict.Pass → IsWellKept floors blocks new
vote_kept floors blocks votes new s t root kept joins pass = record {
  blocks_in_order = kept.blocks_in_order;
  votes_in_order = joins.in_order;
  live_blocks = kept.live_blocks;
  live_votes = All-from_contains (λ e. ¬ (IsDeadVote floors e)) new (λ e has. live e ((joins.elements e).0 has));
} where
  live : (e : VoteEntry) → Contains votes e ⊎ (e ≡ record { target = t; source = s; root = Some root }) → ¬ (IsDeadVote floors e)
  live e (inl has) = All-contains (λ x. ¬ (IsDeadVote floors x)) votes e kept.live_votes has
  live e (inr same) = vote_lives floors.vote s t e pass.0 (inl (let at : e.target ≡ t = ap (λ (x : VoteEntry). x.target) same in omega (arith, at)))
