-- A record that gains what a second past offers stands for both pasts, one after the other.
use Rattle.std.proofs.Common.{◌≡◌, ◌⊎◌, inl, inr, List, [], ◌∷◌, ◌++◌, sym, ◌∙◌, ap, subst, Contains}
use Rattle.std.proofs.lemmas.List.{append-nil}
use Rattle.std.proofs.lemmas.List.Elements.{Contains-append_left, Contains-append_right, Contains-append_cases}
use Rattle.slash_defs.specs.declared.message.Message.{Message}
use Rattle.slash_defs.specs.declared.message.Message.TheVariants as message
use Rattle.slash_defs.specs.declared.entry.BlockEntry.{BlockEntry}
use Rattle.slash_defs.specs.declared.entry.VoteEntry.{VoteEntry}
use Rattle.slash_defs.specs.declared.book.Book.{Book}
use Rattle.protect_record.specs.declared.floors.Floors.{Floors}
use Rattle.protect_record.specs.Parts.{Parts, SameParts}
use Rattle.protect_record.specs.Pasts.{Past, then_past, with_book, IsPastBlock, IsPastVote}
use Rattle.protect_record.specs.Floors.{floors_of, book_floors, greater_floors, IsDeadBlock, IsDeadVote}
use Rattle.protect_record.specs.Standing.{Stands}
use Rattle.protect_record.specs.Gathering.{HasGathered, Gathers, IsJoin, IsMerge}
use Rattle.slash_defs.specs.FileOrder.{block_cmp, vote_cmp}
use Rattle.protect_record.proofs.MemberLemmas.{contains_first, contains_cases, contains_none}
use Rattle.protect_record.proofs.BoundLemmas.{floors_of-append, floors_of-one}
use Rattle.protect_record.proofs.LiveLemmas.{blocks_die_left, blocks_die_right, votes_die_left, votes_die_right}

-- these floors and entries are the past's; of the entries those that are dead may be left out
record Offers (gained : Floors) (more_blocks : List BlockEntry) (more_votes : List VoteEntry) (past : Past) : Type 0 where
  floors : gained ≡ floors_of past.books
  from_blocks : (e : BlockEntry) → Contains more_blocks e → IsPastBlock past e
  all_blocks : (e : BlockEntry) → IsPastBlock past e → ¬ (IsDeadBlock gained e) → Contains more_blocks e
  from_votes : (e : VoteEntry) → Contains more_votes e → IsPastVote past e
  all_votes : (e : VoteEntry) → IsPastVote past e → ¬ (IsDeadVote gained e) → Contains more_votes e

blocks_left : (p q : Past) (e : BlockEntry) → IsPastBlock p e → IsPastBlock (then_past p q) e
blocks_left p q e (inl book) = inl (book.0, Contains-append_left p.books q.books book.0 book.1, book.2)
blocks_left p q e (inr own) = inr (own.0, own.1, Contains-append_left p.own q.own _ own.2)

blocks_right : (p q : Past) (e : BlockEntry) → IsPastBlock q e → IsPastBlock (then_past p q) e
blocks_right p q e (inl book) = inl (book.0, Contains-append_right p.books q.books book.0 book.1, book.2)
blocks_right p q e (inr own) = inr (own.0, own.1, Contains-append_right p.own q.own _ own.2)

blocks_split : (p q : Past) (e : BlockEntry) → IsPastBlock (then_past p q) e → IsPastBlock p e ⊎ IsPastBlock q e
blocks_split p q e (inl book) = at (Contains-append_cases p.books q.books book.0 book.1) where
  at : Contains p.books book.0 ⊎ Contains q.books book.0 → IsPastBlock p e ⊎ IsPastBlock q e
  at (inl has) = inl (inl (book.0, has, book.2))
  at (inr has) = inr (inl (book.0, has, book.2))
blocks_split p q e (inr own) = at (Contains-append_cases p.own q.own (message.Block e.slot own.0) own.2) where
  at : Contains p.own (message.Block e.slot own.0) ⊎ Contains q.own (message.Block e.slot own.0) → IsPastBlock p e ⊎ IsPastBlock q e
  at (inl has) = inl (inr (own.0, own.1, has))
  at (inr has) = inr (inr (own.0, own.1, has))

votes_left : (p q : Past) (e : VoteEntry) → IsPastVote p e → IsPastVote (then_past p q) e
votes_left p q e (inl book) = inl (book.0, Contains-append_left p.books q.books book.0 book.1, book.2)
votes_left p q e (inr own) = inr (own.0, own.1, Contains-append_left p.own q.own _ own.2)

votes_right : (p q : Past) (e : VoteEntry) → IsPastVote q e → IsPastVote (then_past p q) e
votes_right p q e (inl book) = inl (book.0, Contains-append_right p.books q.books book.0 book.1, book.2)
votes_right p q e (inr own) = inr (own.0, own.1, Contains-append_right p.own q.own _ own.2)

votes_split : (p q : Past) (e : VoteEntry) → IsPastVote (then_past p q) e → IsPastVote p e ⊎ IsPastVote q e
votes_split p q e (inl book) = at (Contains-append_cases p.books q.books book.0 book.1) where
  at : Contains p.books book.0 ⊎ Contains q.books book.0 → IsPastVote p e ⊎ IsPastVote q e
  at (inl has) = inl (inl (book.0, has, book.2))
  at (inr has) = inr (inl (book.0, has, book.2))
votes_split p q e (inr own) = at (Contains-append_cases p.own q.own (message.Vote e.source e.target own.0) own.2) where
  at : Contains p.own (message.Vote e.source e.target own.0) ⊎ Contains q.own (message.Vote e.source e.target own.0) → IsPastVote p e ⊎ IsPastVote q e
  at (inl has) = inl (inr (own.0, own.1, has))
  at (inr has) = inr (inr (own.0, own.1, has))

gained_stands : (old new : Parts) (p q : Past) (gained : Floors) (bs : List BlockEntry) (vs : List VoteEntry) → Stands old p → Offers gained bs vs q → Gathers old new gained bs vs → Stands new (then_past p q)
gained_stands old new p q gained bs vs stands offers gathers = record {
  floors = gathers.floors ∙ ap (λ f. greater_floors f gained) stands.floors ∙ ap (λ f. greater_floors (floors_of p.books) f) offers.floors ∙ sym (floors_of-append p.books q.books);
  blocks = λ e. (λ has. blocks_forth e ((gathers.blocks.elements e).0 has), λ h. (gathers.blocks.elements e).1 (blocks_back e h.1 (blocks_split p q e h.0), h.1));
  votes = λ e. (λ has. votes_forth e ((gathers.votes.elements e).0 has), λ h. (gathers.votes.elements e).1 (votes_back e h.1 (votes_split p q e h.0), h.1));
  blocks_in_order = gathers.blocks.in_order;
  votes_in_order = gathers.votes.in_order;
} where
  blocks_forth : (e : BlockEntry) → (Contains old.blocks e ⊎ Contains bs e) × ¬ (IsDeadBlock new.floors e) → IsPastBlock (then_past p q) e × ¬ (IsDeadBlock new.floors e)
  blocks_forth e (inl has, live) = (blocks_left p q e ((stands.blocks e).0 has).0, live)
  blocks_forth e (inr has, live) = (blocks_right p q e (offers.from_blocks e has), live)

  blocks_back : (e : BlockEntry) → ¬ (IsDeadBlock new.floors e) → IsPastBlock p e ⊎ IsPastBlock q e → Contains old.blocks e ⊎ Contains bs e
  blocks_back e live (inl is) = inl ((stands.blocks e).1 (is, λ d. live (subst (λ (f : Floors). IsDeadBlock f e) (sym gathers.floors) (blocks_die_left old.floors gained e d))))
  blocks_back e live (inr is) = inr (offers.all_blocks e is (λ d. live (subst (λ (f : Floors). IsDeadBlock f e) (sym gathers.floors) (blocks_die_right old.floors gained e d))))

  votes_forth : (e : VoteEntry) → (Contains old.votes e ⊎ Contains vs e) × ¬ (IsDeadVote new.floors e) → IsPastVote (then_past p q) e × ¬ (IsDeadVote new.floors e)
  votes_forth e (inl has, live) = (votes_left p q e ((stands.votes e).0 has).0, live)
  votes_forth e (inr has, live) = (votes_right p q e (offers.from_votes e has), live)

  votes_back : (e : VoteEntry) → ¬ (IsDeadVote new.floors e) → IsPastVote p e ⊎ IsPastVote q e → Contains old.votes e ⊎ Contains vs e
  votes_back e live (inl is) = inl ((stands.votes e).1 (is, λ d. live (subst (λ (f : Floors). IsDeadVote f e) (sym gathers.floors) (votes_die_left old.floors gained e d))))
  votes_back e live (inr is) = inr (offers.all_votes e is (λ d. live (subst (λ (f : Floors). IsDeadVote f e) (sym gathers.floors) (votes_die_right old.floors gained e d))))

-- after a join the record stands for both pasts
pub joined_stands : (r s t : Parts) (p q : Past) → IsJoin r s t → Stands r p → Stands s q → Stands t (then_past p q)
joined_stands r s t p q joins first second = gained_stands r t p q s.floors s.blocks s.votes first (record {
  floors = second.floors;
  from_blocks = λ e has. ((second.blocks e).0 has).0;
  all_blocks = λ e is live. (second.blocks e).1 (is, live);
  from_votes = λ e has. ((second.votes e).0 has).0;
  all_votes = λ e is live. (second.votes e).1 (is, live);
}) joins

book_offers : (b : Book) → Offers (book_floors b) b.blocks b.votes (record { books = b ∷ []; own = [] })
book_offers b = record {
  floors = sym (floors_of-one b);
  from_blocks = λ e has. inl (b, contains_first b [], has);
  all_blocks = λ e is live. block_in e is;
  from_votes = λ e has. inl (b, contains_first b [], has);
  all_votes = λ e is live. vote_in e is;
} where
  block_of : (e : BlockEntry) (c : Book) → Contains c.blocks e → (b ≡ c) ⊎ Contains [] c → Contains b.blocks e
  block_of e c has (inl same) = subst (λ (x : Book). Contains x.blocks e) (sym same) has
  block_of e c has (inr none) = contains_none c none

  block_in : (e : BlockEntry) → IsPastBlock (record { books = b ∷ []; own = [] }) e → Contains b.blocks e
  block_in e (inl book) = block_of e book.0 book.2 (contains_cases b [] book.0 book.1)
  block_in e (inr own) = contains_none _ own.2

  vote_of : (e : VoteEntry) (c : Book) → Contains c.votes e → (b ≡ c) ⊎ Contains [] c → Contains b.votes e
  vote_of e c has (inl same) = subst (λ (x : Book). Contains x.votes e) (sym same) has
  vote_of e c has (inr none) = contains_none c none

  vote_in : (e : VoteEntry) → IsPastVote (record { books = b ∷ []; own = [] }) e → Contains b.votes e
  vote_in e (inl book) = vote_of e book.0 book.2 (contains_cases b [] book.0 book.1)
  vote_in e (inr own) = contains_none _ own.2

-- after a merge the record stands for the past with the book
pub merged_stands : (old new : Parts) (past : Past) (b : Book) → IsMerge old b new → Stands old past → Stands new (with_book past b)
merged_stands old new past b merges stands =
    let both = gained_stands old new past (record { books = b ∷ []; own = [] }) (book_floors b) b.blocks b.votes stands (book_offers b) merges in
    subst (λ (own : List Message). Stands new (record { books = past.books ++ b ∷ []; own = own })) (append-nil past.own) both

-- a record with more room gains the same
pub roomy_gathers : (old roomy new : Parts) (gained : Floors) (bs : List BlockEntry) (vs : List VoteEntry) → SameParts old roomy → Gathers roomy new gained bs vs → Gathers old new gained bs vs
roomy_gathers old roomy new gained bs vs same gathers = record {
  floors = gathers.floors ∙ ap (λ f. greater_floors f gained) same.floors;
  blocks = subst (λ (xs : List BlockEntry). HasGathered block_cmp (IsDeadBlock new.floors) xs bs new.blocks) same.blocks gathers.blocks;
  votes = subst (λ (xs : List VoteEntry). HasGathered vote_cmp (IsDeadVote new.floors) xs vs new.votes) same.votes gathers.votes;
}
