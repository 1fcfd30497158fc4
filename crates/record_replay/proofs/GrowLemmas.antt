-- Where a past grows by what more items give its key, the items with them stand for it.
use Rattle.std.proofs.Common.{◌≡◌, ℕ, ◌⊎◌, inl, inr, false, List, [], ◌∷◌, ◌++◌, map, Option, None, Some, unwrap_or, refl, sym, ◌∙◌, ap, subst, Contains}
use Rattle.std.specs.Prelude.{◌↔◌}
use Rattle.std.proofs.lemmas.List.Elements.{Contains-append_left, Contains-append_right, Contains-append_cases, Contains-push, Contains-push_cases}
use Rattle.edge_kit.specs.declared.bytes.PubKey.{PubKey}
use Rattle.edge_kit.specs.declared.bytes.Root.{Root}
use Rattle.slash_defs.specs.declared.message.Message.{Message}
use Rattle.slash_defs.specs.declared.message.Message.TheVariants as message
use Rattle.slash_defs.specs.declared.entry.BlockEntry.{BlockEntry}
use Rattle.slash_defs.specs.declared.entry.VoteEntry.{VoteEntry}
use Rattle.slash_defs.specs.declared.book.Book.{Book}
use Rattle.protect_record.specs.declared.floors.Floors.{Floors}
use Rattle.protect_record.specs.Floors.{book_floors, floors_of, greater_floors, IsDeadBlock, IsDeadVote}
use Rattle.protect_record.specs.Parts.{no_floors}
use Rattle.protect_record.specs.Pasts.{Past, no_past, with_book, with_own, IsPastBlock, IsPastVote}
use Rattle.protect_record.proofs.BoundLemmas.{floors_of-append, floors_of-one}
use Rattle.protect_record.proofs.LiveLemmas.{blocks_die_left, votes_die_left}
use Rattle.protect_record.proofs.MemberLemmas.{contains_first, contains_cases, contains_none}
use Rattle.interchange_io.specs.WrittenOrder.{empty_book}
use Rattle.record_codec.specs.declared.item.JournalItem.{JournalItem}
use Rattle.record_join.specs.BooksPasts.{gained, known_past}
use Rattle.record_replay.specs.Items.{blocks_in, floors_in, key_of, votes_in}
use Rattle.record_replay.specs.Replaying.{KeyStands}
use Rattle.record_replay.proofs.NamedLemmas.{has}
use Rattle.record_replay.proofs.ItemLemmas.{blocks_more, floors-none, floors_more, no_blocks_in, no_floors_in, no_votes_in, votes_more}

-- the later past has these floors, blocks and votes besides those of the earlier
pub record Grows (past after : Past) (floors : Floors) (blocks : List BlockEntry) (votes : List VoteEntry) : Type 0 where
  pub more_floors : floors_of after.books ≡ greater_floors (floors_of past.books) floors
  pub more_blocks : (e : BlockEntry) → IsPastBlock after e ↔ (IsPastBlock past e ⊎ Contains blocks e)
  pub more_votes : (e : VoteEntry) → IsPastVote after e ↔ (IsPastVote past e ⊎ Contains votes e)

pub grown_stands : (items more : List JournalItem) (key : PubKey) (past after : Past) → KeyStands items key past → Grows past after (floors_in more key) (blocks_in more key) (votes_in more key) → KeyStands (items ++ more) key after
grown_stands items more key past after stands grows = record {
  floors = floors_more items more key ∙ ap (λ f. greater_floors f (floors_in more key)) stands.floors ∙ sym grows.more_floors;
  blocks = λ e live. (λ has. (grows.more_blocks e).1 (block_to e live (in_blocks e has)), λ is. block_from e live ((grows.more_blocks e).0 is));
  votes = λ e live. (λ has. (grows.more_votes e).1 (vote_to e live (in_votes e has)), λ is. vote_from e live ((grows.more_votes e).0 is));
} where
  live_block : (e : BlockEntry) → ¬ (IsDeadBlock (floors_in (items ++ more) key) e) → ¬ (IsDeadBlock (floors_in items key) e)
  live_block e live dead = live (subst (λ (f : Floors). IsDeadBlock f e) (sym (floors_more items more key)) (blocks_die_left (floors_in items key) (floors_in more key) e dead))

  live_vote : (e : VoteEntry) → ¬ (IsDeadVote (floors_in (items ++ more) key) e) → ¬ (IsDeadVote (floors_in items key) e)
  live_vote e live dead = live (subst (λ (f : Floors). IsDeadVote f e) (sym (floors_more items more key)) (votes_die_left (floors_in items key) (floors_in more key) e dead))

  in_blocks : (e : BlockEntry) → Contains (blocks_in (items ++ more) key) e → Contains (blocks_in items key) e ⊎ Contains (blocks_in more key) e
  in_blocks e h = Contains-append_cases (blocks_in items key) (blocks_in more key) e (subst (λ (bs : List BlockEntry). Contains bs e) (blocks_more items more key) h)

  in_votes : (e : VoteEntry) → Contains (votes_in (items ++ more) key) e → Contains (votes_in items key) e ⊎ Contains (votes_in more key) e
  in_votes e h = Contains-append_cases (votes_in items key) (votes_in more key) e (subst (λ (vs : List VoteEntry). Contains vs e) (votes_more items more key) h)

  block_to : (e : BlockEntry) → ¬ (IsDeadBlock (floors_in (items ++ more) key) e) → Contains (blocks_in items key) e ⊎ Contains (blocks_in more key) e → IsPastBlock past e ⊎ Contains (blocks_in more key) e
  block_to e live (inl h) = inl ((stands.blocks e (live_block e live)).0 h)
  block_to e live (inr h) = inr h

  vote_to : (e : VoteEntry) → ¬ (IsDeadVote (floors_in (items ++ more) key) e) → Contains (votes_in items key) e ⊎ Contains (votes_in more key) e → IsPastVote past e ⊎ Contains (votes_in more key) e
  vote_to e live (inl h) = inl ((stands.votes e (live_vote e live)).0 h)
  vote_to e live (inr h) = inr h

  block_from : (e : BlockEntry) → ¬ (IsDeadBlock (floors_in (items ++ more) key) e) → IsPastBlock past e ⊎ Contains (blocks_in more key) e → Contains (blocks_in (items ++ more) key) e
  block_from e live (inl h) =
      subst (λ (bs : List BlockEntry). Contains bs e) (sym (blocks_more items more key)) (Contains-append_left (blocks_in items key) (blocks_in more key) e ((stands.blocks e (live_block e live)).1 h))
  block_from e live (inr h) = subst (λ (bs : List BlockEntry). Contains bs e) (sym (blocks_more items more key)) (Contains-append_right (blocks_in items key) (blocks_in more key) e h)

  vote_from : (e : VoteEntry) → ¬ (IsDeadVote (floors_in (items ++ more) key) e) → IsPastVote past e ⊎ Contains (votes_in more key) e → Contains (votes_in (items ++ more) key) e
  vote_from e live (inl h) =
      subst (λ (vs : List VoteEntry). Contains vs e) (sym (votes_more items more key)) (Contains-append_left (votes_in items key) (votes_in more key) e ((stands.votes e (live_vote e live)).1 h))
  vote_from e live (inr h) = subst (λ (vs : List VoteEntry). Contains vs e) (sym (votes_more items more key)) (Contains-append_right (votes_in items key) (votes_in more key) e h)

-- ---- nothing more

no_more : {X A : Type 0} (e : X) → A ⊎ Contains [] e → A
no_more e (inl h) = h
no_more e (inr none) = contains_none e none

pub grows_nothing : (past : Past) → Grows past past no_floors [] []
grows_nothing past = record { more_floors = sym (floors-none (floors_of past.books)); more_blocks = λ e. (inl, no_more e); more_votes = λ e. (inl, no_more e) }

pub unnamed_stands : (items more : List JournalItem) (key : PubKey) (past : Past) → has key (map key_of more) ≡ false → KeyStands items key past → KeyStands (items ++ more) key past
unnamed_stands items more key past off stands =
    let f = subst (λ (f : Floors). Grows past past f [] []) (sym (no_floors_in more key off)) (grows_nothing past) in
    let b = subst (λ (bs : List BlockEntry). Grows past past (floors_in more key) bs []) (sym (no_blocks_in more key off)) f in
    grown_stands items more key past past stands (subst (λ (vs : List VoteEntry). Grows past past (floors_in more key) (blocks_in more key) vs) (sym (no_votes_in more key off)) b)

-- items that do not name a key stand for its empty past
pub unnamed_first : (items : List JournalItem) (key : PubKey) → has key (map key_of items) ≡ false → KeyStands items key no_past
unnamed_first items key off = record {
  floors = no_floors_in items key off;
  blocks = λ e live. (λ h. contains_none e (subst (λ (bs : List BlockEntry). Contains bs e) (no_blocks_in items key off) h), λ is. no_block e is);
  votes = λ e live. (λ h. contains_none e (subst (λ (vs : List VoteEntry). Contains vs e) (no_votes_in items key off) h), λ is. no_vote e is);
} where
  no_block : {A : Type 0} (e : BlockEntry) → IsPastBlock no_past e → A
  no_block e (inl book) = contains_none book.0 book.1
  no_block e (inr own) = contains_none (message.Block e.slot own.0) own.2

  no_vote : {A : Type 0} (e : VoteEntry) → IsPastVote no_past e → A
  no_vote e (inl book) = contains_none book.0 book.1
  no_vote e (inr own) = contains_none (message.Vote e.source e.target own.0) own.2

-- ---- one more own message

more_blocks_own : (past : Past) (m : Message) (e : BlockEntry) → IsPastBlock past e → IsPastBlock (with_own past m) e
more_blocks_own past m e (inl in_book) = inl in_book
more_blocks_own past m e (inr own) = inr (own.0, own.1, Contains-append_left past.own (m ∷ []) _ own.2)

more_votes_own : (past : Past) (m : Message) (e : VoteEntry) → IsPastVote past e → IsPastVote (with_own past m) e
more_votes_own past m e (inl in_book) = inl in_book
more_votes_own past m e (inr own) = inr (own.0, own.1, Contains-append_left past.own (m ∷ []) _ own.2)

own_blocks : (past : Past) (m : Message) (e : BlockEntry) → IsPastBlock (with_own past m) e → IsPastBlock past e ⊎ ((root : Root) × (e.root ≡ Some root) × (m ≡ message.Block e.slot root))
own_blocks past m e (inl in_book) = inl (inl in_book)
own_blocks past m e (inr own) = at (Contains-push_cases past.own m (message.Block e.slot own.0) own.2) where
  at : Contains past.own (message.Block e.slot own.0) ⊎ (m ≡ message.Block e.slot own.0) → IsPastBlock past e ⊎ ((root : Root) × (e.root ≡ Some root) × (m ≡ message.Block e.slot root))
  at (inl has) = inl (inr (own.0, own.1, has))
  at (inr same) = inr (own.0, own.1, same)

own_votes : (past : Past) (m : Message) (e : VoteEntry) → IsPastVote (with_own past m) e → IsPastVote past e ⊎ ((root : Root) × (e.root ≡ Some root) × (m ≡ message.Vote e.source e.target root))
own_votes past m e (inl in_book) = inl (inl in_book)
own_votes past m e (inr own) = at (Contains-push_cases past.own m (message.Vote e.source e.target own.0) own.2) where
  at : Contains past.own (message.Vote e.source e.target own.0) ⊎ (m ≡ message.Vote e.source e.target own.0) → IsPastVote past e ⊎ ((root : Root) × (e.root ≡ Some root) × (m ≡ message.Vote e.source e.target root))
  at (inl has) = inl (inr (own.0, own.1, has))
  at (inr same) = inr (own.0, own.1, same)

pub grows_block : (past : Past) (slot : ℕ) (root : Root) → Grows past (with_own past (message.Block slot root)) no_floors (record { slot = slot; root = Some root } ∷ []) []
grows_block past slot root = record {
  more_floors = sym (floors-none (floors_of past.books));
  more_blocks = λ e. (λ is. to e (own_blocks past m e is), from e);
  more_votes = λ e. (λ is. vote_to e (own_votes past m e is), λ h. more_votes_own past m e (no_more e h));
} where
  m : Message
  m = message.Block slot root

  entry : BlockEntry
  entry = record { slot = slot; root = Some root }

  to : (e : BlockEntry) → IsPastBlock past e ⊎ ((r : Root) × (e.root ≡ Some r) × (m ≡ message.Block e.slot r)) → IsPastBlock past e ⊎ Contains (entry ∷ []) e
  to e (inl is) = inl is
  to e (inr (r, is, same)) =
      let at : slot ≡ e.slot = cc in
      let one : Some root ≡ e.root = cc in
      let whole : entry ≡ e = ap (λ n. record { slot = n; root = Some root }) at ∙ ap (λ o. record { slot = e.slot; root = o }) one in
      inr (subst (λ (x : BlockEntry). Contains (entry ∷ []) x) whole (contains_first entry []))

  from : (e : BlockEntry) → IsPastBlock past e ⊎ Contains (entry ∷ []) e → IsPastBlock (with_own past m) e
  from e (inl is) = more_blocks_own past m e is
  from e (inr h) = at (contains_cases entry [] e h) where
    at : (entry ≡ e) ⊎ Contains [] e → IsPastBlock (with_own past m) e
    at (inl same) = subst (λ (x : BlockEntry). IsPastBlock (with_own past m) x) same (inr (root, refl, Contains-push past.own m))
    at (inr none) = contains_none e none

  vote_to : (e : VoteEntry) → IsPastVote past e ⊎ ((r : Root) × (e.root ≡ Some r) × (m ≡ message.Vote e.source e.target r)) → IsPastVote past e ⊎ Contains [] e
  vote_to e (inl is) = inl is
  vote_to e (inr (r, is, same)) = cc

pub grows_vote : (past : Past) (source target : ℕ) (root : Root)
    → Grows past (with_own past (message.Vote source target root)) no_floors [] (record { target = target; source = source; root = Some root } ∷ [])
grows_vote past source target root = record {
  more_floors = sym (floors-none (floors_of past.books));
  more_blocks = λ e. (λ is. block_to e (own_blocks past m e is), λ h. more_blocks_own past m e (no_more e h));
  more_votes = λ e. (λ is. to e (own_votes past m e is), from e);
} where
  m : Message
  m = message.Vote source target root

  entry : VoteEntry
  entry = record { target = target; source = source; root = Some root }

  to : (e : VoteEntry) → IsPastVote past e ⊎ ((r : Root) × (e.root ≡ Some r) × (m ≡ message.Vote e.source e.target r)) → IsPastVote past e ⊎ Contains (entry ∷ []) e
  to e (inl is) = inl is
  to e (inr (r, is, same)) =
      let first : target ≡ e.target = cc in
      let second : source ≡ e.source = cc in
      let one : Some root ≡ e.root = cc in
      let whole : entry ≡ e =
      ap (λ n. record { target = n; source = source; root = Some root }) first
      ∙ ap (λ n. record { target = e.target; source = n; root = Some root }) second ∙ ap (λ o. record { target = e.target; source = e.source; root = o }) one
      in
      inr (subst (λ (x : VoteEntry). Contains (entry ∷ []) x) whole (contains_first entry []))

  from : (e : VoteEntry) → IsPastVote past e ⊎ Contains (entry ∷ []) e → IsPastVote (with_own past m) e
  from e (inl is) = more_votes_own past m e is
  from e (inr h) = at (contains_cases entry [] e h) where
    at : (entry ≡ e) ⊎ Contains [] e → IsPastVote (with_own past m) e
    at (inl same) = subst (λ (x : VoteEntry). IsPastVote (with_own past m) x) same (inr (root, refl, Contains-push past.own m))
    at (inr none) = contains_none e none

  block_to : (e : BlockEntry) → IsPastBlock past e ⊎ ((r : Root) × (e.root ≡ Some r) × (m ≡ message.Block e.slot r)) → IsPastBlock past e ⊎ Contains [] e
  block_to e (inl is) = inl is
  block_to e (inr (r, is, same)) = cc

-- ---- one more book

grows_book : (past : Past) (b : Book) → Grows past (with_book past b) (book_floors b) b.blocks b.votes
grows_book past b = record {
  more_floors = floors_of-append past.books (b ∷ []) ∙ ap (λ f. greater_floors (floors_of past.books) f) (floors_of-one b);
  more_blocks = λ e. (block_to e, block_from e);
  more_votes = λ e. (vote_to e, vote_from e);
} where
  block_to : (e : BlockEntry) → IsPastBlock (with_book past b) e → IsPastBlock past e ⊎ Contains b.blocks e
  block_to e (inl (c, has, there)) = at (Contains-push_cases past.books b c has) where
    at : Contains past.books c ⊎ (b ≡ c) → IsPastBlock past e ⊎ Contains b.blocks e
    at (inl before) = inl (inl (c, before, there))
    at (inr same) = inr (subst (λ (x : Book). Contains x.blocks e) (sym same) there)
  block_to e (inr own) = inl (inr own)

  block_from : (e : BlockEntry) → IsPastBlock past e ⊎ Contains b.blocks e → IsPastBlock (with_book past b) e
  block_from e (inl (inl book)) = inl (book.0, Contains-append_left past.books (b ∷ []) book.0 book.1, book.2)
  block_from e (inl (inr own)) = inr own
  block_from e (inr has) = inl (b, Contains-push past.books b, has)

  vote_to : (e : VoteEntry) → IsPastVote (with_book past b) e → IsPastVote past e ⊎ Contains b.votes e
  vote_to e (inl (c, has, there)) = at (Contains-push_cases past.books b c has) where
    at : Contains past.books c ⊎ (b ≡ c) → IsPastVote past e ⊎ Contains b.votes e
    at (inl before) = inl (inl (c, before, there))
    at (inr same) = inr (subst (λ (x : Book). Contains x.votes e) (sym same) there)
  vote_to e (inr own) = inl (inr own)

  vote_from : (e : VoteEntry) → IsPastVote past e ⊎ Contains b.votes e → IsPastVote (with_book past b) e
  vote_from e (inl (inl book)) = inl (book.0, Contains-append_left past.books (b ∷ []) book.0 book.1, book.2)
  vote_from e (inl (inr own)) = inr own
  vote_from e (inr has) = inl (b, Contains-push past.books b, has)

-- what a past gains by the book of its key, if there is one
pub grows_gained : (old : Option Past) (found : Option Book) (after : Past) → gained with_book old found ≡ Some after
    → Grows (known_past old) after (book_floors (unwrap_or found empty_book)) (unwrap_or found empty_book).blocks (unwrap_or found empty_book).votes
grows_gained None None after is = let bad : None ≡ Some after = is in cc
grows_gained (Some past) None after is = let same : past ≡ after = cc in subst (λ (p : Past). Grows past p no_floors [] []) same (grows_nothing past)
grows_gained old (Some b) after is =
    let same : with_book (known_past old) b ≡ after = cc in
    subst (λ (p : Past). Grows (known_past old) p (book_floors b) b.blocks b.votes) same (grows_book (known_past old) b)

-- the same floors, and the same entries in whichever order
pub grows_same : (past after : Past) (f g : Floors) (bs cs : List BlockEntry) (vs ws : List VoteEntry) → Grows past after f bs vs → f ≡ g → ((e : BlockEntry) → Contains bs e ↔ Contains cs e) → ((e : VoteEntry) → Contains vs e ↔ Contains ws e)
    → Grows past after g cs ws
grows_same past after f g bs cs vs ws grows same blocks votes = record {
  more_floors = grows.more_floors ∙ ap (λ h. greater_floors (floors_of past.books) h) same;
  more_blocks = λ e. (λ is. turn (blocks e).0 ((grows.more_blocks e).0 is), λ h. (grows.more_blocks e).1 (turn (blocks e).1 h));
  more_votes = λ e. (λ is. turn (votes e).0 ((grows.more_votes e).0 is), λ h. (grows.more_votes e).1 (turn (votes e).1 h));
} where
  turn : {A B C : Type 0} → (B → C) → A ⊎ B → A ⊎ C
  turn f (inl a) = inl a
  turn f (inr b) = inr (f b)
