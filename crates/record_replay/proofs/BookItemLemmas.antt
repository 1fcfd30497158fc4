-- What the items of books name and give: each key its book.
use Rattle.std.proofs.Common.{◌≡◌, Bool, true, false, cond, ◌||◌, List, [], ◌∷◌, ◌++◌, map, fold, None, Some, unwrap_or, refl, ◌∙◌, ap, append-nil}
use Rattle.std.specs.BTreeMap.{is_at}
use Rattle.std.specs.List.{IsDistinct, AllByRecursion}
use Rattle.std.specs.Map.{keys_of}
use Rattle.std.specs.Ordering.{eq_by_cmp}
use Rattle.std.proofs.lemmas.List.{map-append}
use Rattle.std.proofs.lemmas.List.Folds.{list_any-append}
use Rattle.std.proofs.lemmas.List.Sums.{fold-append}
use Rattle.std.proofs.lemmas.Map.Keys.{IsDistinct-head, IsDistinct-tail}
use Rattle.edge_kit.specs.declared.bytes.PubKey.{PubKey}
use Rattle.slash_defs.specs.declared.entry.BlockEntry.{BlockEntry}
use Rattle.slash_defs.specs.declared.entry.VoteEntry.{VoteEntry}
use Rattle.slash_defs.specs.declared.book.Book.{Book}
use Rattle.protect_record.specs.declared.floors.Floors.{Floors}
use Rattle.protect_record.specs.Floors.{book_floors, greater_floors}
use Rattle.protect_record.specs.Parts.{no_floors}
use Rattle.interchange_io.specs.WrittenOrder.{book_at, empty_book}
use Rattle.record_codec.specs.declared.item.JournalItem.{JournalItem}
use Rattle.record_codec.specs.declared.item.JournalItem.TheVariants as item
use Rattle.record_join.specs.Keys.{key_cmp, kept_of}
use Rattle.record_join.specs.KeyLaws.{same_key}
use Rattle.record_replay.specs.Batches.{book_items, file_items, floors_item}
use Rattle.record_replay.specs.Items.{blocks_in, floors_in, key_of, votes_in, with_state}
use Rattle.record_replay.specs.Watches.{Watched, with_watch}
use Rattle.record_replay.specs.declared.state.KeyState.{KeyState}
use Rattle.record_replay.proofs.NamedLemmas.{has, or_none}
use Rattle.record_replay.proofs.ItemLemmas.{blocks_more, floors-none, floors_more, no_blocks_in, no_floors_in, no_votes_in, votes_more}

-- ---- the keys that they name

or_same : (a b : Bool) → b ≡ a → (a || b) ≡ a
or_same true b e = refl
or_same false b e = e

blocks_name : (q k : PubKey) (bs : List BlockEntry) (more : List JournalItem) → has q (map key_of more) ≡ is_at (key_cmp q) k → has q (map key_of (map (item.Block k) bs ++ more)) ≡ is_at (key_cmp q) k
blocks_name q k [] more rest = rest
blocks_name q k (b ∷ bs) more rest = or_same (is_at (key_cmp q) k) _ (blocks_name q k bs more rest)

votes_name : (q k : PubKey) (vs : List VoteEntry) (more : List JournalItem) → has q (map key_of more) ≡ is_at (key_cmp q) k → has q (map key_of (map (item.Vote k) vs ++ more)) ≡ is_at (key_cmp q) k
votes_name q k [] more rest = rest
votes_name q k (v ∷ vs) more rest = or_same (is_at (key_cmp q) k) _ (votes_name q k vs more rest)

book_names : (q : PubKey) (one : PubKey × Book) → has q (map key_of (book_items one)) ≡ is_at (key_cmp q) one.0
book_names q one = blocks_name q one.0 one.1.blocks _ (votes_name q one.0 one.1.votes (floors_item one.0 (book_floors one.1) ∷ []) (or_none (is_at (key_cmp q) one.0)))

pub file_names : (q : PubKey) (books : List (PubKey × Book)) → has q (map key_of (file_items books)) ≡ has q (keys_of books)
file_names q [] = refl
file_names q (one ∷ more) =
    ap (λ ks. has q ks) (map-append key_of (book_items one) (file_items more))
    ∙ list_any-append (is_at (key_cmp q)) (map key_of (book_items one)) (map key_of (file_items more))
    ∙ ap (λ b. b || has q (map key_of (file_items more))) (book_names q one) ∙ ap (λ b. is_at (key_cmp q) one.0 || b) (file_names q more)

-- ---- what they say of states: nothing

blocks_state : (states : List (PubKey × KeyState)) (k : PubKey) (bs : List BlockEntry) (more : List JournalItem) → fold with_state states (map (item.Block k) bs ++ more) ≡ fold with_state states more
blocks_state states k [] more = refl
blocks_state states k (b ∷ bs) more = blocks_state states k bs more

votes_state : (states : List (PubKey × KeyState)) (k : PubKey) (vs : List VoteEntry) (more : List JournalItem) → fold with_state states (map (item.Vote k) vs ++ more) ≡ fold with_state states more
votes_state states k [] more = refl
votes_state states k (v ∷ vs) more = votes_state states k vs more

book_state : (states : List (PubKey × KeyState)) (one : PubKey × Book) → fold with_state states (book_items one) ≡ states
book_state states one =
    let last : List JournalItem = floors_item one.0 (book_floors one.1) ∷ [] in
    blocks_state states one.0 one.1.blocks (map (item.Vote one.0) one.1.votes ++ last) ∙ votes_state states one.0 one.1.votes last

pub file_state : (states : List (PubKey × KeyState)) (books : List (PubKey × Book)) → fold with_state states (file_items books) ≡ states
file_state states [] = refl
file_state states (one ∷ more) =
    fold-append with_state states (book_items one) (file_items more) ∙ ap (λ s. fold with_state s (file_items more)) (book_state states one) ∙ file_state states more

-- ---- and nothing of watches

blocks_watch : (watched : List (PubKey × Watched)) (k : PubKey) (bs : List BlockEntry) (more : List JournalItem) → fold with_watch watched (map (item.Block k) bs ++ more) ≡ fold with_watch watched more
blocks_watch watched k [] more = refl
blocks_watch watched k (b ∷ bs) more = blocks_watch watched k bs more

votes_watch : (watched : List (PubKey × Watched)) (k : PubKey) (vs : List VoteEntry) (more : List JournalItem) → fold with_watch watched (map (item.Vote k) vs ++ more) ≡ fold with_watch watched more
votes_watch watched k [] more = refl
votes_watch watched k (v ∷ vs) more = votes_watch watched k vs more

book_watch : (watched : List (PubKey × Watched)) (one : PubKey × Book) → fold with_watch watched (book_items one) ≡ watched
book_watch watched one =
    let last : List JournalItem = floors_item one.0 (book_floors one.1) ∷ [] in
    blocks_watch watched one.0 one.1.blocks (map (item.Vote one.0) one.1.votes ++ last) ∙ votes_watch watched one.0 one.1.votes last

pub file_watch : (watched : List (PubKey × Watched)) (books : List (PubKey × Book)) → fold with_watch watched (file_items books) ≡ watched
file_watch watched [] = refl
file_watch watched (one ∷ more) =
    fold-append with_watch watched (book_items one) (file_items more) ∙ ap (λ w. fold with_watch w (file_items more)) (book_watch watched one) ∙ file_watch watched more

-- ---- what they give

here_blocks : (key k : PubKey) (bs : List BlockEntry) → is_at (key_cmp key) k ≡ true → blocks_in (map (item.Block k) bs) key ≡ bs
here_blocks key k [] at = refl
here_blocks key k (b ∷ bs) at = rw at (ap (λ l. b ∷ l) (here_blocks key k bs at))

here_votes : (key k : PubKey) (vs : List VoteEntry) → is_at (key_cmp key) k ≡ true → votes_in (map (item.Vote k) vs) key ≡ vs
here_votes key k [] at = refl
here_votes key k (v ∷ vs) at = rw at (ap (λ l. v ∷ l) (here_votes key k vs at))

no_blocks_of_votes : (key k : PubKey) (vs : List VoteEntry) → blocks_in (map (item.Vote k) vs) key ≡ []
no_blocks_of_votes key k [] = refl
no_blocks_of_votes key k (v ∷ vs) = no_blocks_of_votes key k vs

no_votes_of_blocks : (key k : PubKey) (bs : List BlockEntry) → votes_in (map (item.Block k) bs) key ≡ []
no_votes_of_blocks key k [] = refl
no_votes_of_blocks key k (b ∷ bs) = no_votes_of_blocks key k bs

no_floors_of_votes : (key k : PubKey) (vs : List VoteEntry) → floors_in (map (item.Vote k) vs) key ≡ no_floors
no_floors_of_votes key k [] = refl
no_floors_of_votes key k (v ∷ vs) = no_floors_of_votes key k vs

no_floors_of_blocks : (key k : PubKey) (bs : List BlockEntry) → floors_in (map (item.Block k) bs) key ≡ no_floors
no_floors_of_blocks key k [] = refl
no_floors_of_blocks key k (b ∷ bs) = no_floors_of_blocks key k bs

book_blocks : (key : PubKey) (one : PubKey × Book) → is_at (key_cmp key) one.0 ≡ true → blocks_in (book_items one) key ≡ one.1.blocks
book_blocks key one at =
    let last : List JournalItem = floors_item one.0 (book_floors one.1) ∷ [] in
    blocks_more (map (item.Block one.0) one.1.blocks) (map (item.Vote one.0) one.1.votes ++ last) key
    ∙ ap (λ bs. blocks_in (map (item.Block one.0) one.1.blocks) key ++ bs) (blocks_more (map (item.Vote one.0) one.1.votes) last key ∙ ap (λ bs. bs ++ []) (no_blocks_of_votes key one.0 one.1.votes))
    ∙ append-nil (blocks_in (map (item.Block one.0) one.1.blocks) key) ∙ here_blocks key one.0 one.1.blocks at

book_votes : (key : PubKey) (one : PubKey × Book) → is_at (key_cmp key) one.0 ≡ true → votes_in (book_items one) key ≡ one.1.votes
book_votes key one at =
    let last : List JournalItem = floors_item one.0 (book_floors one.1) ∷ [] in
    votes_more (map (item.Block one.0) one.1.blocks) (map (item.Vote one.0) one.1.votes ++ last) key
    ∙ ap (λ vs. vs ++ votes_in (map (item.Vote one.0) one.1.votes ++ last) key) (no_votes_of_blocks key one.0 one.1.blocks)
    ∙ votes_more (map (item.Vote one.0) one.1.votes) last key ∙ append-nil (votes_in (map (item.Vote one.0) one.1.votes) key) ∙ here_votes key one.0 one.1.votes at

here_floors : (key k : PubKey) (f : Floors) → is_at (key_cmp key) k ≡ true → floors_in (floors_item k f ∷ []) key ≡ f
here_floors key k f at = rw at refl

book_sets : (key : PubKey) (one : PubKey × Book) → is_at (key_cmp key) one.0 ≡ true → floors_in (book_items one) key ≡ book_floors one.1
book_sets key one at =
    let last : List JournalItem = floors_item one.0 (book_floors one.1) ∷ [] in
    floors_more (map (item.Block one.0) one.1.blocks) (map (item.Vote one.0) one.1.votes ++ last) key
    ∙ ap (λ f. greater_floors f (floors_in (map (item.Vote one.0) one.1.votes ++ last) key)) (no_floors_of_blocks key one.0 one.1.blocks)
    ∙ floors_more (map (item.Vote one.0) one.1.votes) last key
    ∙ ap (λ f. greater_floors f (floors_in last key)) (no_floors_of_votes key one.0 one.1.votes) ∙ here_floors key one.0 (book_floors one.1) at

none_listed : {X : Type 0} (a : PubKey) (more : List (PubKey × X)) → AllByRecursion (λ y. eq_by_cmp key_cmp a y ≡ false) (keys_of more) → kept_of more a ≡ None
none_listed a [] all = refl
none_listed {X} a (b ∷ more) all = let apart : is_at (key_cmp a) b.0 ≡ false = all.0 in rw apart (none_listed a more all.1)

-- a key that is the first of different ones is not among the others
pub none_behind : (key : PubKey) (one : PubKey × Book) (more : List (PubKey × Book)) → IsDistinct (eq_by_cmp key_cmp) (keys_of (one ∷ more)) → is_at (key_cmp key) one.0 ≡ true → book_at more key ≡ empty_book
none_behind key one more distinct at =
    ap (λ o. unwrap_or o empty_book) (ap (λ k. kept_of more k) (same_key key one.0 at) ∙ none_listed one.0 more (IsDistinct-head (eq_by_cmp key_cmp) one.0 (keys_of more) distinct))

apart_names : (key : PubKey) (one : PubKey × Book) → is_at (key_cmp key) one.0 ≡ false → has key (map key_of (book_items one)) ≡ false
apart_names key one apart = book_names key one ∙ apart

pub file_blocks : (key : PubKey) (books : List (PubKey × Book)) → IsDistinct (eq_by_cmp key_cmp) (keys_of books) → blocks_in (file_items books) key ≡ (book_at books key).blocks
file_blocks key [] distinct = refl
file_blocks key (one ∷ more) distinct = blocks_more (book_items one) (file_items more) key ∙ at (is_at (key_cmp key) one.0) refl (file_blocks key more (IsDistinct-tail (eq_by_cmp key_cmp) one.0 (keys_of more) distinct)) where
  at : (b : Bool) → is_at (key_cmp key) one.0 ≡ b → blocks_in (file_items more) key ≡ (book_at more key).blocks
      → blocks_in (book_items one) key ++ blocks_in (file_items more) key ≡ (unwrap_or (cond b (Some one.1) (kept_of more key)) empty_book).blocks
  at true is rest =
      ap (λ bs. blocks_in (book_items one) key ++ bs) (rest ∙ ap (λ b. b.blocks) (none_behind key one more distinct is)) ∙ append-nil (blocks_in (book_items one) key) ∙ book_blocks key one is
  at false is rest = ap (λ bs. bs ++ blocks_in (file_items more) key) (no_blocks_in (book_items one) key (apart_names key one is)) ∙ rest

pub file_votes : (key : PubKey) (books : List (PubKey × Book)) → IsDistinct (eq_by_cmp key_cmp) (keys_of books) → votes_in (file_items books) key ≡ (book_at books key).votes
file_votes key [] distinct = refl
file_votes key (one ∷ more) distinct = votes_more (book_items one) (file_items more) key ∙ at (is_at (key_cmp key) one.0) refl (file_votes key more (IsDistinct-tail (eq_by_cmp key_cmp) one.0 (keys_of more) distinct)) where
  at : (b : Bool) → is_at (key_cmp key) one.0 ≡ b → votes_in (file_items more) key ≡ (book_at more key).votes
      → votes_in (book_items one) key ++ votes_in (file_items more) key ≡ (unwrap_or (cond b (Some one.1) (kept_of more key)) empty_book).votes
  at true is rest = ap (λ vs. votes_in (book_items one) key ++ vs) (rest ∙ ap (λ b. b.votes) (none_behind key one more distinct is)) ∙ append-nil (votes_in (book_items one) key) ∙ book_votes key one is
  at false is rest = ap (λ vs. vs ++ votes_in (file_items more) key) (no_votes_in (book_items one) key (apart_names key one is)) ∙ rest

pub file_sets : (key : PubKey) (books : List (PubKey × Book)) → IsDistinct (eq_by_cmp key_cmp) (keys_of books) → floors_in (file_items books) key ≡ book_floors (book_at books key)
file_sets key [] distinct = refl
file_sets key (one ∷ more) distinct = floors_more (book_items one) (file_items more) key ∙ at (is_at (key_cmp key) one.0) refl (file_sets key more (IsDistinct-tail (eq_by_cmp key_cmp) one.0 (keys_of more) distinct)) where
  at : (b : Bool) → is_at (key_cmp key) one.0 ≡ b → floors_in (file_items more) key ≡ book_floors (book_at more key)
      → greater_floors (floors_in (book_items one) key) (floors_in (file_items more) key) ≡ book_floors (unwrap_or (cond b (Some one.1) (kept_of more key)) empty_book)
  at true is rest =
      ap (λ f. greater_floors (floors_in (book_items one) key) f) (rest ∙ ap book_floors (none_behind key one more distinct is)) ∙ floors-none (floors_in (book_items one) key) ∙ book_sets key one is
  at false is rest = ap (λ f. greater_floors f (floors_in (file_items more) key)) (no_floors_in (book_items one) key (apart_names key one is)) ∙ rest
