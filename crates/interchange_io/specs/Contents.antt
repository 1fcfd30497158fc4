-- What books hold, whatever their order, and what it is to be in written order.
use Rattle.std.specs.Prelude.{◌≡◌, ◌⊎◌, ◌↔◌, List, [], ◌∷◌, ◌++◌, if◌then◌else◌, not, filter, Contains, ⊤}
use Rattle.std.specs.List.{AllByRecursion}
use Rattle.std.specs.List.Sorted.{IsStrictlySortedBy}
use Rattle.std.specs.Map.{keys_of}
use Rattle.std.specs.Str.{bytes_eq}
use Rattle.edge_kit.specs.declared.bytes.PubKey.{PubKey}
use Rattle.slash_defs.specs.declared.entry.BlockEntry.{BlockEntry}
use Rattle.slash_defs.specs.declared.entry.VoteEntry.{VoteEntry}
use Rattle.slash_defs.specs.declared.book.Book.{Book}
use Rattle.slash_defs.specs.FileOrder.{block_cmp, vote_cmp}
use Rattle.interchange_io.specs.United.{key_cmp, is_of}

-- some book of the key is such
abbrev pub SomeBook : PubKey → (Book → Type 0) → List (PubKey × Book) → Type 0
SomeBook key holds [] = ⊥
SomeBook key holds (first ∷ books) = ((first.0 ≡ key) × holds first.1) ⊎ SomeBook key holds books

-- both list the same keys, and for each key the same blocks and the same votes
pub record HoldSame (first second : List (PubKey × Book)) : Type 0 where
  pub keys : (key : PubKey) → SomeBook key (λ _. ⊤) first ↔ SomeBook key (λ _. ⊤) second
  pub blocks : (key : PubKey) (block : BlockEntry) → SomeBook key (λ book. Contains book.blocks block) first ↔ SomeBook key (λ book. Contains book.blocks block) second
  pub votes : (key : PubKey) (vote : VoteEntry) → SomeBook key (λ book. Contains book.votes vote) first ↔ SomeBook key (λ book. Contains book.votes vote) second

-- blocks and votes ascend in file order
abbrev pub IsBookInOrder : PubKey × Book → Type 0
IsBookInOrder book = IsStrictlySortedBy block_cmp book.1.blocks × IsStrictlySortedBy vote_cmp book.1.votes

-- keys and entries ascend, so each stands once
pub record AreInWrittenOrder (books : List (PubKey × Book)) : Type 0 where
  pub keys : IsStrictlySortedBy key_cmp (keys_of books)
  pub entries : AllByRecursion IsBookInOrder books

-- each key at its first place
abbrev pub first_places : List PubKey → List PubKey
first_places [] = []
first_places (key ∷ keys) = key ∷ filter (λ other. not (bytes_eq key.0 other.0)) (first_places keys)

-- what the books of a key list, one after another
abbrev pub listed_for : {X : Type 0} → PubKey → (Book → List X) → List (PubKey × Book) → List X
listed_for key part [] = []
listed_for key part (first ∷ books) = (if is_of key first then part first.1 else []) ++ listed_for key part books

-- whole has each key of the books once, at its first place, with all that they list for it in order
pub record IsUnited (books whole : List (PubKey × Book)) : Type 0 where
  pub keys : keys_of whole ≡ first_places (keys_of books)
  pub blocks : (key : PubKey) → listed_for key (λ book. book.blocks) whole ≡ listed_for key (λ book. book.blocks) books
  pub votes : (key : PubKey) → listed_for key (λ book. book.votes) whole ≡ listed_for key (λ book. book.votes) books
