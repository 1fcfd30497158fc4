-- What a change makes of each key, whatever is kept of the others.
use Rattle.std.specs.Prelude.{◌≡◌, ◌≤◌, List, [], Option, None, Some, IsSomeAnd, length}
use Rattle.std.specs.List.Sorted.{IsStrictlySortedBy}
use Rattle.std.specs.Map.{keys_of}
use Rattle.edge_kit.specs.declared.bytes.PubKey.{PubKey}
use Rattle.slash_defs.specs.declared.book.Book.{Book}
use Rattle.slash_defs.specs.declared.message.Message.{Message}
use Rattle.protect_record.specs.Parts.{Parts, no_floors}
use Rattle.protect_record.specs.Pasts.{Past, with_own, with_book, then_past}
use Rattle.protect_record.specs.Standing.{Stands}
use Rattle.protect_record.specs.Changes.{HasAdded}
use Rattle.protect_record.specs.Gathering.{IsJoin, IsMerge, SameEntries}
use Rattle.record_join.specs.Keys.{key_cmp, kept_of, with_kept}
use Rattle.record_join.specs.BooksPasts.{KeepsOthers, key_limit}
use Rattle.record_join.specs.Preparing.{no_parts}

-- the keys are in order, each once, and at most so many
pub record AreBooks (kept : List (PubKey × Parts)) : Type 0 where
  pub ordered : IsStrictlySortedBy key_cmp (keys_of kept)
  pub limit : length kept ≤ key_limit

-- what is kept of a key; an empty record where it is not kept
abbrev pub known_parts : Option Parts → Parts
known_parts None = no_parts
known_parts (Some parts) = parts

-- the record of a key stands for the key's past; a key that is not kept has neither
abbrev pub StandsOf : Option Parts → Option Past → Type 0
StandsOf None None = Unit {0}
StandsOf (Some parts) (Some past) = Stands parts past
StandsOf None (Some past) = ⊥
StandsOf (Some parts) None = ⊥

-- a book is merged into a record, and into each past that the record stands for
pub record TakesBook (old : Parts) (book : Book) (new : Parts) : Type 0 where
  pub merged : IsMerge old book new
  pub stands : (past : Past) → Stands old past → Stands new (with_book past book)

-- nothing is kept but maybe room
pub record IsEmpty (parts : Parts) : Type 0 where
  pub floors : parts.floors ≡ no_floors
  pub blocks : parts.blocks ≡ []
  pub votes : parts.votes ≡ []

-- another record is joined to a record, and any past of the one to any past of the other; to an empty record it is copied
pub record TakesRecord (old other new : Parts) : Type 0 where
  pub joined : IsJoin old other new
  pub copied : IsEmpty old → SameEntries other new
  pub stands : (p q : Past) → Stands old p → Stands other q → Stands new (then_past p q)

-- a message is added to a record, and to each past that the record stands for
pub record TakesMessage (old : Parts) (m : Message) (new : Parts) : Type 0 where
  pub added : HasAdded old new m
  pub stands : (past : Past) → Stands old past → Stands new (with_own past m)

-- the record of each listed key takes in what is listed for it, an empty record where the key was not kept; a key that is not listed has what it had
pub record EachTakes {X : Type 0} (Taken : Parts → X → Parts → Type 0) (listed : List (PubKey × X)) (old new : List (PubKey × Parts)) : Type 0 where
  pub each : (key : PubKey) (x : X) → kept_of listed key ≡ Some x → IsSomeAnd (kept_of new key) (λ parts. Taken (known_parts (kept_of old key)) x parts)
  pub others : KeepsOthers listed old new

-- the record of this key takes something in, and nothing else changes
pub record Takes {X : Type 0} (Taken : Parts → X → Parts → Type 0) (old new : List (PubKey × Parts)) (key : PubKey) (x : X) : Type 0 where
  pub parts : Parts
  pub is_kept : kept_of old key ≡ Some parts
  pub after : Parts
  pub taken : Taken parts x after
  pub is : new ≡ with_kept old key after
