-- Records that are made ready for what is listed, so that it can be taken in without refusal.
use Rattle.std.specs.Prelude.{◌≡◌, ℕ, ◌≤◌, ◌⊎◌, false, List, [], ◌∷◌, ◌++◌, All, None, IsSome, IsSomeAnd, fold, length}
use Rattle.std.specs.BTreeMap.{is_at}
use Rattle.edge_kit.specs.declared.bytes.PubKey.{PubKey}
use Rattle.slash_defs.specs.declared.book.Book.{Book}
use Rattle.protect_record.specs.Parts.{Parts, SameParts, no_floors}
use Rattle.record_join.specs.Keys.{key_cmp, kept_of, with_key, EachKey}
use Rattle.record_join.specs.BooksPasts.{new_keys, KeepsOthers}

-- what a record without a past keeps
abbrev pub no_parts : Parts
no_parts = record { floors = no_floors; blocks = []; votes = []; block_room = 0; vote_room = 0 }

-- with each of these keys, one after another, and the same thing kept of each
abbrev pub with_each : {X : Type 0} → X → List (PubKey × X) → List PubKey → List (PubKey × X)
with_each x kept keys = fold (λ before key. with_key before key x) kept keys

-- each of these keys is new where its turn comes
abbrev pub AreFresh : {X : Type 0} → X → List (PubKey × X) → List PubKey → Type 0
AreFresh x kept [] = Unit {0}
AreFresh x kept (key ∷ keys) = (kept_of kept key ≡ None) × AreFresh x (with_key kept key x) keys

-- there is room for so many more blocks and votes
abbrev pub HasRoomFor : Parts → ℕ × ℕ → Type 0
HasRoomFor parts size = (size.0 ≤ parts.block_room) × (size.1 ≤ parts.vote_room)

-- how many blocks and votes a book lists
abbrev pub book_size : Book → ℕ × ℕ
book_size book = (length book.blocks, length book.votes)

-- how many blocks and votes a record keeps
abbrev pub parts_size : Parts → ℕ × ℕ
parts_size parts = (length parts.blocks, length parts.votes)

-- each listed key is kept, with room for what is listed for it
abbrev pub HaveRoomFor : {X : Type 0} → (X → ℕ × ℕ) → List (PubKey × Parts) → List (PubKey × X) → Type 0
HaveRoomFor size kept listed = All (λ one. IsSomeAnd (kept_of kept one.0) (λ parts. HasRoomFor parts (size one.1))) listed

-- the records are as before but for room, beside empty ones of listed keys that were not kept
pub record ArePrepared {X : Type 0} (old : List (PubKey × Parts)) (listed : List (PubKey × X)) (fresh : List PubKey) (new : List (PubKey × Parts)) : Type 0 where
  pub same : EachKey SameParts (with_each no_parts old fresh) new
  pub absent : AreFresh no_parts old fresh
  pub are_listed : All (λ key. IsSome (kept_of listed key)) fresh
  pub others : KeepsOthers listed old new

-- beside that, one key is fresh for each that was not kept, and there is room for all that is listed
pub record IsReady {X : Type 0} (size : X → ℕ × ℕ) (old : List (PubKey × Parts)) (listed : List (PubKey × X)) (fresh : List PubKey) (new : List (PubKey × Parts)) : Type 0 where
  pub prepared : ArePrepared old listed fresh new
  pub count : length fresh ≡ new_keys old listed
  pub room : HaveRoomFor size new listed

-- the keys of these books are kept, with room for them
abbrev pub IsPrepared : List (PubKey × Parts) → List (PubKey × Book) → List PubKey → List (PubKey × Parts) → Type 0
IsPrepared old listed fresh new = IsReady book_size old listed fresh new

-- fresh keys joined the kept ones with empty records, and of the others each keeps what it kept, maybe with more room
pub record AreTaken (before : List (PubKey × Parts)) (fresh : List PubKey) (now : List (PubKey × Parts)) : Type 0 where
  pub absent : AreFresh no_parts before fresh
  pub same : EachKey SameParts (with_each no_parts before fresh) now

-- the key was kept; or it is now, with an empty record, and stands behind the fresh ones
abbrev pub Knows : List (PubKey × Parts) → List (PubKey × Parts) → PubKey → List PubKey → List PubKey → Type 0
Knows old new key fresh more =
    (IsSome (kept_of old key) × (new ≡ old) × (more ≡ fresh))
    ⊎ ((kept_of old key ≡ None) × ((parts : Parts) × SameParts no_parts parts × (new ≡ with_key old key parts)) × (more ≡ fresh ++ key ∷ []))

-- of all keys but this one nothing has changed, and the key may have become a fresh one
pub record MakesRoom (old new : List (PubKey × Parts)) (key : PubKey) (fresh more : List PubKey) : Type 0 where
  pub noted : (more ≡ fresh) ⊎ (more ≡ fresh ++ key ∷ [])
  pub same : (before : List (PubKey × Parts)) → AreFresh no_parts before fresh → EachKey SameParts (with_each no_parts before fresh) old
      → AreFresh no_parts before more × EachKey SameParts (with_each no_parts before more) new
  pub others : (other : PubKey) → is_at (key_cmp key) other ≡ false → kept_of new other ≡ kept_of old other
