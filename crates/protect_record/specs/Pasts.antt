-- The past of a key: what was imported for it, and what this client recorded for it.
use Rattle.std.specs.Prelude.{◌≡◌, List, [], ◌∷◌, ◌++◌, Contains, ◌⊎◌, Some}
use Rattle.edge_kit.specs.declared.bytes.Root.{Root}
use Rattle.slash_defs.specs.declared.message.Message.{Message}
use Rattle.slash_defs.specs.declared.message.Message.TheVariants as message
use Rattle.slash_defs.specs.declared.entry.BlockEntry.{BlockEntry}
use Rattle.slash_defs.specs.declared.entry.VoteEntry.{VoteEntry}
use Rattle.slash_defs.specs.declared.book.Book.{Book}

-- the imported books in the order of their import, and the own messages
pub record Past : Type 0 where
  pub books : List Book
  pub own : List Message

-- nothing imported and nothing recorded
abbrev pub no_past : Past
no_past = record { books = []; own = [] }

-- one more own message
abbrev pub with_own : Past → Message → Past
with_own past m = record { books = past.books; own = past.own ++ m ∷ [] }

-- one more imported book
abbrev pub with_book : Past → Book → Past
with_book past b = record { books = past.books ++ b ∷ []; own = past.own }

-- one past after the other
abbrev pub then_past : Past → Past → Past
then_past p q = record { books = p.books ++ q.books; own = p.own ++ q.own }

-- a block of the past: of any of its books (EIP-3076, `signed_blocks`), or an own one with its root
abbrev pub IsPastBlock : Past → BlockEntry → Type 0
IsPastBlock past e =
    ((b : Book) × Contains past.books b × Contains b.blocks e)
    ⊎ ((root : Root) × (e.root ≡ Some root) × Contains past.own (message.Block e.slot root))

-- a vote of the past, likewise (EIP-3076, `signed_attestations`)
abbrev pub IsPastVote : Past → VoteEntry → Type 0
IsPastVote past e =
    ((b : Book) × Contains past.books b × Contains b.votes e)
    ⊎ ((root : Root) × (e.root ≡ Some root) × Contains past.own (message.Vote e.source e.target root))
