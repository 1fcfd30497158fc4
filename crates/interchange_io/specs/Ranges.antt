-- What the types of a file say of its numbers and bytes.
use Rattle.std.specs.Prelude.{◌≡◌, ℕ, ◌^◌, ◌<◌, List, length, Option, Some, None, ⊤}
use Rattle.std.specs.List.{AllByRecursion}
use Rattle.hex.specs.Hex.{IsBytes}
use Rattle.edge_kit.specs.declared.bytes.PubKey.{PubKey}
use Rattle.edge_kit.specs.declared.bytes.Root.{Root}
use Rattle.slash_defs.specs.declared.entry.BlockEntry.{BlockEntry}
use Rattle.slash_defs.specs.declared.entry.VoteEntry.{VoteEntry}
use Rattle.slash_defs.specs.declared.book.Book.{Book}
use Rattle.slash_defs.specs.declared.book.File.{File}

-- n bytes
abbrev pub AreBytes : ℕ → List ℕ → Type 0
AreBytes n bytes = (length bytes ≡ n) × IsBytes bytes

-- the root, if any, has 32 bytes
abbrev pub RootFits : Option Root → Type 0
RootFits None = ⊤
RootFits (Some root) = AreBytes 32 root.0

-- a slot has 64 bits
abbrev pub BlockFits : BlockEntry → Type 0
BlockFits block = (block.slot < 2 ^ 64) × RootFits block.root

-- an epoch has 64 bits
abbrev pub VoteFits : VoteEntry → Type 0
VoteFits vote = (vote.source < 2 ^ 64) × (vote.target < 2 ^ 64) × RootFits vote.root

-- a key has 48 bytes
abbrev pub BookFits : PubKey × Book → Type 0
BookFits book = AreBytes 48 book.0.0 × AllByRecursion BlockFits book.1.blocks × AllByRecursion VoteFits book.1.votes

-- a genesis validators root has 32 bytes
abbrev pub FileFits : File → Type 0
FileFits file = AreBytes 32 file.genesis.0 × AllByRecursion BookFits file.books
