-- The one text of an interchange file (EIP-3076, JSON schema): compact JSON with its members in byte order.
use Rattle.std.specs.Prelude.{ℕ, List, ◌++◌, map, Option, Some, None, codes, decimal}
use Rattle.edge_kit.specs.Texts.{hex_text}
use Rattle.serde_json.specs.Data.{Data, string, array, object, Members, no_members, member}
use Rattle.serde_json.specs.View.{items_of}
use Rattle.serde_json.specs.Written.{compact_text}
use Rattle.edge_kit.specs.declared.bytes.PubKey.{PubKey}
use Rattle.edge_kit.specs.declared.bytes.Root.{Root}
use Rattle.slash_defs.specs.declared.entry.BlockEntry.{BlockEntry}
use Rattle.slash_defs.specs.declared.entry.VoteEntry.{VoteEntry}
use Rattle.slash_defs.specs.declared.book.Book.{Book}
use Rattle.slash_defs.specs.declared.book.File.{File}
use Rattle.interchange_io.specs.declared.member.Member.TheVariants as members
use Rattle.interchange_io.specs.Members.{name_of}
use Rattle.interchange_io.specs.WrittenOrder.{canonical}

-- an absent root is left out
abbrev pub with_root : Option Root → Members → Members
with_root None rest = rest
with_root (Some root) rest = member (name_of members.SigningRoot) (string (hex_text root.0)) rest

-- a block or a vote up to its first number
abbrev pub opening_text : Option Root → List ℕ
opening_text None = codes "{"
opening_text (Some root) = codes "{\"signing_root\":" ++ compact_text (string (hex_text root.0)) ++ codes ","

-- an element of `signed_blocks`
abbrev pub block_data : BlockEntry → Data
block_data block = object (with_root block.root (member (name_of members.Slot) (string (decimal block.slot)) no_members))

-- an element of `signed_attestations`
abbrev pub vote_data : VoteEntry → Data
vote_data vote =
    object (with_root vote.root
    (member (name_of members.SourceEpoch) (string (decimal vote.source))
    (member (name_of members.TargetEpoch) (string (decimal vote.target)) no_members)))

-- an element of `data`, both lists always there
abbrev pub book_data : PubKey × Book → Data
book_data book =
    object (member (name_of members.Pubkey) (string (hex_text book.0.0))
    (member (name_of members.SignedAttestations) (array (items_of (map vote_data book.1.votes)))
    (member (name_of members.SignedBlocks) (array (items_of (map block_data book.1.blocks))) no_members)))

-- `metadata`
abbrev pub metadata_data : Root → Data
metadata_data genesis =
    object (member (name_of members.GenesisValidatorsRoot) (string (hex_text genesis.0))
    (member (name_of members.InterchangeFormatVersion) (string (codes "5")) no_members))

-- the whole value
abbrev pub file_data : File → Data
file_data file =
    object (member (name_of members.Data) (array (items_of (map book_data file.books)))
    (member (name_of members.Metadata) (metadata_data file.genesis) no_members))

-- the bytes of the written file
unfoldable pub file_text : File → List ℕ
file_text file = compact_text (file_data (canonical file))
