-- What an interchange file of format version 5 says (EIP-3076, JSON schema), by cases on its JSON value. Each member is read in
-- turn, in the order in which refusals come.
use Rattle.std.specs.Prelude.{ℕ, List, length, nat_lt, if◌then◌else◌, Option, Some, None, option_map, option_and_then, is_some, ok_or, Result, Ok, Err, codes}
use Rattle.std.specs.Str.{is_utf8, bytes_eq}
use Rattle.edge_kit.specs.Texts.{quoted_number, hex_bytes}
use Rattle.edge_kit.specs.declared.bytes.PubKey.{PubKey}
use Rattle.edge_kit.specs.declared.bytes.Root.{Root}
use Rattle.slash_defs.specs.declared.entry.BlockEntry.{BlockEntry}
use Rattle.slash_defs.specs.declared.entry.VoteEntry.{VoteEntry}
use Rattle.slash_defs.specs.declared.book.Book.{Book}
use Rattle.slash_defs.specs.declared.book.File.{File}
use Rattle.serde_json.specs.Data.{Data, Items, no_items}
use Rattle.serde_json.specs.Read.{read}
use Rattle.serde_json.specs.Find.{get, as_null, as_str, as_array, as_object}
use Rattle.interchange_io.specs.declared.member.Member.{Member}
use Rattle.interchange_io.specs.declared.member.Member.TheVariants as member
use Rattle.interchange_io.specs.declared.fault.ReadFault.{ReadFault}
use Rattle.interchange_io.specs.declared.fault.ReadFault.TheVariants as fault
use Rattle.interchange_io.specs.Members.{name_of}
use Rattle.interchange_io.specs.Steps.{◌>>=◌, each}
use Rattle.interchange_io.specs.United.{united}

-- the most bytes that a file may have
abbrev pub file_limit : ℕ
file_limit = 268435456

-- a root of these bytes
abbrev pub root : List ℕ → Root
root bytes = record { 0 = bytes }

-- a key of these bytes
abbrev pub pub_key : List ℕ → PubKey
pub_key bytes = record { 0 = bytes }

-- a value that has to be an object: another kind is missing, under the name of the member or of its list
abbrev pub object_in : Member → Data → Result (Unit {0}) ReadFault
object_in m d = if is_some (as_object d) then Ok tt else Err (fault.Missing m)

-- a member that has to be there, of whatever kind
abbrev pub member_in : Member → Data → Result Data ReadFault
member_in m d = ok_or (get (name_of m) d) (fault.Missing m)

-- the text of a member, if it is one
abbrev pub text_of : Member → Data → Option (List ℕ)
text_of m d = option_and_then as_str (get (name_of m) d)

-- a member that has to be a text
abbrev pub text_in : Member → Data → Result (List ℕ) ReadFault
text_in m d = ok_or (text_of m d) (fault.Missing m)

-- a slot or an epoch, a text of decimal digits (EIP-3076, JSON schema)
abbrev pub number_in : Member → Data → Result ℕ ReadFault
number_in m d = do
  text ← text_in m d
  ok_or (quoted_number text) (fault.BadNumber m)

-- a root, the hex digits of 32 bytes
abbrev pub root_of : Member → List ℕ → Result Root ReadFault
root_of m text = ok_or (option_map root (hex_bytes 32 text)) (fault.BadHex m)

-- `pubkey`, the hex digits of 48 bytes
abbrev pub key_in : Data → Result PubKey ReadFault
key_in d = do
  text ← text_in member.Pubkey d
  ok_or (option_map pub_key (hex_bytes 48 text)) (fault.BadHex member.Pubkey)

-- the signing root is optional, and null counts as absent
abbrev pub signing_root_of : Option Data → Result (Option Root) ReadFault
signing_root_of None = Ok None
signing_root_of (Some d) = if is_some (as_null d) then Ok None else do
  text ← ok_or (as_str d) (fault.Missing member.SigningRoot)
  signing ← root_of member.SigningRoot text
  Ok (Some signing)

-- `signing_root` of a block or a vote
abbrev pub signing_root_in : Data → Result (Option Root) ReadFault
signing_root_in d = signing_root_of (get (name_of member.SigningRoot) d)

-- the two lists of an element are optional, and null counts as absent
abbrev pub list_of : Member → Option Data → Result Items ReadFault
list_of m None = Ok no_items
list_of m (Some d) = if is_some (as_null d) then Ok no_items else ok_or (as_array d) (fault.Missing m)

-- `signed_blocks` or `signed_attestations` of an element of `data`
abbrev pub list_in : Member → Data → Result Items ReadFault
list_in m d = list_of m (get (name_of m) d)

-- an element of `signed_blocks` (EIP-3076, JSON schema)
abbrev pub block_in : Data → Result BlockEntry ReadFault
block_in d = do
  is_object ← object_in member.SignedBlocks d
  slot ← number_in member.Slot d
  signing ← signing_root_in d
  Ok (record { slot = slot; root = signing })

-- an element of `signed_attestations` (EIP-3076, JSON schema)
abbrev pub vote_in : Data → Result VoteEntry ReadFault
vote_in d = do
  is_object ← object_in member.SignedAttestations d
  source ← number_in member.SourceEpoch d
  target ← number_in member.TargetEpoch d
  signing ← signing_root_in d
  Ok (record { target = target; source = source; root = signing })

-- the blocks of an element of `data`
abbrev pub blocks_in : Data → Result (List BlockEntry) ReadFault
blocks_in d = do
  elements ← list_in member.SignedBlocks d
  each block_in elements

-- the votes of an element of `data`
abbrev pub votes_in : Data → Result (List VoteEntry) ReadFault
votes_in d = do
  elements ← list_in member.SignedAttestations d
  each vote_in elements

-- an element of `data` (EIP-3076, JSON schema): its key, and what it lists for the key
abbrev pub book_in : Data → Result (PubKey × Book) ReadFault
book_in d = do
  is_object ← object_in member.Data d
  key ← key_in d
  blocks ← blocks_in d
  votes ← votes_in d
  Ok (key, record { blocks = blocks; votes = votes })

-- `interchange_format_version`, the one that is read
abbrev pub version_in : Data → Result (Unit {0}) ReadFault
version_in d = do
  text ← text_in member.InterchangeFormatVersion d
  if bytes_eq text (codes "5") then Ok tt else Err (fault.Version text)

-- `genesis_validators_root`
abbrev pub genesis_in : Data → Result Root ReadFault
genesis_in d = do
  text ← text_in member.GenesisValidatorsRoot d
  root_of member.GenesisValidatorsRoot text

-- `metadata` (EIP-3076, JSON schema), whose root is wanted once its version is right
abbrev pub metadata_in : Data → Result Root ReadFault
metadata_in d = do
  metadata ← member_in member.Metadata d
  is_object ← object_in member.Metadata metadata
  is_version_5 ← version_in metadata
  genesis_in metadata

-- the books of these elements, each key once
abbrev pub united_in : Items → Result (List (PubKey × Book)) ReadFault
united_in elements = do
  books ← each book_in elements
  Ok (united books)

-- `data`, a list that has to be there
abbrev pub books_in : Data → Result (List (PubKey × Book)) ReadFault
books_in d = do
  elements ← ok_or (option_and_then as_array (get (name_of member.Data) d)) (fault.Missing member.Data)
  united_in elements

-- the whole value
abbrev pub file_in : Data → Result File ReadFault
file_in d = do
  is_object ← object_in member.File d
  genesis ← metadata_in d
  books ← books_in d
  Ok (record { genesis = genesis; books = books })

-- by whether there is a JSON value
abbrev pub of_data : Option Data → Result File ReadFault
of_data None = Err fault.Json
of_data (Some d) = file_in d

-- by whether the bytes are UTF-8
unfoldable pub of_text : List ℕ → Result File ReadFault
of_text bytes = if is_utf8 bytes then of_data (read bytes) else Err fault.NotUtf8

-- the file that the bytes are, or the first refusal
abbrev pub file_of : List ℕ → Result File ReadFault
file_of bytes = if nat_lt file_limit (length bytes) then Err (fault.TooLong (length bytes)) else of_text bytes
