-- The readings of an interchange file, each over what was found of a member: its data, if it is there.
use Rattle.std.specs.Prelude.{ℕ, List, Option, Result, Ok, Err, option_map, option_and_then, ok_or, codes, if◌then◌else◌}
use Rattle.std.specs.Str.{bytes_eq}
use Rattle.serde_json.specs.Data.{Data}
use Rattle.serde_json.specs.Find.{as_str, as_array}
use Rattle.edge_kit.specs.Texts.{quoted_number, hex_bytes}
use Rattle.edge_kit.specs.declared.bytes.PubKey.{PubKey}
use Rattle.edge_kit.specs.declared.bytes.Root.{Root}
use Rattle.slash_defs.specs.declared.entry.BlockEntry.{BlockEntry}
use Rattle.slash_defs.specs.declared.entry.VoteEntry.{VoteEntry}
use Rattle.slash_defs.specs.declared.book.Book.{Book}
use Rattle.slash_defs.specs.declared.book.File.{File}
use Rattle.interchange_io.specs.declared.member.Member.{Member}
use Rattle.interchange_io.specs.declared.member.Member.TheVariants as member
use Rattle.interchange_io.specs.declared.fault.ReadFault.{ReadFault}
use Rattle.interchange_io.specs.declared.fault.ReadFault.TheVariants as fault
use Rattle.interchange_io.specs.Steps.{◌>>=◌, each}
use Rattle.interchange_io.specs.Reading.{pub_key, root_of, list_of, block_in, vote_in, object_in, version_in, genesis_in, united_in}

abbrev pub text_at : Member → Option Data → Result (List ℕ) ReadFault
text_at m o = ok_or (option_and_then as_str o) (fault.Missing m)

abbrev pub number_at : Member → Option Data → Result ℕ ReadFault
number_at m o = do
  text ← text_at m o
  ok_or (quoted_number text) (fault.BadNumber m)

abbrev pub root_at : Member → Option Data → Result Root ReadFault
root_at m o = do
  text ← text_at m o
  root_of m text

abbrev pub key_at : Option Data → Result PubKey ReadFault
key_at o = do
  text ← text_at member.Pubkey o
  ok_or (option_map pub_key (hex_bytes 48 text)) (fault.BadHex member.Pubkey)

abbrev pub version_at : Option Data → Result (Unit {0}) ReadFault
version_at o = do
  text ← text_at member.InterchangeFormatVersion o
  if bytes_eq text (codes "5") then Ok tt else Err (fault.Version text)

abbrev pub blocks_at : Option Data → Result (List BlockEntry) ReadFault
blocks_at o = do
  elements ← list_of member.SignedBlocks o
  each block_in elements

abbrev pub votes_at : Option Data → Result (List VoteEntry) ReadFault
votes_at o = do
  elements ← list_of member.SignedAttestations o
  each vote_in elements

abbrev pub block_from : Result ℕ ReadFault → Result (Option Root) ReadFault → Result BlockEntry ReadFault
block_from slot signing = do
  slot ← slot
  signing ← signing
  Ok (record { slot = slot; root = signing })

abbrev pub vote_from : Result ℕ ReadFault → Result ℕ ReadFault → Result (Option Root) ReadFault → Result VoteEntry ReadFault
vote_from source target signing = do
  source ← source
  target ← target
  signing ← signing
  Ok (record { target = target; source = source; root = signing })

abbrev pub book_from : Result PubKey ReadFault → Result (List BlockEntry) ReadFault → Result (List VoteEntry) ReadFault → Result (PubKey × Book) ReadFault
book_from key blocks votes = do
  key ← key
  blocks ← blocks
  votes ← votes
  Ok (key, record { blocks = blocks; votes = votes })

abbrev pub metadata_from : Result (Unit {0}) ReadFault → Result Root ReadFault → Result Root ReadFault
metadata_from version genesis = do
  is_version_5 ← version
  genesis

abbrev pub metadata_at : Option Data → Result Root ReadFault
metadata_at o = do
  metadata ← ok_or o (fault.Missing member.Metadata)
  is_object ← object_in member.Metadata metadata
  is_version_5 ← version_in metadata
  genesis_in metadata

abbrev pub books_at : Option Data → Result (List (PubKey × Book)) ReadFault
books_at o = do
  elements ← ok_or (option_and_then as_array o) (fault.Missing member.Data)
  united_in elements

abbrev pub file_from : Result Root ReadFault → Result (List (PubKey × Book)) ReadFault → Result File ReadFault
file_from metadata books = do
  genesis ← metadata
  books ← books
  Ok (record { genesis = genesis; books = books })
