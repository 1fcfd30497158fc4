-- The request that a line is, for the session's chain.
use Rattle.std.specs.Prelude.{ℕ, Bool, List, nat_le, if◌then◌else◌, Option, Some, None, option_map, option_and_then, is_some, ok_or, Result, Ok, Err, codes}
use Rattle.std.specs.Str.{is_utf8, bytes_eq}
use Rattle.edge_kit.specs.Texts.{quoted_number, hex_bytes}
use Rattle.edge_kit.specs.declared.bytes.PubKey.{PubKey}
use Rattle.edge_kit.specs.declared.bytes.Root.{Root}
use Rattle.serde_json.specs.Data.{Data}
use Rattle.serde_json.specs.Read.{read}
use Rattle.serde_json.specs.Find.{get, as_bool, as_str, as_object}
use Rattle.slash_defs.specs.declared.book.File.{File}
use Rattle.slash_defs.specs.declared.message.Message.TheVariants as message
use Rattle.interchange_io.specs.Reading.{file_of}
use Rattle.interchange_io.specs.declared.fault.ReadFault.{ReadFault}
use Rattle.phase0_types.specs.Values.{ValueOf}
use Rattle.phase0_types.specs.Reading.{read_at}
use Rattle.phase0_types.specs.Containers.{attestation_data, beacon_block_header}
use Rattle.phase0_types.specs.declared.fault.ReadFault.{ReadFault as ShapeFault}
use Rattle.altair_blocks.specs.AnyBlocks.{read_block}
use Rattle.altair_blocks.specs.Versions.{version_named}
use Rattle.altair_blocks.specs.declared.version.ConsensusVersion.{ConsensusVersion}
use Rattle.sign_roots.specs.declared.domains.Domains.{Domains}
use Rattle.signer_link.specs.declared.request.SignObject.TheVariants as object
use Rattle.signer_link.specs.declared.version.BlockVersion.TheVariants as version
use Rattle.desk_machine.specs.Machine.{moment_limit}
use Rattle.custody_format.specs.Lists.{keys_of}
use Rattle.custody_format.specs.Imports.{import_in}
use Rattle.custody_format.specs.declared.import.Import.{Import}
use Rattle.custody_format.specs.declared.import.ImportFault.{ImportFault}
use Rattle.custody_format.specs.declared.import.ImportFault.TheVariants as fault
use Rattle.session_format.specs.Members.{inside}
use Rattle.session_format.specs.Steps.{◌>>=◌}
use Rattle.session_format.specs.WholeBlocks.{read_whole}
use Rattle.signer_link.specs.Objects.{root, header_from, details_from, block_message, vote_message}
use Rattle.session_format.specs.declared.chain.SessionChain.{SessionChain}
use Rattle.session_format.specs.declared.member.Member.{Member}
use Rattle.session_format.specs.declared.member.Member.TheVariants as member
use Rattle.session_format.specs.declared.request.Op.{Op}
use Rattle.session_format.specs.declared.request.Op.TheVariants as op
use Rattle.session_format.specs.declared.request.Request.{Request}

-- the JSON value of a line of UTF-8
unfoldable pub data_of : List ℕ → Option Data
data_of line = if is_utf8 line then read line else None

abbrev pub text_at : List ℕ → Data → Option (List ℕ)
text_at name d = option_and_then as_str (get name d)

abbrev pub pub_key : List ℕ → PubKey
pub_key bytes = record { 0 = bytes }

-- the key that a line names
abbrev pub key_at : Data → Result PubKey Member
key_at d = ok_or (option_map pub_key (option_and_then (hex_bytes 48) (text_at (codes "pubkey") d))) member.Pubkey

-- the number in quotes that a member is
abbrev pub number_at : List ℕ → Member → Data → Result ℕ Member
number_at name m d = ok_or (option_and_then quoted_number (text_at name d)) m

-- whether a member is true or false
abbrev pub truth_at : List ℕ → Member → Data → Result Bool Member
truth_at name m d = ok_or (option_and_then as_bool (get name d)) m

abbrev pub root_at : Data → Result Root Member
root_at d = ok_or (option_map root (option_and_then (hex_bytes 32) (text_at (codes "signing_root") d))) member.SigningRoot

-- a moment within the limit
abbrev pub moment_in : Option ℕ → Result (Option ℕ) Member
moment_in None = Err member.Epoch
moment_in (Some epoch) = if nat_le epoch moment_limit then Ok (Some epoch) else Err member.Epoch

abbrev pub epoch_in : Option Data → Result (Option ℕ) Member
epoch_in None = Ok None
epoch_in (Some d) = moment_in (option_and_then quoted_number (as_str d))

-- the moment, where the member is there
abbrev pub epoch_at : Data → Result (Option ℕ) Member
epoch_at d = epoch_in (get (codes "epoch") d)

-- ---- what each op asks for

-- to merge a file, or a text that is none
abbrev pub merge_of : Result File ReadFault → Op
merge_of (Ok file) = op.Merge file
merge_of (Err fault) = op.BadFile fault

abbrev pub merge_in : Option (List ℕ) → Result Op Member
merge_in None = Err member.File
merge_in (Some text) = Ok (merge_of (file_of text))

abbrev pub merge_at : Data → Result Op Member
merge_at d = merge_in (text_at (codes "file") d)

abbrev pub activate_at : Data → Result Op Member
activate_at d = do
  key ← key_at d
  Ok (op.Activate key)

-- a block of its slot and signing root
abbrev pub plain_block : PubKey → Data → Result Op Member
plain_block key d = do
  slot ← number_at (codes "slot") member.Slot d
  signing ← root_at d
  Ok (op.Propose key (message.Block slot signing) None)

-- a block of its header
abbrev pub header_block : Domains → PubKey → Result (ValueOf beacon_block_header) ShapeFault → Result Op Member
header_block domains key (Ok value) = Ok (op.Propose key (block_message domains (header_from value)) (Some (object.Header version.Phase0 (header_from value))))
header_block domains key (Err fault) = Err (inside member.Header fault)

-- the version that a whole block is said to be of
abbrev pub version_in : Data → Result ConsensusVersion Member
version_in d = ok_or (option_and_then version_named (text_at (codes "version") d)) member.Version

-- a whole block of the version that goes with it
abbrev pub versioned_block : SessionChain → PubKey → Data → Result Op Member
versioned_block chain key d = do
  version ← version_in d
  block ← ok_or (get (codes "block") d) member.Block
  read_whole chain key (read_block version block)

abbrev pub whole_block : SessionChain → PubKey → Data → Result Op Member
whole_block chain key d = if is_some (as_object d) then versioned_block chain key d else Err member.BeaconBlock

-- where the whole block is there, the plain members are ignored
abbrev pub headless_block : SessionChain → PubKey → Data → Option Data → Result Op Member
headless_block chain key d None = plain_block key d
headless_block chain key d (Some block) = whole_block chain key block

-- where the header is there, the whole block and the plain members are ignored
abbrev pub block_by : SessionChain → PubKey → Data → Option Data → Result Op Member
block_by chain key d None = headless_block chain key d (get (codes "beacon_block") d)
block_by chain key d (Some header) = header_block chain.domains key (read_at beacon_block_header None header)

abbrev pub block_at : SessionChain → Data → Result Op Member
block_at chain d = do
  key ← key_at d
  block_by chain key d (get (codes "header") d)

-- a vote of its epochs and signing root
abbrev pub plain_vote : PubKey → Data → Result Op Member
plain_vote key d = do
  source ← number_at (codes "source_epoch") member.SourceEpoch d
  target ← number_at (codes "target_epoch") member.TargetEpoch d
  signing ← root_at d
  Ok (op.Propose key (message.Vote source target signing) None)

-- a vote of its attestation data
abbrev pub details_vote : Domains → PubKey → Result (ValueOf attestation_data) ShapeFault → Result Op Member
details_vote domains key (Ok value) = Ok (op.Propose key (vote_message domains (details_from value)) (Some (object.Attestation (details_from value))))
details_vote domains key (Err fault) = Err (inside member.Attestation fault)

-- where the attestation data is there, the plain members are ignored
abbrev pub vote_by : SessionChain → PubKey → Data → Option Data → Result Op Member
vote_by chain key d None = plain_vote key d
vote_by chain key d (Some details) = details_vote chain.domains key (read_at attestation_data None details)

abbrev pub vote_at : SessionChain → Data → Result Op Member
vote_at chain d = do
  key ← key_at d
  vote_by chain key d (get (codes "attestation") d)

-- the keys of a list
abbrev pub keys_in : Option Data → Result (List PubKey) Member
keys_in d = ok_or (option_and_then keys_of d) member.Pubkeys

-- the keys, where the member is there
abbrev pub asked_keys : Option Data → Result (Option (List PubKey)) Member
asked_keys None = Ok None
asked_keys (Some d) = do
  keys ← keys_in (Some d)
  Ok (Some keys)

abbrev pub export_at : Data → Result Op Member
export_at d = do
  keys ← asked_keys (get (codes "pubkeys") d)
  Ok (op.Export keys)

abbrev pub prune_at : Data → Result Op Member
prune_at d = do
  key ← key_at d
  Ok (op.Prune key)

-- whether a key was live in an epoch, which may be any number of 64 bits
abbrev pub live_at : Data → Result Op Member
live_at d = do
  key ← key_at d
  epoch ← number_at (codes "of") member.Of d
  live ← truth_at (codes "is_live") member.IsLive d
  Ok (op.Live key epoch live)

-- to take keys in, or a text that is no file
abbrev pub import_of : Result Import ImportFault → Result Op Member
import_of (Ok given) = Ok (op.Import given.file given.keystores)
import_of (Err fault.Keystores) = Err member.Keystores
import_of (Err fault.Passwords) = Err member.Passwords
import_of (Err fault.SlashingProtection) = Err member.SlashingProtection
import_of (Err (fault.File f)) = Ok (op.BadFile f)

abbrev pub import_at : Data → Result Op Member
import_at d = import_of (import_in d)

abbrev pub delete_at : Data → Result Op Member
delete_at d = do
  keys ← keys_in (get (codes "pubkeys") d)
  Ok (op.Delete keys)

-- by the text of the member `op`
abbrev pub by_op : SessionChain → Option (List ℕ) → Data → Result Op Member
by_op chain None d = Err member.Op
by_op chain (Some name) d = if bytes_eq name (codes "merge") then merge_at d
    else if bytes_eq name (codes "activate") then activate_at d
    else if bytes_eq name (codes "import") then import_at d
    else if bytes_eq name (codes "delete") then delete_at d
    else if bytes_eq name (codes "list") then Ok op.List
    else if bytes_eq name (codes "block") then block_at chain d
    else if bytes_eq name (codes "vote") then vote_at chain d
    else if bytes_eq name (codes "export") then export_at d
    else if bytes_eq name (codes "prune") then prune_at d
    else if bytes_eq name (codes "live") then live_at d
    else if bytes_eq name (codes "compact") then Ok op.Compact
    else Err member.Op

abbrev pub op_in : SessionChain → Data → Result Op Member
op_in chain d = by_op chain (text_at (codes "op") d) d

-- what is asked for, and then the moment
abbrev pub members_of : SessionChain → Data → Result Request Member
members_of chain d = do
  asked ← op_in chain d
  epoch ← epoch_at d
  Ok (record { op = asked; epoch = epoch })

abbrev pub request_in : SessionChain → Data → Result Request Member
request_in chain d = if is_some (as_object d) then members_of chain d else Err member.Line

abbrev pub of_data : SessionChain → Option Data → Result Request Member
of_data chain None = Err member.Line
of_data chain (Some d) = request_in chain d

-- the request, or the first member that is absent or has no reading
unfoldable pub request_of : SessionChain → List ℕ → Result Request Member
request_of chain line = of_data chain (data_of line)
