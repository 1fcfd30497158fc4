-- What a response of a beacon node means (Beacon API). Members that are not named here are not looked at.
use Rattle.std.specs.Prelude.{ℕ, ◌&&◌, Bool, List, [], ◌∷◌, Option, Some, None, option_map, if◌then◌else◌, Result, Ok, Err, codes, nat_le}
use Rattle.std.specs.Result.{result_ok}
use Rattle.edge_kit.specs.declared.bytes.PubKey.{PubKey}
use Rattle.edge_kit.specs.declared.bytes.Root.{Root}
use Rattle.serde_json.specs.Data.{Data, Items, item, no_items}
use Rattle.serde_json.specs.Events.{items_len}
use Rattle.serde_json.specs.Find.{get}
use Rattle.json_members.specs.Reading.{json_of, text_in, number_in, bytes_in, flag_in, items_in}
use Rattle.phase0_types.specs.Shapes.{Shape}
use Rattle.phase0_types.specs.Values.{ValueOf}
use Rattle.phase0_types.specs.Reading.{read_at}
use Rattle.phase0_types.specs.Containers.{attestation, attestation_data, checkpoint, fork}
use Rattle.altair_blocks.specs.AnyBlocks.{read_block}
use Rattle.altair_blocks.specs.Versions.{version_named}
use Rattle.http_wire.specs.declared.message.Response.{Response}
use Rattle.http_wire.specs.declared.message.WireFault.{WireFault}
use Rattle.http_wire.specs.declared.message.WireFault.TheVariants as wire
use Rattle.node_calls.specs.declared.ask.Ask.{Ask}
use Rattle.node_calls.specs.declared.ask.Ask.TheVariants as ask
use Rattle.node_calls.specs.declared.answer.NodeFault.{NodeFault}
use Rattle.node_calls.specs.declared.answer.NodeFault.TheVariants as fault
use Rattle.node_calls.specs.declared.answer.ValidatorRow.{ValidatorRow}
use Rattle.node_calls.specs.declared.answer.ProposerRow.{ProposerRow}
use Rattle.node_calls.specs.declared.answer.AttesterRow.{AttesterRow}
use Rattle.node_calls.specs.declared.answer.LivenessRow.{LivenessRow}
use Rattle.node_calls.specs.Fitting.{are_proposer_rows, are_attester_rows, most_rows}
use Rattle.beacon_node.specs.Said.{Said, genesis_is, fork_is, syncing_is, validators_are, proposers_are, attesters_are, data_is, block_is, aggregate_is, liveness_is}

-- the next reading, where this one gave a value
infixl 10 ◌>>=◌
abbrev pub ◌>>=◌ : {A B : Type 0} → Option A → (A → Option B) → Option B
(Some x) >>= f = f x
None >>= f = None

-- ---- members

abbrev pub key_in : Data → Option PubKey
key_in d = option_map (λ bytes. record { 0 = bytes }) (bytes_in 48 (codes "pubkey") d)

abbrev pub root_in : List ℕ → Data → Option Root
root_in name d = option_map (λ bytes. record { 0 = bytes }) (bytes_in 32 name d)

-- the value that the member `data` writes
abbrev pub data_value : (shape : Shape) → Data → Option (ValueOf shape)
data_value shape d = get (codes "data") d >>= (λ inner. result_ok (read_at shape None inner))

-- ---- rows

abbrev pub validator_row : Data → Option ValidatorRow
validator_row d = do
  index ← number_in (codes "index") d
  validator ← get (codes "validator") d
  key ← key_in validator
  Some (record { index = index; pubkey = key })

abbrev pub proposer_row : Data → Option ProposerRow
proposer_row d = do
  key ← key_in d
  index ← number_in (codes "validator_index") d
  slot ← number_in (codes "slot") d
  Some (record { pubkey = key; validator_index = index; slot = slot })

abbrev pub attester_row : Data → Option AttesterRow
attester_row d = do
  key ← key_in d
  index ← number_in (codes "validator_index") d
  committee ← number_in (codes "committee_index") d
  members ← number_in (codes "committee_length") d
  committees ← number_in (codes "committees_at_slot") d
  place ← number_in (codes "validator_committee_index") d
  slot ← number_in (codes "slot") d
  Some (record { pubkey = key; validator_index = index; committee_index = committee; committee_length = members; committees_at_slot = committees; validator_committee_index = place; slot = slot })

abbrev pub liveness_row : Data → Option LivenessRow
liveness_row d = do
  index ← number_in (codes "index") d
  live ← flag_in (codes "is_live") d
  Some (record { index = index; is_live = live })

-- each element by the same reading, where all have one
abbrev pub each_row : {Row : Type 0} → (Data → Option Row) → Items → Option (List Row)
each_row reading no_items = Some []
each_row reading (item d ds) = do
  row ← reading d
  rows ← each_row reading ds
  Some (row ∷ rows)

-- those of the list `data`
abbrev pub rows_in : {Row : Type 0} → (Data → Option Row) → Data → Option (List Row)
rows_in reading d = items_in (codes "data") d >>= each_row reading

-- those of an answer about duties: a list of more elements than it may have rows is not read
abbrev pub duty_rows_in : {Row : Type 0} → (Data → Option Row) → Data → Option (List Row)
duty_rows_in reading d = items_in (codes "data") d >>= (λ ds. if nat_le (items_len ds) most_rows then each_row reading ds else None)

-- ---- answers

abbrev pub genesis_in : Data → Option Said
genesis_in d = do
  inner ← get (codes "data") d
  time ← number_in (codes "genesis_time") inner
  root ← root_in (codes "genesis_validators_root") inner
  Some (genesis_is time root)

abbrev pub syncing_in : Data → Option Said
syncing_in d = do
  inner ← get (codes "data") d
  syncing ← flag_in (codes "is_syncing") inner
  Some (syncing_is syncing)

-- duties, where they are within the bounds of the epoch
abbrev pub proposers_in : ℕ → Data → Option Said
proposers_in epoch d = do
  root ← root_in (codes "dependent_root") d
  rows ← duty_rows_in proposer_row d
  if are_proposer_rows epoch rows then Some (proposers_are root rows) else None

abbrev pub attesters_in : ℕ → Data → Option Said
attesters_in epoch d = do
  root ← root_in (codes "dependent_root") d
  rows ← duty_rows_in attester_row d
  if are_attester_rows epoch rows then Some (attesters_are root rows) else None

-- the source of a vote is no later than its target
unfoldable pub is_ordered : ValueOf attestation_data → Bool
unfolding attestation_data checkpoint
is_ordered (slot, (index, (block, ((source, source_root), ((target, target_root), end))))) = nat_le source target

-- what a committee is to vote
abbrev pub details_in : Data → Option Said
details_in d = do
  details ← data_value attestation_data d
  if is_ordered details then Some (data_is details) else None

-- a block of the version that the answer names
abbrev pub block_in : Data → Option Said
block_in d = do
  name ← text_in (codes "version") d
  version ← version_named name
  inner ← get (codes "data") d
  block ← result_ok (read_block version inner)
  Some (block_is block)

-- the answer that JSON gives to a question
abbrev pub answer_in : Ask → Data → Option Said
answer_in ask.Genesis d = genesis_in d
answer_in ask.Fork d = option_map fork_is (data_value fork d)
answer_in ask.Syncing d = syncing_in d
answer_in (ask.Validators keys) d = option_map validators_are (rows_in validator_row d)
answer_in (ask.Proposer epoch) d = proposers_in epoch d
answer_in (ask.Attester epoch indices) d = attesters_in epoch d
answer_in (ask.Data slot committee) d = details_in d
answer_in (ask.Block slot reveal) d = block_in d
answer_in (ask.Aggregate root slot) d = option_map aggregate_is (data_value attestation d)
answer_in (ask.Liveness epoch indices) d = option_map liveness_is (rows_in liveness_row d)

-- and that a body gives
abbrev pub answer_of : Ask → List ℕ → Option Said
answer_of question body = json_of body >>= answer_in question

-- ---- responses

-- a status of success (RFC 9110, section 15.3)
abbrev pub is_success : ℕ → Bool
is_success status = nat_le 200 status && nat_le status 299

abbrev pub or_unreadable : List ℕ → Option Said → Result Said NodeFault
or_unreadable body None = Err (fault.Unreadable body)
or_unreadable body (Some s) = Ok s

-- why there is no response: a peer that does not speak HTTP within the limits cannot be read
abbrev pub fault_reading : WireFault → NodeFault
fault_reading wire.BadHead = fault.Unreadable []
fault_reading wire.BadBody = fault.Unreadable []
fault_reading (wire.TooLong limit) = fault.Unreadable []
fault_reading (wire.Encoded value) = fault.Unreadable []
fault_reading wire.Link = fault.Fault
fault_reading wire.OutOfMemory = fault.OutOfMemory

-- of a question, by its response or why there is none
abbrev pub ask_reading : Ask → Result Response WireFault → Result Said NodeFault
ask_reading question (Ok response) =
    if is_success response.status then or_unreadable response.body.items (answer_of question response.body.items)
    else Err (fault.Status response.status)
ask_reading question (Err none) = Err (fault_reading none)

-- of a post: its body is not looked at
abbrev pub post_reading : Result Response WireFault → Result (Unit {0}) NodeFault
post_reading (Ok response) = if is_success response.status then Ok tt else Err (fault.Status response.status)
post_reading (Err none) = Err (fault_reading none)
