-- What Web3Signer is asked: the paths and the JSON bodies of its calls (Web3Signer API, `eth2/sign`; Keymanager API,
-- `keystores`). Bodies are compact JSON, members in byte order of their names.
use Rattle.std.specs.Prelude.{ℕ, Bool, true, false, List, ◌++◌, Option, Some, None, codes, decimal}
use Rattle.edge_kit.specs.Texts.{hex_text}
use Rattle.edge_kit.specs.declared.bytes.PubKey.{PubKey}
use Rattle.edge_kit.specs.declared.bytes.Root.{Root}
use Rattle.serde_json.specs.Data.{Data, string, array, object, item, no_items, Members, member, no_members, put}
use Rattle.serde_json.specs.Written.{compact_text}
use Rattle.slash_defs.specs.declared.message.Message.{Message}
use Rattle.slash_defs.specs.declared.message.Message.TheVariants as message
use Rattle.slash_defs.specs.Signing.{signing_root_of}
use Rattle.phase0_types.specs.Writing.{write}
use Rattle.phase0_types.specs.Containers.{fork, attestation_data, beacon_block_header, voluntary_exit}
use Rattle.phase0_types.specs.Attestations.{attestation_data_value}
use Rattle.phase0_types.specs.Forks.{fork_value}
use Rattle.phase0_types.specs.Headers.{beacon_block_header_value}
use Rattle.phase0_types.specs.declared.fork.Fork.{Fork}
use Rattle.altair_blocks.specs.AnyBlocks.{block_value, version_of, write_block}
use Rattle.altair_blocks.specs.declared.any_block.AnyBlock.{AnyBlock}
use Rattle.phase0_blocks.specs.Operations.{voluntary_exit_value}
use Rattle.altair_types.specs.Containers.{sync_aggregator_selection_data, contribution_and_proof}
use Rattle.altair_types.specs.SyncCommittees.{sync_aggregator_selection_data_value, contribution_and_proof_value}
use Rattle.duty_types.specs.Containers.{aggregate_and_proof, electra_aggregate_and_proof, validator_registration}
use Rattle.duty_types.specs.Values.{aggregate_and_proof_value, electra_aggregate_and_proof_value, validator_registration_value}
use Rattle.signer_link.specs.Plain.{plain_root}
use Rattle.signer_link.specs.Versions.{block_version, version_name}
use Rattle.signer_link.specs.declared.aggregate.Aggregate.{Aggregate}
use Rattle.signer_link.specs.declared.aggregate.Aggregate.TheVariants as aggregate
use Rattle.signer_link.specs.declared.request.SignObject.{SignObject}
use Rattle.signer_link.specs.declared.request.SignObject.TheVariants as made_of
use Rattle.signer_link.specs.declared.request.SignRequest.{SignRequest}
use Rattle.signer_link.specs.declared.request.PlainObject.{PlainObject}
use Rattle.signer_link.specs.declared.request.PlainObject.TheVariants as plain
use Rattle.signer_link.specs.declared.request.PlainRequest.{PlainRequest}

-- ---- the paths

abbrev pub sign_path : PubKey → List ℕ
sign_path key = codes "/api/v1/eth2/sign/" ++ hex_text key.0

abbrev pub keystores_path : List ℕ
keystores_path = codes "/eth/v1/keystores"

-- ---- to sign

-- an object of one member
abbrev pub one_member : List ℕ → Data → Data
one_member name value = object (member name value no_members)

-- `fork_info`
abbrev pub fork_info : Fork → Root → Data
fork_info f genesis =
    object (member (codes "fork") (write fork (fork_value f))
    (member (codes "genesis_validators_root") (string (hex_text genesis.0)) no_members))

-- an object under its name, next to the name of its version: `beacon_block` of a header or a whole block, `aggregate_and_proof`
abbrev pub versioned : List ℕ → List ℕ → Data → Data
versioned name version value =
    object (member name value
    (member (codes "version") (string version) no_members))

-- a whole block next to its version
abbrev pub block_data : AnyBlock → Data
block_data block = versioned (codes "block") (version_name (block_version (version_of block))) (write_block (block_value block))

-- the type of a request for a message
abbrev pub type_of : Message → List ℕ
type_of (message.Block slot root) = codes "BLOCK_V2"
type_of (message.Vote source target root) = codes "ATTESTATION"

-- the members of each request, with those that stand after them
abbrev pub without_chain : Data → List ℕ → Members → Members
without_chain root type after =
    member (codes "signingRoot") root
    (member (codes "type") (string type) after)

-- and of each that is of a chain
abbrev pub with_root : Data → Data → List ℕ → Members → Members
with_root info root type after = member (codes "fork_info") info (without_chain root type after)

-- a root
abbrev pub root_data : List ℕ → Data
root_data root = string (hex_text root)

-- the object that a message was made of stands before them, where it is known
abbrev pub with_object : Option SignObject → Members → Members
with_object None others = others
with_object (Some (made_of.Header version header)) others = member (codes "beacon_block") (versioned (codes "block_header") (version_name version) (write beacon_block_header (beacon_block_header_value header))) others
with_object (Some (made_of.Block block)) others = member (codes "beacon_block") (block_data block) others
with_object (Some (made_of.Attestation details)) others = member (codes "attestation") (write attestation_data (attestation_data_value details)) others

-- the request for the signature of a message: of its root, under the fork and the genesis root of the chain
abbrev pub sign_data : SignRequest → Message → Data
sign_data request m = object (with_object request.object (with_root (fork_info request.fork request.genesis) (root_data (signing_root_of m).0) (type_of m) no_members))

-- what a sync committee's member says: the root of a block, and the slot
abbrev pub sync_message_data : ℕ → Root → Data
sync_message_data slot block = object (member (codes "beacon_block_root") (root_data block.0) (member (codes "slot") (string (decimal slot)) no_members))

-- an aggregate, next to the name of its version where it has one, and the type of its request
abbrev pub aggregate_data : Aggregate → Data
aggregate_data (aggregate.Unnamed given) = write aggregate_and_proof (aggregate_and_proof_value given)
aggregate_data (aggregate.UpToDeneb version given) = versioned (codes "data") (version_name version) (write aggregate_and_proof (aggregate_and_proof_value given))
aggregate_data (aggregate.FromElectra version given) = versioned (codes "data") (version_name version) (write electra_aggregate_and_proof (electra_aggregate_and_proof_value given))

abbrev pub aggregate_type : Aggregate → List ℕ
aggregate_type (aggregate.Unnamed given) = codes "AGGREGATE_AND_PROOF"
aggregate_type (aggregate.UpToDeneb version given) = codes "AGGREGATE_AND_PROOF_V2"
aggregate_type (aggregate.FromElectra version given) = codes "AGGREGATE_AND_PROOF_V2"

-- the object of another signature, its name in the request, and the request's type
abbrev pub object_data : PlainObject → Data
object_data (plain.RandaoReveal epoch) = one_member (codes "epoch") (string (decimal epoch))
object_data (plain.AggregationSlot slot) = one_member (codes "slot") (string (decimal slot))
object_data (plain.VoluntaryExit exit) = write voluntary_exit (voluntary_exit_value exit)
object_data (plain.SyncCommitteeMessage slot block) = sync_message_data slot block
object_data (plain.SyncCommitteeSelectionProof choice) = write sync_aggregator_selection_data (sync_aggregator_selection_data_value choice)
object_data (plain.SyncCommitteeContributionAndProof given) = write contribution_and_proof (contribution_and_proof_value given)
object_data (plain.Aggregate given) = aggregate_data given
object_data (plain.ValidatorRegistration given) = write validator_registration (validator_registration_value given)

abbrev pub plain_name : PlainObject → List ℕ
plain_name (plain.RandaoReveal epoch) = codes "randao_reveal"
plain_name (plain.AggregationSlot slot) = codes "aggregation_slot"
plain_name (plain.VoluntaryExit exit) = codes "voluntary_exit"
plain_name (plain.SyncCommitteeMessage slot block) = codes "sync_committee_message"
plain_name (plain.SyncCommitteeSelectionProof choice) = codes "sync_aggregator_selection_data"
plain_name (plain.SyncCommitteeContributionAndProof given) = codes "contribution_and_proof"
plain_name (plain.Aggregate given) = codes "aggregate_and_proof"
plain_name (plain.ValidatorRegistration given) = codes "validator_registration"

abbrev pub plain_type : PlainObject → List ℕ
plain_type (plain.RandaoReveal epoch) = codes "RANDAO_REVEAL"
plain_type (plain.AggregationSlot slot) = codes "AGGREGATION_SLOT"
plain_type (plain.VoluntaryExit exit) = codes "VOLUNTARY_EXIT"
plain_type (plain.SyncCommitteeMessage slot block) = codes "SYNC_COMMITTEE_MESSAGE"
plain_type (plain.SyncCommitteeSelectionProof choice) = codes "SYNC_COMMITTEE_SELECTION_PROOF"
plain_type (plain.SyncCommitteeContributionAndProof given) = codes "SYNC_COMMITTEE_CONTRIBUTION_AND_PROOF"
plain_type (plain.Aggregate given) = aggregate_type given
plain_type (plain.ValidatorRegistration given) = codes "VALIDATOR_REGISTRATION"

-- the members next to the object: a registration is of no chain
abbrev pub plain_others : PlainObject → Data → Data → Members
plain_others (plain.ValidatorRegistration given) info root = without_chain root (codes "VALIDATOR_REGISTRATION") no_members
plain_others o info root = with_root info root (plain_type o) no_members

-- they, and the object under its name
abbrev pub plain_members : PlainObject → Data → Data → Members
plain_members o info root = put (plain_name o) (object_data o) (plain_others o info root)

abbrev pub plain_data : PlainRequest → Data
plain_data request = object (plain_members request.object (fork_info request.fork request.genesis) (root_data (plain_root request)))

-- ---- to take a key in, and to give one up

-- a list of one text
abbrev pub one_text : List ℕ → Data
one_text text = array (item (string text) no_items)

abbrev pub import_data : List ℕ → List ℕ → Data
import_data keystore password = object (member (codes "keystores") (one_text keystore) (member (codes "passwords") (one_text password) no_members))

abbrev pub delete_data : PubKey → Data
delete_data key = one_member (codes "pubkeys") (one_text (hex_text key.0))

-- ---- the bodies

unfoldable pub sign_body : SignRequest → Message → List ℕ
sign_body request m = compact_text (sign_data request m)

unfoldable pub plain_body : PlainRequest → List ℕ
plain_body request = compact_text (plain_data request)

unfoldable pub import_body : List ℕ → List ℕ → List ℕ
import_body keystore password = compact_text (import_data keystore password)

unfoldable pub delete_body : PubKey → List ℕ
delete_body key = compact_text (delete_data key)
