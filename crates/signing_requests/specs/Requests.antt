-- The request for a signature that a body is, or the first check that it fails (Web3Signer API, `eth2/sign`).
use Rattle.std.specs.Prelude.{ℕ, Bool, false, not, List, [], unwrap_or, Option, Some, None, option_map, option_and_then, is_some, ok_or, Result, Ok, Err, if◌then◌else◌, codes}
use Rattle.std.specs.Str.{bytes_eq}
use Rattle.edge_kit.specs.Texts.{hex_bytes}
use Rattle.edge_kit.specs.declared.bytes.PubKey.{PubKey}
use Rattle.edge_kit.specs.declared.bytes.Root.{Root}
use Rattle.serde_json.specs.Data.{Data}
use Rattle.serde_json.specs.Find.{get, as_str, as_object}
use Rattle.json_members.specs.Reading.{json_of, text_in, number_in, bytes_in}
use Rattle.phase0_types.specs.Reading.{read_at}
use Rattle.phase0_types.specs.Containers.{fork, attestation_data, beacon_block_header, voluntary_exit}
use Rattle.phase0_types.specs.declared.fault.ReadFault.{ReadFault as ShapeFault}
use Rattle.phase0_types.specs.declared.fork.Fork.{Fork}
use Rattle.phase0_types.specs.declared.member.Member.TheVariants as shape
use Rattle.altair_blocks.specs.AnyBlocks.{read_block}
use Rattle.altair_blocks.specs.declared.version.ConsensusVersion.{ConsensusVersion}
use Rattle.altair_blocks.specs.declared.version.ConsensusVersion.TheVariants as consensus
use Rattle.altair_types.specs.Containers.{sync_aggregator_selection_data, contribution_and_proof}
use Rattle.duty_types.specs.Containers.{aggregate_and_proof, electra_aggregate_and_proof, validator_registration}
use Rattle.sign_roots.specs.declared.domains.Domains.{Domains}
use Rattle.signer_link.specs.Objects.{root}
use Rattle.signer_link.specs.Versions.{is_from_electra, version_named, version_of}
use Rattle.signer_link.specs.declared.version.BlockVersion.{BlockVersion}
use Rattle.signing_requests.specs.Members.{inside}
use Rattle.signing_requests.specs.Steps.{◌>>=◌}
use Rattle.signing_requests.specs.Objects.{ObjectValue, block_is, header_is, vote_is, reveal_is, slot_is, exit_is, sync_message_is, sync_choice_is, contribution_is, aggregate_is, versioned_aggregate_is, electra_aggregate_is, registration_is, said, fork_from, signed_root}
use Rattle.signing_requests.specs.Networks.{network_of, signing_domains}
use Rattle.signing_requests.specs.declared.chain.Chain.{Chain}
use Rattle.signing_requests.specs.declared.chain.Chain.TheVariants as chain
use Rattle.signing_requests.specs.declared.chain.Network.{Network}
use Rattle.signing_requests.specs.declared.member.SigningMember.{SigningMember}
use Rattle.signing_requests.specs.declared.member.SigningMember.TheVariants as member
use Rattle.signing_requests.specs.declared.refusal.SigningRefusal.{SigningRefusal}
use Rattle.signing_requests.specs.declared.refusal.SigningRefusal.TheVariants as refusal
use Rattle.signing_requests.specs.declared.kind.SigningType.{SigningType}
use Rattle.signing_requests.specs.declared.kind.SigningType.TheVariants as type
use Rattle.signing_requests.specs.declared.request.SigningRequest.{SigningRequest}

-- what a request asks for: a signature by this key, of this, and the chain and the fork that it is signed under
pub record RequestValue : Type 0 where
  pub key : PubKey
  pub domains : Domains
  pub said : ObjectValue

abbrev pub asking : SigningRequest → RequestValue
asking a = record { key = a.key; domains = a.domains; said = said a.object }

-- a value that is there
abbrev pub found : {A : Type 0} → SigningMember → Option A → Result A SigningRefusal
found m value = ok_or value (refusal.BadMember m)

abbrev pub pub_key : List ℕ → PubKey
pub_key bytes = record { 0 = bytes }

-- the key that the target names
abbrev pub key_at : List ℕ → Result PubKey SigningRefusal
key_at identifier = found member.Identifier (option_map pub_key (hex_bytes 48 identifier))

-- a value that is an object
abbrev pub object_in : SigningMember → Option Data → Result Data SigningRefusal
object_in m None = Err (refusal.BadMember m)
object_in m (Some d) = if is_some (as_object d) then Ok d else Err (refusal.BadMember m)

-- ---- what kind of thing is to be signed

abbrev pub type_named : List ℕ → Option SigningType
type_named name = if bytes_eq name (codes "ATTESTATION") then Some type.Attestation
    else if bytes_eq name (codes "BLOCK_V2") then Some type.BlockV2
    else if bytes_eq name (codes "RANDAO_REVEAL") then Some type.RandaoReveal
    else if bytes_eq name (codes "AGGREGATION_SLOT") then Some type.AggregationSlot
    else if bytes_eq name (codes "VOLUNTARY_EXIT") then Some type.VoluntaryExit
    else if bytes_eq name (codes "SYNC_COMMITTEE_MESSAGE") then Some type.SyncCommitteeMessage
    else if bytes_eq name (codes "SYNC_COMMITTEE_SELECTION_PROOF") then Some type.SyncCommitteeSelectionProof
    else if bytes_eq name (codes "SYNC_COMMITTEE_CONTRIBUTION_AND_PROOF") then Some type.SyncCommitteeContributionAndProof
    else if bytes_eq name (codes "AGGREGATE_AND_PROOF") then Some type.AggregateAndProof
    else if bytes_eq name (codes "AGGREGATE_AND_PROOF_V2") then Some type.AggregateAndProofV2
    else if bytes_eq name (codes "VALIDATOR_REGISTRATION") then Some type.ValidatorRegistration
    else None

abbrev pub type_at : Data → Result SigningType SigningRefusal
type_at d = found member.Type (option_and_then type_named (text_in (codes "type") d))

-- ---- the chain and the fork

-- what a container is read as, or what of it cannot be read
abbrev pub shaped : {A B : Type 0} → SigningMember → (A → B) → Result A ShapeFault → Result B SigningRefusal
shaped whole value (Ok v) = Ok (value v)
shaped whole value (Err f) = Err (refusal.BadMember (inside whole f))

abbrev pub fork_at : Data → Result Fork SigningRefusal
fork_at info = found member.Fork (get (codes "fork") info) >>= (λ d. shaped member.Fork fork_from (read_at fork None d))

abbrev pub genesis_at : Data → Result Root SigningRefusal
genesis_at info = found member.GenesisValidatorsRoot (option_map root (bytes_in 32 (codes "genesis_validators_root") info))

abbrev pub domains_at : Data → Result Domains SigningRefusal
domains_at info = do
  f ← fork_at info
  genesis ← genesis_at info
  Ok (record { fork = f; genesis = genesis })

abbrev pub chain_at : Data → Result Domains SigningRefusal
chain_at d = object_in member.ForkInfo (get (codes "fork_info") d) >>= domains_at

-- a registration names no chain: it is signed under the version at genesis of the chain that is served, which must be known
abbrev pub at_genesis : Option Network → Result Chain SigningRefusal
at_genesis None = Err refusal.UnknownNetwork
at_genesis (Some n) = Ok (chain.AtGenesis n.genesis_fork_version)

abbrev pub chain_for : SigningType → Root → Data → Result Chain SigningRefusal
chain_for type.ValidatorRegistration genesis d = at_genesis (network_of genesis)
chain_for t genesis d = chain_at d >>= (λ domains. Ok (chain.Named domains))

-- ---- what is to be signed

abbrev pub vote_at : Data → Result ObjectValue SigningRefusal
vote_at d = found member.Attestation (get (codes "attestation") d) >>= (λ a. shaped member.Attestation vote_is (read_at attestation_data None a))

-- the version that a name next to a whole block means, if whole blocks of it are taken
abbrev pub whole_version : List ℕ → Option ConsensusVersion
whole_version name = if bytes_eq name (codes "PHASE0") then Some consensus.Phase0
    else if bytes_eq name (codes "ALTAIR") then Some consensus.Altair
    else None

-- the block, as the container of that version
abbrev pub block_of : ConsensusVersion → Data → Result ObjectValue SigningRefusal
block_of version w = shaped member.Block block_is (read_block version w)

-- a whole block, whose version is that of its container
abbrev pub whole_block : Data → Result ObjectValue SigningRefusal
whole_block b = do
  version ← found member.Version (option_and_then whole_version (text_in (codes "version") b))
  found member.Block (get (codes "block") b) >>= block_of version

-- the version that a block names next to its header; the newest where there is none
abbrev pub version_in : Data → BlockVersion
version_in b = version_of (unwrap_or (text_in (codes "version") b) [])

-- where the header is there a whole block is not looked at, nor is any version refused: a header has the same root in each fork
abbrev pub block_by : Data → Option Data → Result ObjectValue SigningRefusal
block_by b None = whole_block b
block_by b (Some h) = shaped member.BlockHeader (header_is (version_in b)) (read_at beacon_block_header None h)

abbrev pub block_in : Data → Result ObjectValue SigningRefusal
block_in b = block_by b (get (codes "block_header") b)

abbrev pub block_at : Data → Result ObjectValue SigningRefusal
block_at d = object_in member.BeaconBlock (get (codes "beacon_block") d) >>= block_in

abbrev pub reveal_in : Data → Result ObjectValue SigningRefusal
reveal_in r = found (member.Inside shape.Epoch) (option_map reveal_is (number_in (codes "epoch") r))

abbrev pub reveal_at : Data → Result ObjectValue SigningRefusal
reveal_at d = object_in member.RandaoReveal (get (codes "randao_reveal") d) >>= reveal_in

abbrev pub slot_in : Data → Result ObjectValue SigningRefusal
slot_in s = found (member.Inside shape.Slot) (option_map slot_is (number_in (codes "slot") s))

abbrev pub slot_at : Data → Result ObjectValue SigningRefusal
slot_at d = object_in member.AggregationSlot (get (codes "aggregation_slot") d) >>= slot_in

abbrev pub exit_at : Data → Result ObjectValue SigningRefusal
exit_at d = found member.VoluntaryExit (get (codes "voluntary_exit") d) >>= (λ e. shaped member.VoluntaryExit exit_is (read_at voluntary_exit None e))

abbrev pub sync_message_in : Data → Result ObjectValue SigningRefusal
sync_message_in m = do
  block ← found (member.Inside shape.BeaconBlockRoot) (option_map root (bytes_in 32 (codes "beacon_block_root") m))
  found (member.Inside shape.Slot) (option_map (sync_message_is block) (number_in (codes "slot") m))

abbrev pub sync_message_at : Data → Result ObjectValue SigningRefusal
sync_message_at d = object_in member.SyncCommitteeMessage (get (codes "sync_committee_message") d) >>= sync_message_in

abbrev pub sync_choice_at : Data → Result ObjectValue SigningRefusal
sync_choice_at d = found member.SyncAggregatorSelectionData (get (codes "sync_aggregator_selection_data") d)
    >>= (λ c. shaped member.SyncAggregatorSelectionData sync_choice_is (read_at sync_aggregator_selection_data None c))

abbrev pub contribution_at : Data → Result ObjectValue SigningRefusal
contribution_at d = found member.ContributionAndProof (get (codes "contribution_and_proof") d)
    >>= (λ c. shaped member.ContributionAndProof contribution_is (read_at contribution_and_proof None c))

abbrev pub aggregate_at : Data → Result ObjectValue SigningRefusal
aggregate_at d = found member.AggregateAndProof (get (codes "aggregate_and_proof") d)
    >>= (λ a. shaped member.AggregateAndProof aggregate_is (read_at aggregate_and_proof None a))

-- an aggregate of the fork that is named, whose container is Electra's or that of the forks before it
abbrev pub aggregate_of : BlockVersion → Data → Result ObjectValue SigningRefusal
aggregate_of version a =
    if is_from_electra version then shaped (member.Inside shape.Details) (electra_aggregate_is version) (read_at electra_aggregate_and_proof None a)
    else shaped (member.Inside shape.Details) (versioned_aggregate_is version) (read_at aggregate_and_proof None a)

abbrev pub versioned_aggregate_in : Data → Result ObjectValue SigningRefusal
versioned_aggregate_in a = do
  version ← found member.Version (option_and_then version_named (text_in (codes "version") a))
  found (member.Inside shape.Details) (get (codes "data") a) >>= aggregate_of version

abbrev pub versioned_aggregate_at : Data → Result ObjectValue SigningRefusal
versioned_aggregate_at d = object_in member.AggregateAndProof (get (codes "aggregate_and_proof") d) >>= versioned_aggregate_in

abbrev pub registration_at : Data → Result ObjectValue SigningRefusal
registration_at d = found member.ValidatorRegistration (get (codes "validator_registration") d)
    >>= (λ r. shaped member.ValidatorRegistration registration_is (read_at validator_registration None r))

abbrev pub said_by : SigningType → Data → Result ObjectValue SigningRefusal
said_by type.Attestation d = vote_at d
said_by type.BlockV2 d = block_at d
said_by type.RandaoReveal d = reveal_at d
said_by type.AggregationSlot d = slot_at d
said_by type.VoluntaryExit d = exit_at d
said_by type.SyncCommitteeMessage d = sync_message_at d
said_by type.SyncCommitteeSelectionProof d = sync_choice_at d
said_by type.SyncCommitteeContributionAndProof d = contribution_at d
said_by type.AggregateAndProof d = aggregate_at d
said_by type.AggregateAndProofV2 d = versioned_aggregate_at d
said_by type.ValidatorRegistration d = registration_at d

-- ---- the root that the request names

abbrev pub root_in : SigningMember → Data → Result (Option Root) SigningRefusal
root_in m d = found m (option_map (λ bytes. Some (root bytes)) (option_and_then (hex_bytes 32) (as_str d)))

-- `signing_root` is looked at where there is no `signingRoot`
abbrev pub named_root : Option Data → Option Data → Result (Option Root) SigningRefusal
named_root (Some d) other = root_in member.SigningRoot d
named_root None (Some d) = root_in member.SigningRootInSnakeCase d
named_root None None = Ok None

abbrev pub root_at : Data → Result (Option Root) SigningRefusal
root_at d = named_root (get (codes "signingRoot") d) (get (codes "signing_root") d)

-- ---- the whole

-- a root is named, and is another than this one
abbrev pub is_another : Option Root → List ℕ → Bool
is_another None bytes = false
is_another (Some named) bytes = not (bytes_eq named.0 bytes)

-- what is signed is of the root that the request names, if it names one
abbrev pub rooted : RequestValue → Option Root → Result RequestValue SigningRefusal
rooted a named = if is_another named (signed_root a.domains a.said) then Err refusal.SigningRootDiffers else Ok a

-- the request names a chain with another root of its genesis validators
abbrev pub is_of_another : Root → Chain → Bool
is_of_another genesis (chain.Named domains) = is_another (Some domains.genesis) genesis.0
is_of_another genesis (chain.AtGenesis version) = false

-- what is signed is of this chain, and of the root that the request names
abbrev pub checked : Root → PubKey → Chain → ObjectValue → Option Root → Result RequestValue SigningRefusal
checked genesis key c s named =
    if is_of_another genesis c then Err refusal.GenesisDiffers
    else rooted (record { key = key; domains = signing_domains c s; said = s }) named

abbrev pub members_of : Root → PubKey → Data → Result RequestValue SigningRefusal
members_of genesis key d = do
  t ← type_at d
  c ← chain_for t genesis d
  s ← said_by t d
  named ← root_at d
  checked genesis key c s named

-- what a target's identifier and a body ask for of the chain with this root of its genesis validators
unfoldable pub asked_of : List ℕ → Root → List ℕ → Result RequestValue SigningRefusal
asked_of identifier genesis body = do
  key ← key_at identifier
  d ← object_in member.Body (json_of body)
  members_of genesis key d
