-- What a beacon node is asked and given over HTTP (Beacon API): the method, the path with its query, and the body of
-- each call. Bodies are compact JSON, members in byte order of their names; a question by GET has none.
use Rattle.std.specs.Prelude.{ℕ, List, [], ◌∷◌, ◌++◌, codes, decimal, replicate, map}
use Rattle.edge_kit.specs.Texts.{hex_text}
use Rattle.edge_kit.specs.declared.bytes.PubKey.{PubKey}
use Rattle.edge_kit.specs.declared.bytes.Root.{Root}
use Rattle.edge_kit.specs.declared.bytes.Sig.{Sig}
use Rattle.serde_json.specs.Data.{Data, string, array, Items, item, no_items}
use Rattle.serde_json.specs.View.{items_of}
use Rattle.serde_json.specs.Written.{compact_text}
use Rattle.phase0_types.specs.Writing.{write}
use Rattle.phase0_types.specs.Containers.{attestation, signed}
use Rattle.phase0_blocks.specs.Signed.{signed_value}
use Rattle.phase0_blocks.specs.Votes.{attestation_value}
use Rattle.altair_blocks.specs.AnyBlocks.{block_value, write_signed}
use Rattle.duty_types.specs.Containers.{aggregate_and_proof}
use Rattle.duty_types.specs.Values.{aggregate_and_proof_value}
use Rattle.node_calls.specs.declared.ask.Ask.{Ask}
use Rattle.node_calls.specs.declared.ask.Ask.TheVariants as ask
use Rattle.node_calls.specs.declared.post.Post.{Post}
use Rattle.node_calls.specs.declared.post.Post.TheVariants as post

-- `id` once for each key, behind this mark and then `&`
abbrev pub key_query : List ℕ → List PubKey → List ℕ
key_query mark [] = []
key_query mark (key ∷ keys) = mark ++ codes "id=" ++ hex_text key.0 ++ key_query (codes "&") keys

-- the paths of those with a query
abbrev pub validators_path : List PubKey → List ℕ
validators_path keys = codes "/eth/v1/beacon/states/head/validators" ++ key_query (codes "?") keys

abbrev pub data_path : ℕ → ℕ → List ℕ
data_path slot committee =
    codes "/eth/v1/validator/attestation_data?slot=" ++ decimal slot ++ codes "&committee_index=" ++ decimal committee

abbrev pub block_path : ℕ → Sig → List ℕ
block_path slot reveal =
    codes "/eth/v2/validator/blocks/" ++ decimal slot ++ codes "?randao_reveal=" ++ hex_text reveal.0
    ++ codes "&graffiti=" ++ hex_text (replicate 32 0)

abbrev pub aggregate_path : Root → ℕ → List ℕ
aggregate_path root slot =
    codes "/eth/v1/validator/aggregate_attestation?attestation_data_root=" ++ hex_text root.0 ++ codes "&slot=" ++ decimal slot

-- the path and the query of a question
abbrev pub ask_path : Ask → List ℕ
ask_path ask.Genesis = codes "/eth/v1/beacon/genesis"
ask_path ask.Fork = codes "/eth/v1/beacon/states/head/fork"
ask_path ask.Syncing = codes "/eth/v1/node/syncing"
ask_path (ask.Validators keys) = validators_path keys
ask_path (ask.Proposer epoch) = codes "/eth/v1/validator/duties/proposer/" ++ decimal epoch
ask_path (ask.Attester epoch indices) = codes "/eth/v1/validator/duties/attester/" ++ decimal epoch
ask_path (ask.Data slot committee) = data_path slot committee
ask_path (ask.Block slot reveal) = block_path slot reveal
ask_path (ask.Aggregate root slot) = aggregate_path root slot
ask_path (ask.Liveness epoch indices) = codes "/eth/v1/validator/liveness/" ++ decimal epoch

-- the method: duties of attesters and liveness are asked for with a body
abbrev pub ask_method : Ask → List ℕ
ask_method (ask.Attester epoch indices) = codes "POST"
ask_method (ask.Liveness epoch indices) = codes "POST"
ask_method _ = codes "GET"

-- a list of numbers as decimal texts
abbrev pub number_items : List ℕ → Items
number_items ns = items_of (map (λ n. string (decimal n)) ns)

unfoldable pub index_body : List ℕ → List ℕ
index_body indices = compact_text (array (number_items indices))

-- the body of a question
abbrev pub ask_body : Ask → List ℕ
ask_body (ask.Attester epoch indices) = index_body indices
ask_body (ask.Liveness epoch indices) = index_body indices
ask_body _ = []

-- where a vote, a block or an aggregate is handed over
abbrev pub post_path : Post → List ℕ
post_path (post.Vote vote) = codes "/eth/v1/beacon/pool/attestations"
post_path (post.Block block) = codes "/eth/v1/beacon/blocks"
post_path (post.Aggregate aggregate) = codes "/eth/v1/validator/aggregate_and_proofs"

-- a list with one vote or one aggregate, or the block
abbrev pub post_data : Post → Data
post_data (post.Vote vote) = array (item (write attestation (attestation_value vote)) no_items)
post_data (post.Block given) = write_signed (block_value given.message) given.signature
post_data (post.Aggregate given) = array (item (write (signed aggregate_and_proof) (signed_value aggregate_and_proof aggregate_and_proof_value given)) no_items)

unfoldable pub post_body : Post → List ℕ
post_body given = compact_text (post_data given)
