-- What is signed and posted for a duty (consensus-specs, "Construct attestation", "Constructing the `BeaconBlock`",
-- "Attestation aggregation").
use Rattle.std.specs.Prelude.{ℕ, ◌/◌, List, Some}
use Rattle.edge_kit.specs.declared.bytes.Sig.{Sig}
use Rattle.slash_defs.specs.declared.message.Message.{Message}
use Rattle.slash_defs.specs.declared.message.Message.TheVariants as message
use Rattle.phase0_types.specs.Roots.{root_of}
use Rattle.phase0_types.specs.Containers.{attestation_data}
use Rattle.phase0_types.specs.Attestations.{attestation_data_value}
use Rattle.phase0_types.specs.declared.attestation.AttestationData.{AttestationData}
use Rattle.phase0_blocks.specs.declared.vote.Attestation.{Attestation}
use Rattle.duty_types.specs.declared.aggregate.AggregateAndProof.{AggregateAndProof}
use Rattle.altair_blocks.specs.AnyBlocks.{block_value, root_of_block, slot_of}
use Rattle.altair_blocks.specs.declared.any_block.AnyBlock.{AnyBlock}
use Rattle.sign_roots.specs.Domains.{domain_of}
use Rattle.sign_roots.specs.SigningRoots.{attestation_root_of, signing_root_of, slots_per_epoch}
use Rattle.sign_roots.specs.declared.domains.Domains.{Domains}
use Rattle.sign_roots.specs.declared.kind.DomainKind.TheVariants as kind
use Rattle.signer_link.specs.declared.aggregate.Aggregate.TheVariants as aggregated
use Rattle.signer_link.specs.declared.request.SignObject.{SignObject}
use Rattle.signer_link.specs.declared.request.SignObject.TheVariants as made_of
use Rattle.signer_link.specs.declared.request.SignRequest.{SignRequest}
use Rattle.signer_link.specs.declared.request.PlainRequest.{PlainRequest}
use Rattle.signer_link.specs.declared.request.PlainObject.TheVariants as plain
use Rattle.node_calls.specs.Aggregation.{aggregation_bits}
use Rattle.node_calls.specs.declared.answer.AttesterRow.{AttesterRow}
use Rattle.node_calls.specs.declared.post.Post.{Post}
use Rattle.node_calls.specs.declared.post.Post.TheVariants as post
use Rattle.duty_plans.specs.declared.work.SlotWork.{SlotWork}

-- the message of a vote, whose root is signed under the attester's domain of its target epoch (`get_attestation_signature`)
abbrev pub vote_message : Domains → AttestationData → Message
vote_message domains details = message.Vote details.source.epoch details.target.epoch (record { 0 = attestation_root_of domains details })

-- what a proposer signs for a block (`get_block_signature`)
abbrev pub whole_block_root : Domains → AnyBlock → List ℕ
whole_block_root domains block = signing_root_of (root_of_block (block_value block)) (domain_of domains kind.BeaconProposer (slot_of block / slots_per_epoch))

-- the message of a block, whose root is signed under the proposer's domain of the epoch of its slot
abbrev pub block_message : Domains → AnyBlock → Message
block_message domains block = message.Block (slot_of block) (record { 0 = whole_block_root domains block })

-- what goes to the service: the chain, and the whole object that the message was made of
abbrev pub object_request : SlotWork → SignObject → SignRequest
object_request work object = record { fork = work.domains.fork; genesis = work.genesis; object = Some object }

abbrev pub vote_request : SlotWork → AttestationData → SignRequest
vote_request work details = object_request work (made_of.Attestation details)

abbrev pub block_request : SlotWork → AnyBlock → SignRequest
block_request work block = object_request work (made_of.Block block)

-- the proposer reveals its randomness for the epoch of the slot (`get_epoch_signature`)
abbrev pub reveal_request : SlotWork → PlainRequest
reveal_request work = record { fork = work.domains.fork; genesis = work.genesis; object = plain.RandaoReveal (work.slot / slots_per_epoch) }

-- a vote by the one member of its committee whose duty it is
abbrev pub vote_post : AttesterRow → AttestationData → Sig → Post
vote_post row details signature = post.Vote (record { aggregation_bits = aggregation_bits row.validator_committee_index row.committee_length; details = details; signature = signature })

abbrev pub block_post : AnyBlock → Sig → Post
block_post block signature = post.Block (record { message = block; signature = signature })

-- ---- an aggregate

-- the hash tree root of what is voted for, by which an aggregate is asked for
unfoldable pub details_root : AttestationData → List ℕ
details_root details = root_of attestation_data (attestation_data_value details)

-- the validator signs the slot, which shows whether it is chosen (`get_slot_signature`)
abbrev pub slot_request : SlotWork → PlainRequest
slot_request work = record { fork = work.domains.fork; genesis = work.genesis; object = plain.AggregationSlot work.slot }

-- the aggregate by the validator that this proof chooses (`get_aggregate_and_proof`)
abbrev pub aggregate_message : AttesterRow → Sig → Attestation → AggregateAndProof
aggregate_message row proof aggregate = record { aggregator_index = row.validator_index; aggregate = aggregate; selection_proof = proof }

abbrev pub aggregate_request : SlotWork → AggregateAndProof → PlainRequest
aggregate_request work message = record { fork = work.domains.fork; genesis = work.genesis; object = plain.Aggregate (aggregated.Unnamed message) }

abbrev pub aggregate_post : AggregateAndProof → Sig → Post
aggregate_post message signature = post.Aggregate (record { message = message; signature = signature })
