-- The shape of each container (consensus-specs, "Honest Validator" of phase 0 and of Electra, "Containers" of Electra;
-- builder-specs, "Containers").
use Rattle.phase0_types.specs.Containers.{attestation, attestation_data}
use Rattle.phase0_types.specs.Shapes.{Shape, byte_vector, uint64, bit_list, container, no_fields, field}
use Rattle.phase0_types.specs.declared.member.Member.TheVariants as member

-- `AggregateAndProof`, of the forks up to Deneb
unfoldable pub aggregate_and_proof : Shape
aggregate_and_proof = container (
    field member.AggregatorIndex uint64 (
    field member.Aggregate attestation (
    field member.SelectionProof (byte_vector 96) no_fields)))

-- `Attestation`, from Electra on; a vector of 64 bits has the root and the JSON of its 8 bytes
unfoldable pub electra_attestation : Shape
electra_attestation = container (
    field member.AggregationBits (bit_list 131072) (
    field member.Details attestation_data (
    field member.Signature (byte_vector 96) (
    field member.CommitteeBits (byte_vector 8) no_fields))))

-- `AggregateAndProof`, from Electra on
unfoldable pub electra_aggregate_and_proof : Shape
electra_aggregate_and_proof = container (
    field member.AggregatorIndex uint64 (
    field member.Aggregate electra_attestation (
    field member.SelectionProof (byte_vector 96) no_fields)))

-- `ValidatorRegistrationV1`
unfoldable pub validator_registration : Shape
validator_registration = container (
    field member.FeeRecipient (byte_vector 20) (
    field member.GasLimit uint64 (
    field member.Timestamp uint64 (
    field member.Pubkey (byte_vector 48) no_fields))))
