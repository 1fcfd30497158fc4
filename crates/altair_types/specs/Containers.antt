-- The shape of each container (consensus-specs, "Altair -- Honest Validator", "Containers").
use Rattle.phase0_types.specs.Shapes.{Shape, byte_vector, uint64, container, no_fields, field}
use Rattle.phase0_types.specs.declared.member.Member.TheVariants as member

-- `SyncAggregatorSelectionData`
unfoldable pub sync_aggregator_selection_data : Shape
sync_aggregator_selection_data = container (
    field member.Slot uint64 (
    field member.SubcommitteeIndex uint64 no_fields))

-- `SyncCommitteeContribution`; a vector of 128 bits has the root and the JSON of its 16 bytes
unfoldable pub sync_committee_contribution : Shape
sync_committee_contribution = container (
    field member.Slot uint64 (
    field member.BeaconBlockRoot (byte_vector 32) (
    field member.SubcommitteeIndex uint64 (
    field member.AggregationBits (byte_vector 16) (
    field member.Signature (byte_vector 96) no_fields)))))

-- `ContributionAndProof`
unfoldable pub contribution_and_proof : Shape
contribution_and_proof = container (
    field member.AggregatorIndex uint64 (
    field member.Contribution sync_committee_contribution (
    field member.SelectionProof (byte_vector 96) no_fields)))
