-- What members of a sync committee sign as values of their shapes.
use Rattle.phase0_types.specs.Values.{ValueOf}
use Rattle.altair_types.specs.Containers.{sync_aggregator_selection_data, sync_committee_contribution, contribution_and_proof}
use Rattle.altair_types.specs.declared.sync_committee.SyncAggregatorSelectionData.{SyncAggregatorSelectionData}
use Rattle.altair_types.specs.declared.sync_committee.SyncCommitteeContribution.{SyncCommitteeContribution}
use Rattle.altair_types.specs.declared.sync_committee.ContributionAndProof.{ContributionAndProof}

unfoldable pub sync_aggregator_selection_data_value : SyncAggregatorSelectionData → ValueOf sync_aggregator_selection_data
unfolding sync_aggregator_selection_data
sync_aggregator_selection_data_value it = (it.slot, (it.subcommittee_index, tt))

unfoldable pub sync_committee_contribution_value : SyncCommitteeContribution → ValueOf sync_committee_contribution
unfolding sync_committee_contribution
sync_committee_contribution_value it = (it.slot, (it.beacon_block_root.0, (it.subcommittee_index, (it.aggregation_bits, (it.signature.0, tt)))))

unfoldable pub contribution_and_proof_value : ContributionAndProof → ValueOf contribution_and_proof
unfolding contribution_and_proof
contribution_and_proof_value it = (it.aggregator_index, (sync_committee_contribution_value it.contribution, (it.selection_proof.0, tt)))
