-- The members of a container have names of their own.
use Rattle.std.specs.Prelude.{◌≡◌, true, refl}
use Rattle.phase0_types.specs.Names.{has_names}
use Rattle.altair_types.specs.Containers.{sync_aggregator_selection_data, sync_committee_contribution, contribution_and_proof}

pub sync_aggregator_selection_data_names : has_names sync_aggregator_selection_data ≡ true
unfolding has_names sync_aggregator_selection_data
sync_aggregator_selection_data_names = refl

pub sync_committee_contribution_names : has_names sync_committee_contribution ≡ true
unfolding has_names sync_committee_contribution
sync_committee_contribution_names = refl

pub contribution_and_proof_names : has_names contribution_and_proof ≡ true
unfolding has_names contribution_and_proof sync_committee_contribution
contribution_and_proof_names = refl
