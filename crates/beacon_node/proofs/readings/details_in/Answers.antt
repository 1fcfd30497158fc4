use Rattle.std.proofs.Common.{rules, false, true, ap, sym, ◌∙◌, option_map}
use Rattle.serde_json.specs.View.{view}
use Rattle.phase0_types.specs.Attestations.{attestation_data_value}
use Rattle.beacon_node.proofs.DetailsLemmas.{details_some}
use Rattle.beacon_node.proofs.readings.details_in.Goals as goal

pub returns-then-details-clause-means : goal.returns-then-details-clause-means
returns-then-details-clause-means c =
    details_some (view c.args.value.now) c.in-Some.details false (ap (λ found. option_map attestation_data_value found) (sym c.in-Some.is) ∙ c.in_ok-details.ensures) (search rules)

pub returns-clause-means : goal.returns-clause-means
returns-clause-means c =
    details_some (view c.args.value.now) c.in-Some.details true (ap (λ found. option_map attestation_data_value found) (sym c.in-Some.is) ∙ c.in_ok-details.ensures) (search rules)
