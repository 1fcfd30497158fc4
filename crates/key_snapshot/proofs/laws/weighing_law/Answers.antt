use Rattle.key_snapshot.proofs.WeightLemmas.{snapshots_weigh}
use Rattle.key_snapshot.proofs.laws.weighing_law.Goals as goal

pub returns : goal.returns
returns c = snapshots_weigh
