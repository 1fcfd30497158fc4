use Rattle.aggregation_law.proofs.SoundLemmas.{turns_reasoned}
use Rattle.aggregation_law.proofs.laws.reason_law.Goals as goal

pub returns : goal.returns
returns c = turns_reasoned
