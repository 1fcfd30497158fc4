use Rattle.aggregation_law.proofs.EarnLemmas.{turns_earned}
use Rattle.aggregation_law.proofs.laws.aggregation_law.Goals as goal

pub returns : goal.returns
returns c = turns_earned
