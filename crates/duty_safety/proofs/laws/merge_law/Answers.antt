use Rattle.duty_safety.proofs.MergeLemmas.{turn_merges}
use Rattle.duty_safety.proofs.laws.merge_law.Goals as goal

pub returns : goal.returns
returns c = turn_merges
