use Rattle.record_join.proofs.RepeatLemmas.{repeats_decides}
use Rattle.record_join.proofs.laws.repeat_law.Goals as goal

pub returns : goal.returns
returns c = repeats_decides
