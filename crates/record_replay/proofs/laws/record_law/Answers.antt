use Rattle.record_replay.proofs.PruningLemmas.{record_same}
use Rattle.record_replay.proofs.laws.record_law.Goals as goal

pub returns : goal.returns
returns c = record_same
