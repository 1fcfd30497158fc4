use Rattle.record_replay.proofs.PruningLemmas.{pruned_same}
use Rattle.record_replay.proofs.laws.pruning_law.Goals as goal

pub returns : goal.returns
returns c = pruned_same
