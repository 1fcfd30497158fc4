use Rattle.world_law.proofs.WatchLemmas.{watches_first}
use Rattle.world_law.proofs.law.watch_first_law.Goals as goal

pub returns : goal.returns
returns c = watches_first
