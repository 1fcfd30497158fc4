use Rattle.serve_world.proofs.RepeatLemmas.{repeats_change_nothing}
use Rattle.serve_world.proofs.law.repeat_law.Goals as goal

pub returns : goal.returns
returns c = repeats_change_nothing
