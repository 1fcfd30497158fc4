use Rattle.desk_machine.proofs.WeightLemmas.{state_weighs}
use Rattle.desk_machine.proofs.laws.snapshot_law.Goals as goal

pub returns : goal.returns
returns c = λ state sized short. state_weighs c.weighing_law.ensures state sized short
