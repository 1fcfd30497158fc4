use Rattle.protect_record.proofs.GainLemmas.{roomy_gathers}
use Rattle.protect_record.proofs.record.Record.gather.Goals as goal

pub returns-clause-gathered : goal.returns-clause-gathered
returns-clause-gathered c = roomy_gathers _ _ _ _ _ _ c.reserve.ensures.same c.gather_reserved.ensures
