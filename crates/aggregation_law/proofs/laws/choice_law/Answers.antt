use Rattle.duty_plans.proofs.AggregateLemmas.{cast_goes}
use Rattle.aggregation_law.proofs.GivenLemmas.{choice_goes, data_goes}
use Rattle.aggregation_law.proofs.laws.choice_law.Goals as goal

pub returns-clause-answered : goal.returns-clause-answered
returns-clause-answered c = data_goes

pub returns-clause-voted : goal.returns-clause-voted
returns-clause-voted c = cast_goes

pub returns-clause-chosen : goal.returns-clause-chosen
returns-clause-chosen c = choice_goes
