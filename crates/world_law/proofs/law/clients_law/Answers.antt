use Rattle.world_law.proofs.ApartLemmas.{runs_apart, stands_apart, sends_all}
use Rattle.world_law.proofs.law.clients_law.Goals as goal

pub returns-clause-apart : goal.returns-clause-apart
returns-clause-apart c = runs_apart

pub returns-clause-stands : goal.returns-clause-stands
returns-clause-stands c = stands_apart

pub returns-clause-sent : goal.returns-clause-sent
returns-clause-sent c = sends_all
