use Rattle.client_world.proofs.LifeLemmas.{headline}
use Rattle.client_world.proofs.law.headline_law.Goals as goal

pub returns : goal.returns
returns g c = λ see. headline g.D.Disk.moment g.D.Disk.leaves g.D.Disk.faults see
