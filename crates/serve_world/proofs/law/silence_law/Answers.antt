use Rattle.serve_world.proofs.ServedAgain.{serve_silent, serve_ungranted}
use Rattle.serve_world.proofs.law.silence_law.Goals as goal

pub returns-clause-granted : goal.returns-clause-granted
returns-clause-granted g c = λ see. serve_ungranted g.D.Disk.moment g.D.Disk.leaves g.D.Disk.faults see

pub returns-clause-sent : goal.returns-clause-sent
returns-clause-sent g c = λ see. serve_silent g.D.Disk.moment g.D.Disk.leaves g.D.Disk.faults see
