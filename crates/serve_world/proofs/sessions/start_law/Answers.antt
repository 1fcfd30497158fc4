use Rattle.serve_world.proofs.SessionStarts.{starts_again, starts_empty, starts_keep}
use Rattle.serve_world.proofs.sessions.start_law.Goals as goal

pub returns-clause-again : goal.returns-clause-again
returns-clause-again g c = starts_again g.D.Disk.shows g.D.Disk.moment g.D.Disk.leaves g.D.Disk.faults

pub returns-clause-keep : goal.returns-clause-keep
returns-clause-keep g c = starts_keep g.D.Disk.shows g.D.Disk.moment g.D.Disk.leaves

pub returns-clause-empty : goal.returns-clause-empty
returns-clause-empty g c = starts_empty
