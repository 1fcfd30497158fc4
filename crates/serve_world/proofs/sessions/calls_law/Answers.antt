use Rattle.serve_world.proofs.SessionEvents.{calls_run}
use Rattle.serve_world.proofs.SessionStops.{calls_stop}
use Rattle.serve_world.proofs.sessions.calls_law.Goals as goal

pub returns-clause-runs : goal.returns-clause-runs
returns-clause-runs g c = calls_run g.D.Disk.moment g.D.Disk.leaves g.D.Disk.faults

pub returns-clause-stops : goal.returns-clause-stops
returns-clause-stops g c = calls_stop g.D.Disk.moment g.D.Disk.leaves g.D.Disk.faults
