use Rattle.serve_world.proofs.SessionEvents.{session_runs}
use Rattle.serve_world.proofs.SessionStops.{session_stops}
use Rattle.serve_world.proofs.sessions.session_law.Goals as goal

pub returns-clause-runs : goal.returns-clause-runs
returns-clause-runs g c = session_runs g.D.Disk.moment g.D.Disk.leaves g.D.Disk.faults

pub returns-clause-stops : goal.returns-clause-stops
returns-clause-stops g c = session_stops g.D.Disk.moment g.D.Disk.leaves g.D.Disk.faults
