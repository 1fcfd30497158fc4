use Rattle.serve_world.proofs.OtherSession.{other_idles}
use Rattle.serve_world.proofs.SessionRunLemmas.{command_goes_on, run_goes_on}
use Rattle.serve_world.proofs.sessions.run_law.Goals as goal

pub returns-clause-session : goal.returns-clause-session
returns-clause-session g c = run_goes_on g.D.Disk.shows g.D.Disk.moment g.D.Disk.leaves g.D.Disk.faults

pub returns-clause-command : goal.returns-clause-command
returns-clause-command g c = command_goes_on g.D.Disk.shows g.D.Disk.moment g.D.Disk.leaves g.D.Disk.faults

pub returns-clause-other : goal.returns-clause-other
returns-clause-other g c = other_idles g.D.Disk.shows g.D.Disk.moment g.D.Disk.leaves g.D.Disk.faults
