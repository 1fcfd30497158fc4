use Rattle.client_world.proofs.ProxyLemmas.{proxy_runs, proxy_stops, proxy_told}
use Rattle.client_world.proofs.proxy.proxy_law.Goals as goal

pub returns-clause-told : goal.returns-clause-told
returns-clause-told g c = λ see. proxy_told g.D.Disk.moment g.D.Disk.leaves g.D.Disk.faults see

pub returns-clause-runs : goal.returns-clause-runs
returns-clause-runs g c = λ see. proxy_runs g.D.Disk.moment g.D.Disk.leaves g.D.Disk.faults see

pub returns-clause-stops : goal.returns-clause-stops
returns-clause-stops g c = λ see. proxy_stops g.D.Disk.moment g.D.Disk.leaves g.D.Disk.faults see
