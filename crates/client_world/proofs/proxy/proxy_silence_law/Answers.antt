use Rattle.client_world.proofs.ProxyLemmas.{proxy_silent, proxy_ungranted}
use Rattle.client_world.proofs.proxy.proxy_silence_law.Goals as goal

pub returns-clause-granted : goal.returns-clause-granted
returns-clause-granted g c = λ see. proxy_ungranted g.D.Disk.moment g.D.Disk.leaves g.D.Disk.faults see

pub returns-clause-sent : goal.returns-clause-sent
returns-clause-sent g c = λ see. proxy_silent g.D.Disk.moment g.D.Disk.leaves g.D.Disk.faults see
