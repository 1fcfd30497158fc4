use Rattle.client_world.proofs.ProxyRunLemmas.{other_proxy_idles, proxy_goes_on}
use Rattle.client_world.proofs.proxy.proxy_service_law.Goals as goal

pub returns-clause-goes_on : goal.returns-clause-goes_on
returns-clause-goes_on g c = λ see. proxy_goes_on g.D.Disk.shows g.D.Disk.moment g.D.Disk.leaves g.D.Disk.faults see

pub returns-clause-other : goal.returns-clause-other
returns-clause-other g c = λ see. other_proxy_idles g.D.Disk.shows g.D.Disk.moment g.D.Disk.leaves g.D.Disk.faults see
