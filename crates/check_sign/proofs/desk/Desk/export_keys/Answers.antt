use Rattle.std.proofs.Common.{refl}
use Rattle.check_sign.proofs.ReadLemmas.{still_seen}
use Rattle.check_sign.proofs.desk.Desk.export_keys.Goals as goal

pub returns-in-Ok-clause-moved : goal.returns-in-Ok-clause-moved
returns-in-Ok-clause-moved g c = still_seen g.D.Disk.moment g.D.Disk.leaves g.D.Disk.faults c.self.inside.journal _ c.args.self.now c.self.view_is refl c.self.invariant.0

pub returns-clause-moved : goal.returns-clause-moved
returns-clause-moved g c = still_seen g.D.Disk.moment g.D.Disk.leaves g.D.Disk.faults c.self.inside.journal _ c.args.self.now c.self.view_is refl c.self.invariant.0
