use Rattle.edge_kit.proofs.MemDiskLemmas.{held_left}
use Rattle.edge_kit.proofs.mem_disk.MemDiskDisk.read.Goals as goal

pub returns-then-from-len-clause-image : goal.returns-then-from-len-clause-image
returns-then-from-len-clause-image c = λ b shown. held_left c.args.self.now.first.items c.args.self.now.steps.items c.args.self.now.held.items b c.args.self.now.current shown

pub returns-clause-image : goal.returns-clause-image
returns-clause-image c = λ b shown. held_left c.args.self.now.first.items c.args.self.now.steps.items c.args.self.now.held.items b c.args.self.now.current shown
