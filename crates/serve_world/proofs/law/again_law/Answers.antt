use Rattle.serve_world.proofs.ServedAgain.{serve_deletes_again, serve_imports_again}
use Rattle.serve_world.proofs.law.again_law.Goals as goal

pub returns-clause-deletions : goal.returns-clause-deletions
returns-clause-deletions g c = λ see. serve_deletes_again g.D.Disk.moment g.D.Disk.leaves g.D.Disk.faults see

pub returns-clause-imports : goal.returns-clause-imports
returns-clause-imports g c = λ see. serve_imports_again g.D.Disk.moment g.D.Disk.leaves g.D.Disk.faults see
