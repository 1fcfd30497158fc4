use Rattle.session_run.proofs.PathLemmas.{path_machine}
use Rattle.duty_safety.proofs.laws.desk_law.Goals as goal

pub returns : goal.returns
returns g c = λ old new calls state path stands.
    let run = path_machine g.D.Disk.moment g.D.Disk.leaves g.D.Disk.faults old new calls path state stands in
    (run.0, run.1)
