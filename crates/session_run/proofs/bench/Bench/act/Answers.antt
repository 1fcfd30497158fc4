use Rattle.std.proofs.Common.{string_bytes, refl}
use Rattle.session_format.specs.declared.answer.Answer.TheVariants as answer
use Rattle.session_run.proofs.ActLemmas.{nothing_asked}
use Rattle.session_run.proofs.bench.Bench.act.Goals as goal

pub returns-in-BadFile : goal.returns-in-BadFile
returns-in-BadFile g c = record { ends = nothing_asked g.D.Disk.moment g.D.Disk.leaves g.D.Disk.faults string_bytes c.line.result _ _ (answer.BadFile c.in-BadFile.fault) (rw c.in-BadFile.is refl) c.line.ensures }
