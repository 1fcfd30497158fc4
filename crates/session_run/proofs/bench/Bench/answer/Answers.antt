use Rattle.std.proofs.Common.{refl}
use Rattle.session_format.specs.declared.answer.Answer.TheVariants as answer
use Rattle.session_run.proofs.ActLemmas.{bad_answered, none_done, on_err}
use Rattle.session_run.proofs.bench.Bench.answer.Goals as goal

pub returns-in_ok-text-in-Err-clause-done : goal.returns-in_ok-text-in-Err-clause-done
returns-in_ok-text-in-Err-clause-done g c = bad_answered g.D.Disk.moment g.D.Disk.leaves g.D.Disk.faults _ _ (answer.BadRequest c.in-Err.member) _ (rw c.in-Err.is refl) c.in_ok-text-in-Err.ensures

pub returns-in_err-text-in-Err-clause-undone : goal.returns-in_err-text-in-Err-clause-undone
returns-in_err-text-in-Err-clause-undone g c = on_err _ (none_done g.D.Disk.moment g.D.Disk.leaves g.D.Disk.faults _ _)
