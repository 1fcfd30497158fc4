use Rattle.std.proofs.Common.{string_bytes}
use Rattle.key_custody.specs.Plans.{deletion_plan}
use Rattle.key_custody.proofs.QuietLemmas.{quiet_deletion}
use Rattle.session_format.specs.declared.answer.Answer.TheVariants as answer
use Rattle.session_run.proofs.ActLemmas.{custody_cut, custody_done}
use Rattle.session_run.proofs.bench.Bench.delete.Goals as goal

pub returns-in_default : goal.returns-in_default
returns-in_default g c = record {
  ends = rw (← c.self.view_is) (custody_cut g.D.Disk.moment g.D.Disk.leaves g.D.Disk.faults (deletion_plan c.args.keys.now) (λ d. answer.Deleted d.statuses d.file) _ _ (quiet_deletion c.args.keys.now) c.in_default.ensures.runs);
}

pub returns : goal.returns
returns g c = record {
  ends = rw (← c.self.view_is) (custody_done g.D.Disk.moment g.D.Disk.leaves g.D.Disk.faults string_bytes c.line_of.result (deletion_plan c.args.keys.now) (λ d. answer.Deleted d.statuses d.file) _ _ c.in-Ok.deletion c.answer_to_deletion.result
      (quiet_deletion c.args.keys.now) c.in-Ok.ensures.runs c.answer_to_deletion.ensures c.line_of.ensures);
}
