use Rattle.std.proofs.Common.{string_bytes}
use Rattle.key_custody.specs.Plans.{import_plan}
use Rattle.key_custody.proofs.QuietLemmas.{quiet_import}
use Rattle.session_run.specs.Plans.{import_answer}
use Rattle.session_run.proofs.ActLemmas.{custody_cut, custody_done}
use Rattle.session_run.proofs.bench.Bench.import.Goals as goal

pub returns-in_default : goal.returns-in_default
returns-in_default g c = record {
  ends = rw (← c.self.view_is, ← c.texts.ensures.pairs) (custody_cut g.D.Disk.moment g.D.Disk.leaves g.D.Disk.faults (import_plan c.args.file c.args.now _) import_answer _ _ (quiet_import c.args.file c.args.now _) c.in_default.ensures.runs);
}

pub returns : goal.returns
returns g c = record {
  ends = rw (← c.self.view_is, ← c.texts.ensures.pairs) (custody_done g.D.Disk.moment g.D.Disk.leaves g.D.Disk.faults string_bytes c.line_of.result (import_plan c.args.file c.args.now _) import_answer _ _ c.in-Ok.end c.answer_to_import.result
      (quiet_import c.args.file c.args.now _) c.in-Ok.ensures.runs c.answer_to_import.ensures c.line_of.ensures);
}
