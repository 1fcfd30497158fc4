use Rattle.std.proofs.Common.{refl, string_bytes}
use Rattle.key_custody.specs.Plans.{list_plan}
use Rattle.key_custody.proofs.QuietLemmas.{quiet_list}
use Rattle.session_format.specs.declared.answer.Answer.TheVariants as answer
use Rattle.session_run.proofs.ActLemmas.{custody_cut, custody_done, ran_at}
use Rattle.session_run.proofs.bench.Bench.list.Goals as goal

pub returns-in_default : goal.returns-in_default
returns-in_default g c = record {
  ends = rw (← c.self.view_is) (custody_cut g.D.Disk.moment g.D.Disk.leaves g.D.Disk.faults list_plan (λ keys. answer.Listed keys) _ _ quiet_list (ran_at g.D.Disk.moment g.D.Disk.leaves g.D.Disk.faults list_plan _ _ _ (c.in_default.ensures.runs _)));
}

pub returns : goal.returns
returns g c = record {
  ends = rw (← c.self.view_is) (custody_done g.D.Disk.moment g.D.Disk.leaves g.D.Disk.faults string_bytes c.line_of.result list_plan (λ keys. answer.Listed keys) _ _ c.in-Ok.keys (answer.Listed c.in-Ok.keys)
      quiet_list (ran_at g.D.Disk.moment g.D.Disk.leaves g.D.Disk.faults list_plan _ _ _ (c.in-Ok.ensures.runs _)) refl c.line_of.ensures);
}
