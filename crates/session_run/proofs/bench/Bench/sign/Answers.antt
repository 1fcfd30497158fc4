use Rattle.std.proofs.Common.{◌≡◌, Some, string_bytes, rules}
use Rattle.session_run.proofs.ActLemmas.{sign_done, sign_dropped, told_at}
use Rattle.session_run.proofs.bench.Bench.sign.Goals as goal

pub returns-in_default : goal.returns-in_default
returns-in_default g c =
    let s = c.sign-reply.ensures in
    let is : c.args.grant.message ≡ Some c.unwrap-message.result = search rules in
    record {
      ends = rw (← c.self.view_is) (sign_dropped g.D.Disk.moment g.D.Disk.leaves g.D.Disk.faults string_bytes c.line_of.result c.args.request.now c.args.grant c.unwrap-message.result c.sign-reply.result _ _ _ _ is
          (told_at g.D.Disk.moment g.D.Disk.leaves g.D.Disk.faults c.args.grant.message c.unwrap-message.result _ is s.told) s.later s.fault s.denials s.denied c.settle.ensures);
    }

pub returns : goal.returns
returns g c =
    let s = c.sign-reply.ensures in
    let is : c.args.grant.message ≡ Some c.unwrap-message.result = search rules in
    record {
      ends = rw (← c.self.view_is) (sign_done g.D.Disk.moment g.D.Disk.leaves g.D.Disk.faults string_bytes c.line_of.result c.args.request.now c.args.grant c.unwrap-message.result c.sign-reply.result _ _ _ _ is
          (told_at g.D.Disk.moment g.D.Disk.leaves g.D.Disk.faults c.args.grant.message c.unwrap-message.result _ is s.told) s.later s.fault s.denials s.denied c.in-Ok.text _ c.answer_for.result c.outcome_for-outcome.ensures c.settle-2.ensures c.answer_for.ensures c.line_of.ensures c.in-Ok.is);
    }
