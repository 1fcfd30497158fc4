use Rattle.std.proofs.Common.{string_bytes}
use Rattle.session_run.proofs.ActLemmas.{granted_ends, plain_ends}
use Rattle.session_run.proofs.ReplyLemmas.{no_grant, proposed_plain}
use Rattle.session_run.proofs.bench.Bench.propose.Goals as goal

pub plain_answer-requires : goal.plain_answer-requires
plain_answer-requires g c = proposed_plain c.args.key c.args.message c.args.now _ (no_grant _ c.in_default.not-Granted) c.call.ensures.counted.kind

pub returns-in-Granted : goal.returns-in-Granted
returns-in-Granted g c = record {
  ends = rw (← c.self.view_is) (granted_ends g.D.Disk.moment g.D.Disk.leaves g.D.Disk.faults string_bytes c.sign.result _ c.args.key c.args.message c.args.now c.self.inside.desk c.call.new.self _ _ c.in-Granted.grant c.in-Granted.ensures c.sign.ensures.ends);
}

pub returns : goal.returns
returns g c = record {
  ends = rw (← c.self.view_is) (plain_ends g.D.Disk.moment g.D.Disk.leaves g.D.Disk.faults string_bytes c.line_of.result _ c.args.key c.args.message c.args.now c.self.inside.desk c.call.new.self _ c.call.result c.plain_answer.result
      (no_grant _ c.in_default.not-Granted) c.call.ensures c.plain_answer.ensures c.line_of.ensures);
}
