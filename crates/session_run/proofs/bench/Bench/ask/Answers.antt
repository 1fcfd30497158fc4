use Rattle.std.proofs.Common.{string_bytes}
use Rattle.session_run.proofs.ActLemmas.{call_ends}
use Rattle.session_run.proofs.ReplyLemmas.{plain_of, quiet_of}
use Rattle.session_run.proofs.bench.Bench.ask.Goals as goal

pub plain_answer-requires : goal.plain_answer-requires
plain_answer-requires g c = plain_of _ _ c.requires.plain c.call-reply.ensures.counted.kind

pub returns : goal.returns
returns g c = record {
  ends = rw (← c.self.view_is) (call_ends g.D.Disk.moment g.D.Disk.leaves g.D.Disk.faults string_bytes c.line_of.result c.self.inside.desk c.call-reply.new.self _ c.args.call c.call-reply.result c.plain_answer.result
      (quiet_of c.args.call c.requires.plain) c.call-reply.ensures c.plain_answer.ensures c.line_of.ensures);
}
