use Rattle.std.proofs.Common.{arith}
use Rattle.journal_commands.proofs.WholeLemmas.{read_none, read_on, stops_more, passes_none}
use Rattle.journal_commands.proofs.whole.read_whole.Goals as goal

pub reads-init : goal.reads-init
reads-init g c = record {
  taken = read_none (g.I.Source.left c.args.input.now) c.new-bytes.result.items c.new-bytes.ensures.items;
  count = omega arith;
  within = omega arith;
  piece = omega arith;
  later = omega arith;
}

pub returns-in-Ok-eq0-clause-whole : goal.returns-in-Ok-eq0-clause-whole
returns-in-Ok-eq0-clause-whole g c = (
  read_on (g.I.Source.left c.args.input.now) c.reads.invariant.taken c.read_more.ensures.more,
  c.in-Ok-eq0.ensures.end c.in-Ok-eq0.field-0-test,
  omega (arith, c.in-Ok-eq0.ensures.count),
)

pub returns-in-Err-clause-fault : goal.returns-in-Err-clause-fault
returns-in-Err-clause-fault g c =
    stops_more c.in-Err.fault c.args.limit _ _ _ (g.I.Source.faults c.reads.input) _ c.reads.invariant.later c.in-Err.ensures.fault

pub returns-then-len-limit-clause-fault : goal.returns-then-len-limit-clause-fault
returns-then-len-limit-clause-fault g c =
    (c.read_more.new.bytes.items, read_on (g.I.Source.left c.args.input.now) c.reads.invariant.taken c.read_more.ensures.more, omega arith)

pub returns-then-len-limit-clause-within : goal.returns-then-len-limit-clause-within
returns-then-len-limit-clause-within g c = λ within _.
    passes_none c.args.limit _ _
    (c.read_more.new.bytes.items, read_on (g.I.Source.left c.args.input.now) c.reads.invariant.taken c.read_more.ensures.more, omega arith)
    within

pub reads-preserved : goal.reads-preserved
reads-preserved g c = record {
  taken = read_on (g.I.Source.left c.args.input.now) c.reads.invariant.taken c.read_more.ensures.more;
  count = omega (arith, c.in-Ok.field-0-test.1, c.in-Ok.ensures.count);
  within = omega arith;
  piece = omega arith;
  later = omega arith;
}
