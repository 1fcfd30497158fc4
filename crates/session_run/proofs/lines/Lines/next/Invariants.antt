use Rattle.std.proofs.Common.{◌≤◌, ◌<◌, ◌+◌}
use Rattle.session_run.specs.Reading.{ReadsMore}
use Rattle.program_end.specs.Limits.{input_limit}
use Rattle.session_run.proofs.lines.Lines.next.Given as goal

abbrev pub invariant-reads : goal.invariant-reads
invariant-reads g l = record {
  reads : ReadsMore (g.I.Source.left l.fn.source) (g.I.Source.left l.source) l.fn.self l.self;
  count : l.fn.self.total + l.counter ≤ l.self.total;
  within : l.self.total < input_limit;
  later : g.I.Source.faults l.fn.source ≤ g.I.Source.faults l.source;
}
