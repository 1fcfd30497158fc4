use Rattle.std.proofs.Common.{◌+◌, ◌≤◌, ◌<◌, length}
use Rattle.desk_machine.specs.Machine.{moment_limit}
use Rattle.program_end.specs.Limits.{input_limit}
use Rattle.session_run.proofs.EndLemmas.{SoFar}
use Rattle.session_run.proofs.session.serve_lines.Given as goal

abbrev pub invariant-lines : goal.invariant-lines
invariant-lines g l = record {
  so_far : SoFar g.D.Disk.moment g.D.Disk.leaves g.D.Disk.faults l.chain (g.I.Source.left l.fn.input) (g.I.Source.left l.input) l.fn.bench l.bench (g.O.Sink.held l.fn.out) (g.O.Sink.held l.out) l.lines l.latest;
  count : l.counter + length l.lines.bytes ≤ l.lines.total;
  within : l.lines.total < input_limit;
  latest : l.latest ≤ moment_limit;
  reads : g.I.Source.faults l.fn.input ≤ g.I.Source.faults l.input;
  writes : g.O.Sink.faults l.fn.out ≤ g.O.Sink.faults l.out;
}
