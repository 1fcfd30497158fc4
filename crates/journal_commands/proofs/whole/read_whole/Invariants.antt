use Rattle.std.proofs.Common.{◌<◌, ◌≤◌, length}
use Rattle.std.specs.Io.KnownBytes.{Consumes}
use Rattle.journal_commands.proofs.whole.read_whole.Given as goal

abbrev pub invariant-reads : goal.invariant-reads
invariant-reads g l = record {
  taken : Consumes (g.I.Source.left l.fn.input) (g.I.Source.left l.input) l.bytes.items;
  count : l.counter ≤ length l.bytes.items;
  within : length l.bytes.items ≤ l.limit;
  piece : 0 < length l.piece.items;
  later : g.I.Source.faults l.fn.input ≤ g.I.Source.faults l.input;
}
