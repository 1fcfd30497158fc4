use Rattle.std.proofs.Common.{◌≤◌, take}
use Rattle.std.specs.Io.KnownBytes.{Appends}
use Rattle.journal_commands.specs.Showing.{listed_text}
use Rattle.journal_commands.proofs.keys.show_keys.Given as goal

abbrev pub invariant-keys : goal.invariant-keys
invariant-keys g l = record {
  shown : Appends (g.O.Sink.held l.fn.out) (g.O.Sink.held l.out) (listed_text l.desk.contents.keys (take l.one-index l.listed));
  later : g.O.Sink.faults l.fn.out ≤ g.O.Sink.faults l.out;
}
