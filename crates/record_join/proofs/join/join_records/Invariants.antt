use Rattle.std.proofs.Common.{length}
use Rattle.record_join.proofs.FileLemmas.{JoinsOn}
use Rattle.record_join.proofs.join.join_records.Given as goal

abbrev pub invariant-others : goal.invariant-others
invariant-others l = JoinsOn l.fn.kept.entries l.others.entries (length l.yielded) l.kept.entries
