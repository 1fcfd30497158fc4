use Rattle.std.proofs.Common.{length, take}
use Rattle.record_join.specs.Preparing.{IsReady, parts_size}
use Rattle.record_join.proofs.join.prepare_records.Given as goal

abbrev pub invariant-others : goal.invariant-others
invariant-others l = IsReady parts_size l.fn.kept.entries (take (length l.yielded) l.others.entries) l.fresh.items l.kept.entries
