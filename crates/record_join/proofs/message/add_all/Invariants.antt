use Rattle.std.proofs.Common.{take}
use Rattle.record_join.proofs.AllLemmas.{AddedSoFar}
use Rattle.record_join.proofs.message.add_all.Given as goal

abbrev pub invariant-messages : goal.invariant-messages
invariant-messages l = AddedSoFar l.fn.kept.entries (take l.one-index l.listed) l.kept.entries
