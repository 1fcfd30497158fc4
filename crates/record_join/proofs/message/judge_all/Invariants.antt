use Rattle.std.proofs.Common.{take}
use Rattle.record_join.proofs.AllLemmas.{JudgedSoFar}
use Rattle.record_join.proofs.message.judge_all.Given as goal

abbrev pub invariant-messages : goal.invariant-messages
invariant-messages l = JudgedSoFar l.fn.kept.entries (take l.one-index l.listed) l.kept.entries
