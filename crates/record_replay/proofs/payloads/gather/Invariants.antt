use Rattle.std.proofs.Common.{length}
use Rattle.record_replay.proofs.GatherLemmas.{SoFar}
use Rattle.record_replay.proofs.payloads.gather.Given as goal

abbrev pub invariant-loop-payload : goal.invariant-loop-payload
invariant-loop-payload l = SoFar l.version l.fn.reader l.reader l.histories.keys.entries l.histories.states.entries l.histories.watches.entries

abbrev pub decreases-loop-payload : goal.decreases-loop-payload
decreases-loop-payload l = length l.reader
