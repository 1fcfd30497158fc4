use Rattle.std.proofs.Common.{arith}
use Rattle.http_wire.proofs.TakeLemmas.{at_most_within}
use Rattle.http_wire.proofs.body.read_whole.Goals as goal

pub returns-in-Ok-clause-bound : goal.returns-in-Ok-clause-bound
returns-in-Ok-clause-bound g c = at_most_within _ _ c.args.size _ c.read_sized.ensures.bound (omega arith)

pub returns-in-Err-Stuck-clause-bound : goal.returns-in-Err-Stuck-clause-bound
returns-in-Err-Stuck-clause-bound g c = at_most_within _ _ c.args.size _ c.read_sized.ensures.bound (omega arith)

pub returns-in-Err-Link-clause-bound : goal.returns-in-Err-Link-clause-bound
returns-in-Err-Link-clause-bound g c = at_most_within _ _ c.args.size _ c.read_sized.ensures.bound (omega arith)

pub returns-in-Err-Memory-clause-bound : goal.returns-in-Err-Memory-clause-bound
returns-in-Err-Memory-clause-bound g c = at_most_within _ _ c.args.size _ c.read_sized.ensures.bound (omega arith)
