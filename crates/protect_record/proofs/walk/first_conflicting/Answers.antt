use Rattle.std.proofs.Common.{sym, arith}
use Rattle.slash_defs.specs.FileOrder.{block_cmp, blocks_total}
use Rattle.protect_record.specs.Verdicts.{ConflictsWith}
use Rattle.protect_record.proofs.OrderLemmas.{first_found}
use Rattle.protect_record.proofs.walk.first_conflicting.Goals as goal

pub returns-then-forbids-clause-found : goal.returns-then-forbids-clause-found
returns-then-forbids-clause-found g c =
    first_found block_cmp blocks_total (ConflictsWith c.args.slot c.args.root) c.args.blocks.now c.requires.in_order c.loop-at.at c.look-kept.result (omega arith)
    (λ d. sym (c.look-kept.ensures.value d)) c.loop-at.invariant.none (c.forbids.ensures.0 c.if-forbids.true)
