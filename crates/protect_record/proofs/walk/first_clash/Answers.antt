use Rattle.std.proofs.Common.{sym, arith}
use Rattle.slash_defs.specs.FileOrder.{vote_cmp, votes_total}
use Rattle.protect_record.specs.Verdicts.{Clashes}
use Rattle.protect_record.proofs.OrderLemmas.{first_found}
use Rattle.protect_record.proofs.walk.first_clash.Goals as goal

pub returns-then-clashes-clause-found : goal.returns-then-clashes-clause-found
returns-then-clashes-clause-found g c =
    first_found vote_cmp votes_total (Clashes c.args.kind c.args.source c.args.target c.args.root) c.args.votes.now c.requires.in_order c.loop-at.at c.look-kept.result (omega arith)
    (λ d. sym (c.look-kept.ensures.value d)) c.loop-at.invariant.none (c.clashes.ensures.0 c.if-clashes.true)
