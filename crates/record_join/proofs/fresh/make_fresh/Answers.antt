use Rattle.std.proofs.Common.{rules}
use Rattle.record_join.proofs.BeginLemmas.{known_within}
use Rattle.record_join.proofs.fresh.make_fresh.Goals as goal

pub returns-clause-limit : goal.returns-clause-limit
returns-clause-limit c = known_within _ _ c.args.key _ _ _ c.in-Ok.ensures.knows (search rules)
