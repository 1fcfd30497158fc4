use Rattle.std.proofs.Common.{sym, ◌∙◌, arith}
use Rattle.keymanager_routes.proofs.TokenLemmas.{gathered, gathered_all}
use Rattle.keymanager_routes.proofs.bearer.is_same_token.Goals as goal

pub bytes-preserved : goal.bytes-preserved
bytes-preserved c = sym (gathered c.args.given.now c.args.token.now c.bytes.i c.bytes.differing (omega arith) (omega arith)) ∙ c.bytes.invariant

pub returns : goal.returns
returns c = sym (gathered_all c.args.given.now c.args.token.now c.bytes.i c.bytes.differing (omega arith) (omega arith)) ∙ c.bytes.invariant
