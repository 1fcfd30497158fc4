use Rattle.http_wire.proofs.FramingRuleLemmas.{framed_by_rules}
use Rattle.http_wire.proofs.laws.framing_law.Goals as goal

pub returns : goal.returns
returns c = framed_by_rules
