use Rattle.world_law.proofs.TextLemmas.{exports_as_written, closes_as_written}
use Rattle.world_law.proofs.law.text_law.Goals as goal

pub returns-clause-exports : goal.returns-clause-exports
returns-clause-exports c = exports_as_written

pub returns-clause-closes : goal.returns-clause-closes
returns-clause-closes c = closes_as_written
