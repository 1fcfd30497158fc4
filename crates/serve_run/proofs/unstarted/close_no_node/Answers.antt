use Rattle.std.proofs.Common.{inl}
use Rattle.serve_run.proofs.unstarted.close_no_node.Goals as goal

pub returns-in-Ok-clause-closes : goal.returns-in-Ok-clause-closes
returns-in-Ok-clause-closes g c = λ genesis. inl (c.in-Ok.text, c.in-Ok.ensures, c.close.ensures.closes)
