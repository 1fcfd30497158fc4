use Rattle.interchange_io.proofs.ContentLemmas.{canonical_in_order, canonical_same}
use Rattle.interchange_io.proofs.laws.written_order.Goals as goal

pub returns-clause-in_order : goal.returns-clause-in_order
returns-clause-in_order c = canonical_in_order

pub returns-clause-holds_same : goal.returns-clause-holds_same
returns-clause-holds_same c = canonical_same
