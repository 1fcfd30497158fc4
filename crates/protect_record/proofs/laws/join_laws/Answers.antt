use Rattle.protect_record.proofs.JoinLemmas.{join-comm, join-assoc, join-same}
use Rattle.protect_record.proofs.laws.join_laws.Goals as goal

pub returns-clause-commutative : goal.returns-clause-commutative
returns-clause-commutative c = join-comm

pub returns-clause-associative : goal.returns-clause-associative
returns-clause-associative c = join-assoc

pub returns-clause-idempotent : goal.returns-clause-idempotent
returns-clause-idempotent c = join-same
