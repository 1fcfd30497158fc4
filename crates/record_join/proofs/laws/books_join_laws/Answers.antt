use Rattle.protect_record.specs.Pasts.{then_past, with_book}
use Rattle.record_join.proofs.LawLemmas.{both_ways, gained_listed, repeated}
use Rattle.record_join.proofs.laws.books_join_laws.Goals as goal

pub returns-clause-file : goal.returns-clause-file
returns-clause-file c = λ pasts books key once. gained_listed with_book pasts books key once

pub returns-clause-join : goal.returns-clause-join
returns-clause-join c = λ pasts others key once. gained_listed then_past pasts others key once

pub returns-clause-commutative : goal.returns-clause-commutative
returns-clause-commutative c = both_ways

pub returns-clause-idempotent : goal.returns-clause-idempotent
returns-clause-idempotent c = repeated
