use Rattle.record_join.proofs.BeginLemmas.{known_stand, known_taken}
use Rattle.record_join.proofs.books.Books.prepare_key.Goals as goal

pub returns-clause-known : goal.returns-clause-known
returns-clause-known c = rw (← c.self.view_is) (known_stand _ _ _ _ c.in_ok-fresh.ensures.knows)

pub returns-clause-fresh : goal.returns-clause-fresh
returns-clause-fresh c = rw (← c.self.view_is, c.from_vec.ensures) (known_taken _ _ c.args.key _ c.in_ok-fresh.ensures.knows)
