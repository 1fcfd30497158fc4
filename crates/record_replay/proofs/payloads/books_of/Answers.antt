use Rattle.std.proofs.lemmas.Map.Iter.{rest_so_far, rest_more, iter_end}
use Rattle.record_replay.proofs.BooksLemmas.{books_next, books_all}
use Rattle.record_replay.proofs.payloads.books_of.Goals as goal

pub keys-preserved : goal.keys-preserved
keys-preserved c =
    let given = c.into_iter-key-iterator.ensures.into_iter_gives in
    let so_far = rest_so_far (λ p. p) c.keys.yielded _ _ c.keys.yielded_by in
    let more = rest_more (λ p. p) _ _ _ (c.in-Some.key, c.in-Some.gathered) c.in-Some.is c.next.ensures.steps in
    books_next c.args.keys.entries _ _ _ c.keys.yielded c.in-Some.key c.in-Some.gathered c.keys.books _ c.in-Ok.record given.0 so_far more given.5 c.keys.invariant c.in-Ok.ensures c.in_ok-insert.ensures.inserted

pub returns : goal.returns
returns c =
    let given = c.into_iter-key-iterator.ensures.into_iter_gives in
    books_all c.args.keys.entries c.keys.yielded c.keys.books (iter_end (λ p. p) c.args.keys.entries c.keys.yielded _ _ _ _ given.0 c.keys.yielded_by c.in-None.is c.next.ensures.steps).0 c.keys.invariant
