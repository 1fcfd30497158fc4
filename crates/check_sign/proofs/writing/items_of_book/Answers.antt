use Rattle.std.proofs.lemmas.Result.{IfOk-weaker}
use Rattle.check_sign.proofs.ReadLemmas.{book_batch}
use Rattle.check_sign.proofs.writing.items_of_book.Goals as goal

pub returns-clause-batch : goal.returns-clause-batch
returns-clause-batch c = IfOk-weaker c.book_items.result _ _ (λ items is. book_batch items.items c.args.listed.now is) c.book_items.ensures
