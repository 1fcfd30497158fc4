use Rattle.std.proofs.lemmas.Result.{IfOk-weaker}
use Rattle.check_sign.proofs.ReadLemmas.{file_batch}
use Rattle.check_sign.proofs.writing.items_of_file.Goals as goal

pub returns-clause-batch : goal.returns-clause-batch
returns-clause-batch c = IfOk-weaker c.file_items.result _ _ (λ items is. file_batch items.items _ is) c.file_items.ensures
