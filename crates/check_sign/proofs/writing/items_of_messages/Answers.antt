use Rattle.std.proofs.lemmas.Result.{IfOk-weaker}
use Rattle.check_sign.proofs.RecordLemmas.{messages_batch}
use Rattle.check_sign.proofs.writing.items_of_messages.Goals as goal

pub returns-clause-batch : goal.returns-clause-batch
returns-clause-batch c = IfOk-weaker c.message_items.result _ _ (λ items is. messages_batch items.items _ is) c.message_items.ensures
