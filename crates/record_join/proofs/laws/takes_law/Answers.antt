use Rattle.record_join.specs.KeyByKey.{TakesBook, TakesRecord}
use Rattle.record_join.proofs.OneKeyLemmas.{book_gained, kept_after, message_gained, past_gained}
use Rattle.record_join.proofs.laws.takes_law.Goals as goal

pub returns : goal.returns
returns c = record {
  book = book_gained;
  join = past_gained;
  message = message_gained;
  keys = λ listed old new key takes. kept_after TakesBook listed old new key takes;
  joined_keys = λ others old new key takes. kept_after TakesRecord others old new key takes;
}
