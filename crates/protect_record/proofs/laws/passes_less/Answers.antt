use Rattle.protect_record.specs.PastLaws.{passes-with_book, passes-then_past_first, passes-then_past_second}
use Rattle.protect_record.proofs.laws.passes_less.Goals as goal

pub returns-clause-book : goal.returns-clause-book
returns-clause-book c = passes-with_book

pub returns-clause-first : goal.returns-clause-first
returns-clause-first c = passes-then_past_first

pub returns-clause-second : goal.returns-clause-second
returns-clause-second c = passes-then_past_second
