use Rattle.protect_record.specs.PastLaws.{passes-with_book}
use Rattle.pruning_law.proofs.BookLemmas.{book_kept}
use Rattle.pruning_law.proofs.laws.book_law.Goals as goal

pub returns-clause-kept : goal.returns-clause-kept
returns-clause-kept c = book_kept

pub returns-clause-nothing_more : goal.returns-clause-nothing_more
returns-clause-nothing_more c = passes-with_book
