use Rattle.interchange_io.proofs.UnitedLemmas.{united_is_united}
use Rattle.interchange_io.proofs.laws.united_books.Goals as goal

pub returns : goal.returns
returns c = united_is_united
