use Rattle.duty_work.proofs.PlacedLemmas.{due_placed}
use Rattle.duty_loop.proofs.laws.due_law.Goals as goal

pub returns : goal.returns
returns c = record { places = due_placed }
