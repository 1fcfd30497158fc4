use Rattle.duty_safety.proofs.ToldLemmas.{all_told}
use Rattle.duty_safety.proofs.TurnLemmas.{clock_on_time, turn_on_time, turns_on_time}
use Rattle.duty_safety.proofs.laws.on_time_law.Goals as goal

pub returns : goal.returns
returns g c = record {
  turn = turn_on_time;
  turns = turns_on_time;
  clock = clock_on_time g.K.DeskCalls.leads;
  lines = all_told;
}
