-- When a schedule stands for the answers that were taken.
use Rattle.std.specs.Prelude.{◌≡◌, List}
use Rattle.duty_schedule.specs.Answers.{TakenAnswer, attester_answers, held, newest_epoch, proposer_answers}
use Rattle.duty_schedule.specs.Holding.{HoldsKept}
use Rattle.duty_schedule.specs.declared.schedule.Schedule.{Schedule}

-- it knows the newest epoch of the answers, and holds of each kind and epoch that is kept what is held of them
pub record Stands (schedule : Schedule) (answers : List TakenAnswer) : Type 0 where
  pub newest : schedule.newest_epoch ≡ newest_epoch answers
  pub proposers : HoldsKept schedule.proposers schedule.newest_epoch (λ epoch. held (proposer_answers epoch answers))
  pub attesters : HoldsKept schedule.attesters schedule.newest_epoch (λ epoch. held (attester_answers epoch answers))
