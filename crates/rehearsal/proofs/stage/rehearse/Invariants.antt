use Rattle.std.proofs.Common.{◌≡◌}
use Rattle.rehearsal.specs.Rehearsals.{Stood}
use Rattle.rehearsal.proofs.stage.rehearse.Given as goal

abbrev pub invariant-steps : goal.invariant-steps
invariant-steps l = record { stood : Stood l.stage.number l.stage.count l.step l.stage; number : l.stage.number ≡ l.number; count : l.stage.count ≡ l.clients }
