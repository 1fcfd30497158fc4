use Rattle.std.proofs.Common.{subst, sym}
use Rattle.duty_turns.specs.Standing.{Standing}
use Rattle.duty_asks.specs.Placed.{HoldsPlaced}
use Rattle.duty_asks.proofs.TakeLemmas.{no_proposers}
use Rattle.duty_asks.proofs.take.set_proposers.Goals as goal

pub returns-in_default : goal.returns-in_default
returns-in_default c = λ s h. subst (λ (x : Standing). HoldsPlaced c.args.held.now x) (sym (no_proposers c.args.epoch c.args.answer s c.in_default.not-Proposer)) h
