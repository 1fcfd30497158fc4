-- The reply of the node in memory by its next answer.
use Rattle.std.proofs.Common.{◌≡◌, Bool, true, false, Option, Some, None, Result, Ok, Err, IfOk, [], refl, cond}
use Rattle.node_calls.specs.declared.ask.Ask.{Ask}
use Rattle.node_calls.specs.declared.answer.Answer.{Answer}
use Rattle.node_calls.specs.declared.answer.NodeFault.{NodeFault}
use Rattle.node_calls.specs.declared.answer.NodeFault.TheVariants as fault
use Rattle.node_calls.specs.Fitting.{fits}
use Rattle.node_calls.specs.InMemory.{reply_of, is_made, is_failed, takes_answer}

pub reply_fits : (ask : Ask) (next : Option Answer) → IfOk (reply_of ask next) (λ answer. fits ask answer ≡ true)
reply_fits ask None = tt
reply_fits ask (Some answer) = at (fits ask answer) refl where
  at : (b : Bool) → fits ask answer ≡ b → IfOk {T = Answer} {E = NodeFault} (cond b (Ok answer) (Err (fault.Unreadable []))) (λ a. fits ask a ≡ true)
  at true e = e
  at false e = tt

-- it was made, did not fail, and took an answer
pub reply_counts : (ask : Ask) (next : Option Answer) → (is_made (reply_of ask next) ≡ true) × (is_failed (reply_of ask next) ≡ false) × (takes_answer (reply_of ask next) ≡ true)
reply_counts ask None = (refl, refl, refl)
reply_counts ask (Some answer) = at (fits ask answer) where
  at : (b : Bool) → (is_made {T = Answer} (cond b (Ok answer) (Err (fault.Unreadable []))) ≡ true) × (is_failed {T = Answer} (cond b (Ok answer) (Err (fault.Unreadable []))) ≡ false) × (takes_answer (cond b (Ok answer) (Err (fault.Unreadable []))) ≡ true)
  at true = (refl, refl, refl)
  at false = (refl, refl, refl)
