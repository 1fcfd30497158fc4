use Rattle.duty_safety.proofs.SafeLemmas.{granted_safe, posted_safe}
use Rattle.duty_safety.proofs.laws.safe_law.Goals as goal

pub returns-clause-granted : goal.returns-clause-granted
returns-clause-granted c = granted_safe

pub returns-clause-posted : goal.returns-clause-posted
returns-clause-posted c = posted_safe
