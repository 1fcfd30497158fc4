use Rattle.desk_machine.proofs.GrantLemmas.{without_at}
use Rattle.desk_machine.proofs.open_grants.place_of.Goals as goal

pub returns-then-grant-number-clause-found : goal.returns-then-grant-number-clause-found
returns-then-grant-number-clause-found c = (c.loop-i-test.true, without_at c.args.grants.now c.args.number c.loop-i.i _ c.loop-i-test.true c.if-grant-number.true c.loop-i.invariant)
