use Rattle.std.proofs.Common.{inl}
use Rattle.validator_cli.proofs.run.refuse.Goals as goal

pub returns-in-Ok : goal.returns-in-Ok
returns-in-Ok g c = inl (record { line = c.in-Ok.line; alone = c.in-Ok.ensures; closes = c.close.ensures.closes })
