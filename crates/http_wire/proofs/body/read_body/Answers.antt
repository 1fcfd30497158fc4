use Rattle.http_wire.proofs.body.read_body.Goals as goal

pub returns-in-Sized-clause-step : goal.returns-in-Sized-clause-step
returns-in-Sized-clause-step g c = rw c.in-Sized.is (c.read_whole.ensures.step c.args.to_end)

pub returns-in-Sized-clause-bound : goal.returns-in-Sized-clause-bound
returns-in-Sized-clause-bound g c = rw c.in-Sized.is c.read_whole.ensures.bound
