use Rattle.keymanager_api.proofs.send.send_reply.Goals as goal

pub returns-in-Ok-clause-sends : goal.returns-in-Ok-clause-sends
returns-in-Ok-clause-sends g c = rw c.in-Ok.is c.send_own.ensures.sends

pub returns-in-Err-clause-sends : goal.returns-in-Err-clause-sends
returns-in-Err-clause-sends g c = rw c.in-Err.is c.send_memory.ensures.sends
