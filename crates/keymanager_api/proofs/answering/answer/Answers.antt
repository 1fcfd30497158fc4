use Rattle.std.proofs.Common.{Some, ap, sym}
use Rattle.keymanager_api.proofs.RunLemmas.{ran_as}
use Rattle.keymanager_api.proofs.answering.answer.Goals as goal

pub returns-in-Ok-clause-runs : goal.returns-in-Ok-clause-runs
returns-in-Ok-clause-runs g c = ran_as g.K.DeskCalls.leads _ _ _ _ _ (ap Some (sym c.response_of.ensures.same)) c.in-Ok.ensures.runs
