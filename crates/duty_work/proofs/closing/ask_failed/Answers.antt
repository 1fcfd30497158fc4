use Rattle.duty_work.proofs.RunLemmas.{asked_failed, kind_failed}
use Rattle.duty_work.proofs.closing.ask_failed.Goals as goal

pub end_by-requires : goal.end_by-requires
end_by-requires g c = kind_failed c.call-reply.result c.call-reply.ensures.kind

pub returns-clause-runs : goal.returns-clause-runs
returns-clause-runs g c = λ start lanes nodes out s. asked_failed g.K.DeskCalls.leads start _ _ lanes nodes out s c.call-reply.result c.end_by.result c.call-reply.ensures.leads c.call-reply.ensures.kind c.call-reply.ensures.granted c.end_by.ensures
