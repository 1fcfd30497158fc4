use Rattle.duty_loop.proofs.LiveLemmas.{kind_noted, told}
use Rattle.duty_loop.proofs.live.tell.Goals as goal

pub noted_by-requires : goal.noted_by-requires
noted_by-requires g c = kind_noted c.args.note.now.0 c.args.epoch c.args.note.now.1 c.args.now c.call-reply.result c.call-reply.ensures.kind

pub returns-clause-noted : goal.returns-clause-noted
returns-clause-noted g c = λ start lanes nodes out next. told g.K.DeskCalls.leads g.met.K.DeskCalls.leads_none start _ _ lanes nodes out c.args.note.now.0 c.args.epoch c.args.note.now.1 c.args.now c.call-reply.result next c.noted_by.result c.call-reply.ensures.leads c.call-reply.ensures.kind c.call-reply.ensures.granted c.noted_by.ensures
