use Rattle.std.proofs.Common.{sym, ◌∙◌}
use Rattle.duty_work.proofs.VoteLemmas.{all_recorded, kind_recorded, none_recorded}
use Rattle.duty_work.proofs.recording.record.Goals as goal

pub returns-then-is_empty-clause-called : goal.returns-then-is_empty-clause-called
returns-then-is_empty-clause-called g c = λ start lanes nodes out next. none_recorded g.K.DeskCalls.leads start c.args.moment c.args.messages next _ (sym c.is_empty.ensures ∙ c.if-is_empty.true)

pub call-reply-requires-clause-allows : goal.call-reply-requires-clause-allows
call-reply-requires-clause-allows g c = g.met.K.DeskCalls.free _ _ (c.requires.once, c.requires.moment)

pub short_by-requires : goal.short_by-requires
short_by-requires g c = kind_recorded c.args.messages c.args.moment c.call-reply.result c.call-reply.ensures.kind

pub returns-clause-called : goal.returns-clause-called
returns-clause-called g c = λ start lanes nodes out next. all_recorded g.K.DeskCalls.leads start c.args.moment c.args.messages next _ _ lanes nodes out c.call-reply.result c.short_by.result (sym c.is_empty.ensures ∙ c.if-is_empty.false) c.call-reply.ensures.leads c.call-reply.ensures.kind c.call-reply.ensures.granted c.short_by.ensures
