use Rattle.std.proofs.Common.{sym, ◌∙◌}
use Rattle.duty_work.proofs.PruneLemmas.{file_merged, kind_merged, none_merged}
use Rattle.duty_work.proofs.prune.merge_file.Goals as goal

pub returns-then-is_empty-clause-called : goal.returns-then-is_empty-clause-called
returns-then-is_empty-clause-called g c = λ start lanes nodes out next. none_merged g.K.DeskCalls.leads start c.args.file c.args.file.books next _ (sym c.is_empty.ensures ∙ c.if-is_empty.true)

pub call-reply-requires-clause-allows : goal.call-reply-requires-clause-allows
call-reply-requires-clause-allows g c = g.met.K.DeskCalls.free _ _ c.requires.once

pub short_by-requires : goal.short_by-requires
short_by-requires g c = kind_merged c.args.file c.call-reply.result c.call-reply.ensures.kind

pub returns-clause-called : goal.returns-clause-called
returns-clause-called g c = λ start lanes nodes out next. file_merged g.K.DeskCalls.leads start c.args.file c.args.file.books next _ _ lanes nodes out c.call-reply.result c.short_by.result (sym c.is_empty.ensures ∙ c.if-is_empty.false) c.call-reply.ensures.leads c.call-reply.ensures.kind c.call-reply.ensures.granted c.short_by.ensures
