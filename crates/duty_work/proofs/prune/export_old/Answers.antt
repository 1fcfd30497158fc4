use Rattle.std.proofs.Common.{sym, ◌∙◌}
use Rattle.duty_work.proofs.PruneLemmas.{export_short, keys_exported, none_exported}
use Rattle.duty_work.proofs.prune.export_old.Goals as goal

pub returns-then-is_empty-clause-called : goal.returns-then-is_empty-clause-called
returns-then-is_empty-clause-called g c = λ start lanes nodes out next. none_exported g.K.DeskCalls.leads start c.args.keep c.args.epoch c.args.keys next _ (sym c.is_empty.ensures ∙ c.if-is_empty.true)

pub returns-in-Exported-clause-called : goal.returns-in-Exported-clause-called
returns-in-Exported-clause-called g c = λ start lanes nodes out next. keys_exported g.K.DeskCalls.leads start c.args.keep c.args.epoch c.args.keys next _ _ lanes nodes out _ c.call.result c.in-Exported.file c.merge_old.result (sym c.is_empty.ensures ∙ c.if-is_empty.false) c.call.ensures.leads c.call.ensures.kind c.call.ensures.granted c.in-Exported.is
    (c.merge_old.ensures.called start lanes nodes out next)

pub returns-in-OutOfMemory-clause-called : goal.returns-in-OutOfMemory-clause-called
returns-in-OutOfMemory-clause-called g c = λ start lanes nodes out next. export_short g.K.DeskCalls.leads start c.args.keep c.args.epoch c.args.keys next _ _ lanes nodes out c.call.result (sym c.is_empty.ensures ∙ c.if-is_empty.false) c.call.ensures.leads c.call.ensures.kind c.call.ensures.granted
