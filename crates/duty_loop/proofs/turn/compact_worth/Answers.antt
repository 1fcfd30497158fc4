use Rattle.std.proofs.Common.{sym, ◌∙◌}
use Rattle.duty_loop.proofs.ShortenLemmas.{journal_compacted, kind_compaction, not_compacted}
use Rattle.duty_loop.proofs.turn.compact_worth.Goals as goal

pub returns-then-not-is_worth_compacting-clause-called : goal.returns-then-not-is_worth_compacting-clause-called
returns-then-not-is_worth_compacting-clause-called g c = λ start lanes nodes out next. not_compacted g.K.DeskCalls.leads start next c.args.size c.args.weight _ (sym c.is_worth_compacting.ensures ∙ c.if-not-is_worth_compacting.true)

pub short_by-requires : goal.short_by-requires
short_by-requires g c = kind_compaction c.call-reply.result c.call-reply.ensures.kind

pub returns-clause-called : goal.returns-clause-called
returns-clause-called g c = λ start lanes nodes out next. journal_compacted g.K.DeskCalls.leads start next c.args.size c.args.weight _ _ lanes nodes out c.call-reply.result c.short_by.result (sym c.is_worth_compacting.ensures ∙ c.if-not-is_worth_compacting.false) c.call-reply.ensures.leads c.call-reply.ensures.kind c.call-reply.ensures.granted c.short_by.ensures
