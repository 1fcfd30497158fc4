use Rattle.std.proofs.Common.{sym, ◌∙◌}
use Rattle.node_calls.specs.declared.ask.Ask.TheVariants as ask
use Rattle.duty_turns.specs.Turns.{lived_plan}
use Rattle.duty_loop.proofs.LiveLemmas.{asked_noted, lived_none, lived_some, lived_tells}
use Rattle.duty_loop.proofs.live.ask_live.Goals as goal

pub returns-then-is_empty-clause-runs : goal.returns-then-is_empty-clause-runs
returns-then-is_empty-clause-runs g c = λ start lanes s h. lived_none g.K.DeskCalls.leads g.met.K.DeskCalls.leads_none start c.args.epoch c.args.now c.args.keys.now c.args.indices s _ (sym c.is_empty.ensures ∙ c.if-is_empty.true)

pub returns-clause-runs : goal.returns-clause-runs
returns-clause-runs g c = λ start lanes s h. lived_some g.K.DeskCalls.leads g.met.K.DeskCalls.leads_none start c.args.epoch c.args.now c.args.keys.now c.args.indices s _ _ _ (sym c.is_empty.ensures ∙ c.if-is_empty.false)
    (asked_noted g.K.DeskCalls.leads g.met.K.DeskCalls.leads_none start (ask.Liveness c.args.epoch c.args.indices) (lived_plan c.args.epoch c.args.now c.args.keys.now s) s _ _ lanes _ _ c.ask_or_tell-asked.result _
    (c.ask_or_tell-asked.ensures (lived_plan c.args.epoch c.args.now c.args.keys.now s) s (sym h.slot) (lived_tells c.args.epoch c.args.now c.args.keys.now s)) (c.note_asked.ensures.runs start lanes s _ _ h))
