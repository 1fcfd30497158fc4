use Rattle.std.proofs.Common.{ap, ◌∙◌}
use Rattle.desk_machine.specs.declared.call.DeskCall.TheVariants as call
use Rattle.key_custody.specs.Statuses.{handed_keys}
use Rattle.key_custody.specs.Plans.{exported_plan}
use Rattle.key_custody.proofs.CustodyLemmas.{asks_cut, asks_end, export_on}
use Rattle.key_custody.proofs.delete.hand_out.Goals as goal

pub returns-in-Exported-clause-runs : goal.returns-in-Exported-clause-runs
returns-in-Exported-clause-runs g c = λ s. export_on g.K.DeskCalls.leads _ _ c.args.keys.now c.args.statuses _ _ (c.in-Ok.ensures ∙ ap (λ l. handed_keys c.args.keys.now l) c.as_slice.ensures)
    (asks_end g.K.DeskCalls.leads _ _ s (call.Export c.in-Ok.handed) c.ask.result (λ x. exported_plan c.args.statuses x) (record { statuses = c.args.statuses; file = c.in-Exported.file }) c.ask.ensures.asked (ap (λ x. exported_plan c.args.statuses x) c.in-Exported.is))

pub returns-in_default-ask : goal.returns-in_default-ask
returns-in_default-ask g c = record {
  ready = c.ask.ensures.ready;
  runs = λ s. export_on g.K.DeskCalls.leads _ _ c.args.keys.now c.args.statuses _ _ (c.in-Ok.ensures ∙ ap (λ l. handed_keys c.args.keys.now l) c.as_slice.ensures) (asks_cut g.K.DeskCalls.leads _ _ s (call.Export c.in-Ok.handed) c.ask.result (λ x. exported_plan c.args.statuses x) c.ask.ensures.asked);
}
