use Rattle.std.proofs.Common.{ap}
use Rattle.std.specs.Prelude.{string_bytes}
use Rattle.desk_machine.specs.declared.call.DeskCall.TheVariants as call
use Rattle.key_custody.specs.Plans.{merged_plan, paired}
use Rattle.key_custody.specs.declared.import.ImportEnd.TheVariants as ending
use Rattle.key_custody.proofs.CustodyLemmas.{asks_end, asks_cut, asks_on}
use Rattle.key_custody.proofs.import.merge_first.Goals.{in-Merged, in-Refused, in_default}
use Rattle.key_custody.proofs.import.merge_first.Goals as goal

pub returns-clause-runs : goal.returns-clause-runs
returns-clause-runs g c = elim c.match-ask.branch [
  | in-Merged w ↦ rw (w.desk-is, w.signer-is, w.result-is) (asks_on g.K.DeskCalls.leads _ _ _ _ (call.Merge c.args.file) c.ask.result (λ x. merged_plan c.args.now (paired (λ s. string_bytes s) c.args.keystores.now c.args.passwords.now) x) _ _ c.ask.ensures.asked (ap (λ x. merged_plan c.args.now (paired (λ s. string_bytes s) c.args.keystores.now c.args.passwords.now) x) w.in-Merged.is) w.treat.ensures.runs)
  | in-Refused w ↦ rw (w.desk-is, w.signer-is, w.result-is) (asks_end g.K.DeskCalls.leads _ _ _ (call.Merge c.args.file) c.ask.result (λ x. merged_plan c.args.now (paired (λ s. string_bytes s) c.args.keystores.now c.args.passwords.now) x) (ending.MergeRefused w.in-Refused.refusal) c.ask.ensures.asked (ap (λ x. merged_plan c.args.now (paired (λ s. string_bytes s) c.args.keystores.now c.args.passwords.now) x) w.in-Refused.is))
  | in_default w ↦ rw (w.desk-is, w.signer-is, w.result-is) (asks_cut g.K.DeskCalls.leads _ _ _ (call.Merge c.args.file) c.ask.result (λ x. merged_plan c.args.now (paired (λ s. string_bytes s) c.args.keystores.now c.args.passwords.now) x) c.ask.ensures.asked)
]
