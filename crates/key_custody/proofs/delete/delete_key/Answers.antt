use Rattle.std.proofs.Common.{ap}
use Rattle.desk_machine.specs.declared.call.DeskCall.TheVariants as call
use Rattle.key_custody.specs.Plans.{closing_plan, given_up_plan}
use Rattle.key_custody.specs.declared.status.KeyStatus.TheVariants as status
use Rattle.key_custody.proofs.CustodyLemmas.{asks_end, asks_cut, asks_on, runs_delete}
use Rattle.key_custody.proofs.delete.delete_key.Goals.{in-Closing, in-Unknown, in-NotActive, in_default}
use Rattle.key_custody.proofs.delete.delete_key.Goals as goal

pub returns-clause-runs : goal.returns-clause-runs
returns-clause-runs g c = elim c.match-ask.branch [
  | in-Closing w ↦ rw (w.desk-is, w.signer-is, w.result-is) (asks_on g.K.DeskCalls.leads _ _ _ _ (call.BeginClose c.args.key.now) c.ask.result (λ x. closing_plan c.args.key.now x) _ _ c.ask.ensures.asked (ap (λ x. closing_plan c.args.key.now x) w.in-Closing.is)
      (runs_delete g.K.DeskCalls.leads g.met.K.DeskCalls.leads_none _ _ _ _ c.args.key.now w.delete-reply.result (λ r. given_up_plan c.args.key.now r) _ w.delete-reply.ensures.told w.delete-reply.ensures.later w.delete-reply.ensures.fault w.delete-reply.ensures.denials w.delete-reply.ensures.denied (w.close_given_up.ensures.runs _)))
  | in-Unknown w ↦ rw (w.desk-is, w.signer-is, w.result-is) (asks_end g.K.DeskCalls.leads _ _ _ (call.BeginClose c.args.key.now) c.ask.result (λ x. closing_plan c.args.key.now x) status.NotFound c.ask.ensures.asked (ap (λ x. closing_plan c.args.key.now x) w.in-Unknown.is))
  | in-NotActive w ↦ rw (w.desk-is, w.signer-is, w.result-is) (asks_end g.K.DeskCalls.leads _ _ _ (call.BeginClose c.args.key.now) c.ask.result (λ x. closing_plan c.args.key.now x) status.NotActive c.ask.ensures.asked (ap (λ x. closing_plan c.args.key.now x) w.in-NotActive.is))
  | in_default w ↦ rw (w.desk-is, w.signer-is, w.result-is) (asks_cut g.K.DeskCalls.leads _ _ _ (call.BeginClose c.args.key.now) c.ask.result (λ x. closing_plan c.args.key.now x) c.ask.ensures.asked)
]
