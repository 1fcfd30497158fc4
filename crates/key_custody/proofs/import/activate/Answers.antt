use Rattle.std.proofs.Common.{ap}
use Rattle.desk_machine.specs.declared.call.DeskCall.TheVariants as call
use Rattle.key_custody.specs.Plans.{activated_plan}
use Rattle.key_custody.specs.declared.status.KeyStatus.TheVariants as status
use Rattle.key_custody.specs.declared.status.Reason.TheVariants as reason
use Rattle.key_custody.proofs.CustodyLemmas.{asks_end, asks_cut}
use Rattle.key_custody.proofs.import.activate.Goals.{in-Active, in-Already, in-Refused, in_default}
use Rattle.key_custody.proofs.import.activate.Goals as goal

pub returns-clause-runs : goal.returns-clause-runs
returns-clause-runs g c = λ s. elim c.match-ask.branch [
  | in-Active w ↦ rw w.result-is (asks_end g.K.DeskCalls.leads _ _ s (call.Activate c.args.key.now c.args.now) c.ask.result activated_plan status.Imported c.ask.ensures.asked (ap activated_plan w.in-Active.is))
  | in-Already w ↦ rw w.result-is (asks_end g.K.DeskCalls.leads _ _ s (call.Activate c.args.key.now c.args.now) c.ask.result activated_plan status.Duplicate c.ask.ensures.asked (ap activated_plan w.in-Already.is))
  | in-Refused w ↦ rw w.result-is (asks_end g.K.DeskCalls.leads _ _ s (call.Activate c.args.key.now c.args.now) c.ask.result activated_plan (status.Error (reason.Desk w.in-Refused.refusal)) c.ask.ensures.asked (ap activated_plan w.in-Refused.is))
  | in_default w ↦ rw w.result-is (asks_cut g.K.DeskCalls.leads _ _ s (call.Activate c.args.key.now c.args.now) c.ask.result activated_plan c.ask.ensures.asked)
]
