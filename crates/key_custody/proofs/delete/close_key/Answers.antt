use Rattle.std.proofs.Common.{ap}
use Rattle.key_custody.specs.Plans.{closed_plan}
use Rattle.key_custody.specs.declared.status.KeyStatus.TheVariants as status
use Rattle.key_custody.specs.declared.status.Reason.TheVariants as reason
use Rattle.key_custody.specs.declared.status.DeskRefusal.TheVariants as refusal
use Rattle.key_custody.proofs.CustodyLemmas.{closes_end, closes_cut}
use Rattle.key_custody.proofs.delete.close_key.Goals.{in-Closed, in-Refused, in-Unknown, in_default}
use Rattle.key_custody.proofs.delete.close_key.Goals as goal

pub returns-clause-runs : goal.returns-clause-runs
returns-clause-runs g c = λ s. elim c.match-close.branch [
  | in-Closed w ↦ rw w.result-is (closes_end g.K.DeskCalls.leads _ _ s c.args.key.now c.close.result closed_plan status.Deleted c.close.ensures.closes (ap closed_plan w.in-Closed.is))
  | in-Refused w ↦ rw w.result-is (closes_end g.K.DeskCalls.leads _ _ s c.args.key.now c.close.result closed_plan (status.Error (reason.Desk w.in-Refused.refusal)) c.close.ensures.closes (ap closed_plan w.in-Refused.is))
  | in-Unknown w ↦ rw w.result-is (closes_end g.K.DeskCalls.leads _ _ s c.args.key.now c.close.result closed_plan (status.Error (reason.Desk refusal.Unknown)) c.close.ensures.closes (ap closed_plan w.in-Unknown.is))
  | in_default w ↦ rw w.result-is (closes_cut g.K.DeskCalls.leads _ _ s c.args.key.now c.close.result closed_plan c.close.ensures.closes)
]
