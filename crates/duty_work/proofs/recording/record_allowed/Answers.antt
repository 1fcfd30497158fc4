use Rattle.desk_machine.specs.declared.call.DeskReply.TheVariants as reply
use Rattle.duty_turns.specs.Turns.{records_allowed}
use Rattle.duty_work.proofs.PruneLemmas.{cut_called}
use Rattle.duty_work.proofs.VoteLemmas.{recorded_as}
use Rattle.duty_work.proofs.recording.record_allowed.Goals as goal

pub returns-in_default-clause-called : goal.returns-in_default-clause-called
returns-in_default-clause-called g c = λ work by at start lanes nodes out next. cut_called g.K.DeskCalls.leads start (records_allowed work c.args.tasks.now (reply.Keys c.args.listed.now) next) next _

pub returns-clause-called : goal.returns-clause-called
returns-clause-called g c = λ work by at start lanes nodes out next. recorded_as g.K.DeskCalls.leads start work c.args.tasks.now c.args.listed.now c.args.domains.now c.args.moment c.in-Ok.messages next _ _ c.record.result by at c.in-Ok.ensures.value (c.record.ensures.called start lanes nodes out next)
