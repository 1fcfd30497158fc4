use Rattle.desk_machine.specs.declared.call.DeskCall.TheVariants as call
use Rattle.duty_turns.specs.Turns.{calls, failed_plan}
use Rattle.duty_work.proofs.RunLemmas.{pruned_goes, pruned_short}
use Rattle.duty_work.proofs.closing.finish.Goals as goal

pub returns-in_default-clause-runs : goal.returns-in_default-clause-runs
returns-in_default-clause-runs g c = λ start lanes nodes out s active. pruned_short g.K.DeskCalls.leads start c.args.setup.now s c.args.slot c.args.held.now.active _ _ active (c.in_default.ensures.called start lanes nodes out (calls call.HasFailed (failed_plan s)))

pub returns-clause-runs : goal.returns-clause-runs
returns-clause-runs g c = λ start lanes nodes out s active. pruned_goes g.K.DeskCalls.leads start c.args.setup.now s c.args.slot c.args.held.now.active _ _ _ c.ask_failed.result active (c.in-Ok.ensures.called start lanes nodes out (calls call.HasFailed (failed_plan s))) (c.ask_failed.ensures.runs start lanes nodes out s)
