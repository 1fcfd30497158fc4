use Rattle.duty_work.proofs.PruneLemmas.{cut_called, old_merged}
use Rattle.duty_turns.specs.Turns.{exported}
use Rattle.desk_machine.specs.declared.call.DeskReply.TheVariants as reply
use Rattle.duty_work.proofs.prune.merge_old.Goals as goal

pub returns-in_default-clause-called : goal.returns-in_default-clause-called
returns-in_default-clause-called g c = λ start lanes nodes out next. cut_called g.K.DeskCalls.leads start (exported c.args.keep c.args.epoch (reply.Exported c.args.file.now) next) next _

pub returns-clause-called : goal.returns-clause-called
returns-clause-called g c = λ start lanes nodes out next. old_merged g.K.DeskCalls.leads start c.args.keep c.args.epoch c.args.file.now c.in-Ok.pruning next _ _ c.merge_file.result c.in-Ok.ensures.file (c.merge_file.ensures.called start lanes nodes out next)
