use Rattle.std.proofs.Common.{Some}
use Rattle.duty_turns.specs.Turns.{prunes}
use Rattle.duty_work.proofs.PruneLemmas.{cut_called, keys_pruned}
use Rattle.duty_work.proofs.prune.prune_keys.Goals as goal

pub returns-in_default-clause-called : goal.returns-in_default-clause-called
returns-in_default-clause-called g c = λ start lanes nodes out next. cut_called g.K.DeskCalls.leads start (prunes (Some c.args.keep) c.args.slot (Some c.args.keys.now) next) next _

pub returns-clause-called : goal.returns-clause-called
returns-clause-called g c = λ start lanes nodes out next. keys_pruned g.K.DeskCalls.leads start c.args.keep c.args.slot c.epoch_of.result c.args.keys.now c.in-Ok.mine next _ _ c.export_old.result c.epoch_of.ensures.epoch c.in-Ok.ensures (c.export_old.ensures.called start lanes nodes out next)
