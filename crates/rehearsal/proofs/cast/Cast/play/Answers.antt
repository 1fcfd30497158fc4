use Rattle.rehearsal.specs.declared.acts.Act.TheVariants as act
use Rattle.rehearsal.proofs.CastLemmas.{plays_same}
use Rattle.rehearsal.proofs.GoLemmas.{if_ok}
use Rattle.rehearsal.proofs.cast.Cast.play.Goals as goal

pub returns-in-Stop : goal.returns-in-Stop
returns-in-Stop c = if_ok _ _ c.stop.result (λ holder h. plays_same c.args.self.now c.stop.new.self c.args.client c.args.key c.args.now act.Stop c.args.act holder c.in-Stop.is (h c.args.key)) c.stop.ensures

pub returns-in-Prune : goal.returns-in-Prune
returns-in-Prune c = if_ok _ _ c.prune.result (λ holder h. plays_same c.args.self.now c.prune.new.self c.args.client c.args.key c.args.now act.Prune c.args.act holder c.in-Prune.is (h c.args.now)) c.prune.ensures
