use Rattle.rehearsal.proofs.CastLemmas.{stops_at}
use Rattle.rehearsal.proofs.cast.Cast.stop.Goals as goal

pub returns : goal.returns
returns c = λ key. stops_at c.args.self.now _ c.args.client c.args.now key c.requires.client c.in_ok-restart.ensures
