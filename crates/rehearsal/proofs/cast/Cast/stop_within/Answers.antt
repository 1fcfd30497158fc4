use Rattle.rehearsal.proofs.CastLemmas.{stops_within}
use Rattle.rehearsal.proofs.cast.Cast.stop_within.Goals as goal

pub returns : goal.returns
returns c = stops_within c.args.self.now _ _ _ c.args.client c.args.key c.args.message c.args.now _ c.args.disk_call c.args.crash c.requires.client c.in_ok-restart.ensures c.in_ok-_voted.ensures c.in_ok-restart-2.ensures
