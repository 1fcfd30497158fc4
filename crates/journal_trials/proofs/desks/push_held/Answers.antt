use Rattle.journal_trials.proofs.ReplyLemmas.{held_first}
use Rattle.journal_trials.proofs.desks.push_held.Goals as goal

pub hold-requires : goal.hold-requires
hold-requires c = record { held = held_first c.args.desk.now.contents c.call.new.self.contents _ c.in-Granted.grant c.in-Granted.ensures.counted }
