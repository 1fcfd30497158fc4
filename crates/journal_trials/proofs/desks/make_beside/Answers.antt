use Rattle.desk_machine.specs.declared.call.Outcome.TheVariants as outcome
use Rattle.journal_trials.proofs.ReplyLemmas.{stays_held, stays_beside}
use Rattle.journal_trials.proofs.desks.make_beside.Goals as goal

pub returns-in-Granted : goal.returns-in-Granted
returns-in-Granted c = record {
  held = stays_beside c.args.desk.now.contents c.call.new.self.contents c.settle.new.self.contents c.args.call c.in-Granted.second c.args._grant.now outcome.Dropped c.requires.free c.in-Granted.ensures.counted c.settle.ensures.counted c.requires.held;
}

pub returns-in_default : goal.returns-in_default
returns-in_default c = record { held = stays_held c.args.desk.now.contents c.call.new.self.contents c.args.call c.call.result c.args._grant.now c.requires.free c.call.ensures.counted c.requires.held }
